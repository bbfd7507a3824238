use Rattle.std.proofs.Common.{Err, refl, sym, ◌∙◌, inr}
use Rattle.relay_report.specs.declared.picking.PickFault.TheVariants as fault
use Rattle.relay_report.proofs.Picked.{closes_by, front_sent}
use Rattle.relay_report.proofs.picking.close.Goals as goal

pub returns-in-Err : goal.returns-in-Err
returns-in-Err g c =
    let s = c.in-Err.ensures.sent in
    closes_by c.args.result_so_far (Err fault.Write) c.args.text.now _ _ _ _ (sym c.is_over.ensures ∙ c.if-is_over.false) (inr (refl, front_sent c.args.text.now c.in-Err.field-0 _ _ s.1, c.in-Err.ensures.failed))
