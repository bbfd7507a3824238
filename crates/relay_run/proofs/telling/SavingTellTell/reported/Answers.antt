use Rattle.std.proofs.Common.{List, map, sym, subst}
use Rattle.relay_core.specs.declared.report.Report.{Report}
use Rattle.relay_core.specs.declared.success.Success.{Success}
use Rattle.relay_run.specs.Settling.{Settled}
use Rattle.relay_run.specs.Saving.{KeepsAll, KeepsOneMore}
use Rattle.relay_run.proofs.Savers.{after_both, noted_one, settles_report}
use Rattle.relay_run.proofs.telling.SavingTellTell.reported.Goals as goal

pub invariant_of-self-2 : goal.invariant_of-self-2
invariant_of-self-2 g c =
    let s = c.self.inside in
    let written = g.P.ByteStream.written in
    let failed = g.P.ByteStream.failed in
    let file = c.save.new.file in
    let later = c.in_ok-self-inside.field-0 in
    let applied = map (λ (x : Success × Unit {0}). x.0) s.applied.items in
    let reported = map (λ (x : Report × Unit {0}). x.0) s.reported.items in
    let before : Settled = record { applied = s.settled.applied; saved = s.settled.saved } in
    let after : Settled = record { applied = c.reported.new.self.applied; saved = c.reported.new.self.saved } in
    let told = after_both later c.args.report.now.name before after c.reported.ensures.applied c.reported.ensures.saved in
    let one = subst (λ (r : Report). KeepsOneMore r s.failed later (written s.file) (written file) (failed s.file) (failed file)) c.in_ok-named.ensures c.in_ok-self-inside.ensures.ok in
    subst (λ (l : List Report). KeepsAll later (written file) (failed file) s.numbering.before applied l after) (sym (noted_one s.reported.items c.and-self-inside.result.items c.args.report.now c.and-self-inside.ensures))
    (settles_report c.args.report.now (written s.file) (written file) (failed s.file) (failed file) s.numbering.before applied reported before after s.failed later c.in_ok-self-inside.ensures.stays one c.in_ok-self-inside.ensures.on told c.self.invariant)
