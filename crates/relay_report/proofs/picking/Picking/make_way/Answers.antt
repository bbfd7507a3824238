use Rattle.relay_report.proofs.Picked.{front_sent}
use Rattle.relay_report.proofs.picking.Picking.make_way.Goals as goal

pub returns-in-Err-clause-front : goal.returns-in-Err-clause-front
returns-in-Err-clause-front g c =
    let s = rw c.as_slice.ensures.value at c.in-Err.ensures.sent in front_sent c.args.self.now.text.items c.in-Err.field-0 _ _ s.1
