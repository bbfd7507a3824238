use Rattle.std.proofs.Common.{None}
use Rattle.relay_results.specs.Outside.{Whole}
use Rattle.relay_core.proofs.Shown.{same_state}
use Rattle.relay_world.specs.State.{Desk}
use Rattle.relay_world.proofs.Desks.{answer_keeps}
use Rattle.relay_world.proofs.desk.Desk.whole.Goals as goal

pub invariant_of-self : goal.invariant_of-self
invariant_of-self c =
    let i = c.self.inside in
    let d : Desk = record { queue = i.queue.items; senders = i.senders.items; taken = i.taken.items; lane = i.lane.state } in
    answer_keeps c.whole.result c.args.number (Whole c.args.status None) d c.whole.new.self.state c.whole.ensures.ok (same_state c.whole.result c.self.inside.lane c.whole.new.self c.whole.ensures.unchanged) c.self.invariant
