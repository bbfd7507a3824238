use Rattle.relay_results.specs.declared.cause.Loss.TheVariants as loss
use Rattle.relay_results.specs.Outside.{Lost}
use Rattle.relay_core.proofs.Shown.{same_state}
use Rattle.relay_world.specs.State.{Desk}
use Rattle.relay_world.proofs.Desks.{answer_keeps}
use Rattle.relay_world.proofs.desk.Desk.lost.Goals as goal

pub invariant_of-self : goal.invariant_of-self
invariant_of-self c =
    let i = c.self.inside in
    let d : Desk = record { queue = i.queue.items; senders = i.senders.items; taken = i.taken.items; lane = i.lane.state } in
    answer_keeps c.lost.result c.args.number (Lost loss.Closed) d c.lost.new.self.state c.lost.ensures.ok (same_state c.lost.result c.self.inside.lane c.lost.new.self c.lost.ensures.unchanged) c.self.invariant
