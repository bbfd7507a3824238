use Rattle.relay_results.specs.Outside.{Items}
use Rattle.relay_core.proofs.Shown.{same_state}
use Rattle.relay_world.specs.State.{Desk}
use Rattle.relay_world.proofs.Desks.{answer_keeps}
use Rattle.relay_world.proofs.desk.Desk.reply.Goals as goal

pub invariant_of-self : goal.invariant_of-self
invariant_of-self c =
    let i = c.self.inside in
    let d : Desk = record { queue = i.queue.items; senders = i.senders.items; taken = i.taken.items; lane = i.lane.state } in
    answer_keeps c.reply.result c.args.number (Items c.args.outcomes.items) d c.reply.new.self.state c.reply.ensures.ok (same_state c.reply.result c.self.inside.lane c.reply.new.self c.reply.ensures.unchanged) c.self.invariant
