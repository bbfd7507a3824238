use Rattle.relay_world.specs.State.{Desk}
use Rattle.relay_world.proofs.Desks.{request_keeps}
use Rattle.relay_world.proofs.desk.Desk.request.Goals as goal

pub invariant_of-self : goal.invariant_of-self
invariant_of-self c =
    let i = c.self.inside in
    let d : Desk = record { queue = i.queue.items; senders = i.senders.items; taken = i.taken.items; lane = i.lane.state } in
    request_keeps c.form.result d c.form.new.lane.state c.form.ensures.ok c.form.ensures.unchanged c.self.invariant
