use Rattle.std.proofs.Common.{sym, subst}
use Rattle.relay_world.specs.State.{Desk}
use Rattle.relay_world.specs.Memory.{IsDesk}
use Rattle.relay_world.proofs.desk.Desk.has_batch.Goals as goal

pub invariant_of-self : goal.invariant_of-self
invariant_of-self c =
    let i = c.self.inside in
    let d : Desk = record { queue = i.queue.items; senders = i.senders.items; taken = i.taken.items; lane = i.lane.state } in
    subst (λ s. IsDesk (record d { lane = s })) (sym c.has_batch.ensures.unchanged) c.self.invariant
