use Rattle.std.proofs.Common.{ap, sym, subst}
use Rattle.relay_world.specs.Memory.{IsDesk}
use Rattle.relay_world.proofs.Desks.{fresh_is_desk}
use Rattle.relay_world.proofs.desk.Desk.new.Goals as goal

pub invariant_of-result : goal.invariant_of-result
invariant_of-result c =
    let senders = c.in_ok-vec.ensures.items_if_clones_equal (λ y e. e) in
    let state = ap (λ l. l.state) c.in_ok-new.ensures in
    subst IsDesk (sym (λ i. record { queue = c.new.ensures.items i; senders = senders i; taken = c.new-2.ensures.items i; lane = state i })) (fresh_is_desk c.args.config)
