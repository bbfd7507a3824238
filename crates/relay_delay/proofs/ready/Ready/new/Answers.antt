use Rattle.relay_delay.proofs.Heaping.{ready_none}
use Rattle.relay_delay.proofs.ready.Ready.new.Goals as goal

pub invariant_of-result : goal.invariant_of-result
invariant_of-result c = ready_none _ _ c.new-2.ensures.items c.new.ensures.items c.new-2.ensures.heap_order
