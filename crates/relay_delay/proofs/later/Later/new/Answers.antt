use Rattle.relay_delay.proofs.Heaping.{later_none}
use Rattle.relay_delay.proofs.later.Later.new.Goals as goal

pub invariant_of-result : goal.invariant_of-result
invariant_of-result c = later_none _ c.new.ensures.items c.new.ensures.heap_order
