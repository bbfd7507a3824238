use Rattle.std.specs.Vec.Iter.{into_iter_items}
use Rattle.relay_run.proofs.Meeting.{TakesLanes}
use Rattle.relay_run.proofs.marking.lanes_of.Given as goal

abbrev pub invariant-tells : goal.invariant-tells
invariant-tells g l = TakesLanes l.fn.tells.items (into_iter_items l.tell-iterator) l.lanes.items
