use Rattle.std.proofs.Common.{◌≡◌, ◌++◌, map}
use Rattle.std.specs.Vec.Iter.{into_iter_items}
use Rattle.relay_producer.specs.Ends.{open_end}
use Rattle.relay_producer.proofs.lanes.open_all.Given as goal

abbrev pub invariant-loop-put : goal.invariant-loop-put
invariant-loop-put l = l.ends.items ++ map open_end (into_iter_items l.put-iterator) ≡ map open_end l.fn.puts.items
