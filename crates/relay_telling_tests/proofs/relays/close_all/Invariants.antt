use Rattle.std.proofs.Common.{◌≡◌, ◌++◌}
use Rattle.std.specs.Vec.Iter.{into_iter_items}
use Rattle.relay_telling_tests.specs.Handles.{open_names, closed_names}
use Rattle.relay_telling_tests.proofs.relays.close_all.Given as goal

abbrev pub invariant-loop-producer : goal.invariant-loop-producer
invariant-loop-producer g l = closed_names l.closed.items ++ open_names (into_iter_items l.producer-iterator) ≡ open_names l.fn.producers.items
