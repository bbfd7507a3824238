use Rattle.std.proofs.Common.{◌≡◌, ◌++◌}
use Rattle.std.specs.Vec.Iter.{into_iter_items}
use Rattle.relay_telling_tests.specs.Handles.{HaveNotPut, HaveNotTaken, new_names, open_names}
use Rattle.relay_telling_tests.proofs.relays.windowed.Given as goal

abbrev pub invariant-loop-producer : goal.invariant-loop-producer
invariant-loop-producer l = record {
  put : HaveNotPut (into_iter_items l.producer-iterator);
  taken : HaveNotTaken (into_iter_items l.takes);
  names : open_names l.all.items ++ new_names (into_iter_items l.producer-iterator) ≡ new_names l.fn.producers.items;
}
