use Rattle.std.proofs.Common.{◌≡◌, ◌++◌, map}
use Rattle.std.specs.Vec.Iter.{into_iter_items}
use Rattle.relay_serve.specs.Workers.{AreUnused, producer_in, receipts_in}
use Rattle.relay_serve.proofs.workers.pair_up.Given as goal

-- the first producers are paired with the first ends, and the others are left, with an end for each
abbrev pub invariant-producers : goal.invariant-producers
invariant-producers l = record {
  paired : map producer_in l.paired.items ++ into_iter_items l.producer-iterator ≡ l.fn.producers.items;
  taken : map receipts_in l.paired.items ++ into_iter_items l.takes ≡ l.fn.takes.items;
  unused : AreUnused (into_iter_items l.producer-iterator) (into_iter_items l.takes);
}
