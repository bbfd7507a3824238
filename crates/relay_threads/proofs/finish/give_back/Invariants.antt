use Rattle.std.proofs.Common.{◌≡◌, ◌+◌, ◌≤◌, ◌++◌, map, vec_len, vec_capacity}
use Rattle.std.specs.Vec.Iter.{into_iter_items, into_iter_len}
use Rattle.relay_producer.specs.States.{ClosedProducerState}
use Rattle.relay_threads.proofs.finish.give_back.Given as goal

abbrev pub invariant-loop-producer : goal.invariant-loop-producer
invariant-loop-producer l = record {
  places : vec_len l.rows + into_iter_len l.producer-iterator + 1 ≤ vec_capacity l.rows;
  rows : map (λ r. r.items) l.rows.items ++ map (λ (c : ClosedProducerState). c.ends) (into_iter_items l.producer-iterator) ≡ map (λ (c : ClosedProducerState). c.ends) l.fn.producers.items;
}
