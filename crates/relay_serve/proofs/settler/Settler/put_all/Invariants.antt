use Rattle.std.proofs.Common.{◌≡◌, ◌+◌, ◌++◌, List, length, vec_capacity, vec_len}
use Rattle.std.specs.Vec.Iter.{into_iter_items}
use Rattle.relay_serve.specs.Putting.{CameBy}
use Rattle.relay_serve.specs.Settling.{Stays, Event, puts_in}
use Rattle.relay_serve.proofs.settler.Settler.put_all.Given as goal

-- the first writes were put, and there is a place for each that is left
abbrev pub invariant-writes : goal.invariant-writes
invariant-writes g l = record {
  stays : Stays l.fn.self.producer l.self.producer;
  len : vec_len l.batch.items + length (into_iter_items l.key-iterator) ≡ vec_len l.fn.batch.items + vec_len l.fn.writes;
  room : vec_capacity l.batch.items ≡ vec_capacity l.fn.batch.items;
  came : (events : List Event) × (l.fn.writes.items ≡ puts_in events ++ into_iter_items l.key-iterator) × CameBy l.fn.self.producer events l.self.producer l.batch;
}
