use Rattle.std.proofs.Common.{◌≡◌, ◌+◌, ◌++◌, length, map, vec_capacity, vec_len}
use Rattle.std.specs.Vec.Iter.{into_iter_items}
use Rattle.relay_serve.specs.Batches.{end_in}
use Rattle.relay_serve.proofs.batch.add_ends.Given as goal

-- there is a place for each that is left
abbrev pub invariant-items : goal.invariant-items
invariant-items l = record {
  len : vec_len l.ends + length (into_iter_items l.item-iterator) ≡ vec_len l.fn.ends + vec_len l.fn.items;
  items : l.ends.items ++ map end_in (into_iter_items l.item-iterator) ≡ l.fn.ends.items ++ map end_in l.fn.items.items;
  room : vec_capacity l.ends ≡ vec_capacity l.fn.ends;
}
