use Rattle.std.proofs.Common.{◌≡◌, ◌≤◌, ◌+◌, ◌++◌, length, vec_len}
use Rattle.std.specs.Prelude.{map}
use Rattle.std.specs.Vec.{vec_capacity}
use Rattle.std.specs.Vec.Iter.{into_iter_items}
use Rattle.relay_world.specs.State.{Desk}
use Rattle.relay_world.proofs.ended.take_all.Given as goal

abbrev pub invariant-loop-desk : goal.invariant-loop-desk
invariant-loop-desk l = record {
  all : l.lists.items ++ map (λ (d : Desk). d.taken) (into_iter_items l.desk-iterator) ≡ map (λ (d : Desk). d.taken) l.fn.desks.items;
  room : vec_len l.lists + length (into_iter_items l.desk-iterator) ≤ vec_capacity l.lists;
}
