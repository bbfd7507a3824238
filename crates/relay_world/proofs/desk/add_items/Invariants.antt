use Rattle.std.proofs.Common.{◌≡◌, ◌≤◌, take, length, vec_len}
use Rattle.std.specs.Prelude.{map}
use Rattle.std.specs.Vec.{vec_capacity}
use Rattle.relay_world.specs.Changes.{item_of}
use Rattle.relay_world.proofs.desk.add_items.Given as goal

abbrev pub invariant-batch : goal.invariant-batch
invariant-batch l = record {
  items : l.items.items ≡ map item_of (take l.item-index l.batch);
  counted : vec_len l.items ≡ l.item-index;
  room : length l.batch ≤ vec_capacity l.items;
}
