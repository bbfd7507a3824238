use Rattle.std.proofs.Common.{◌≡◌, [], map, vec_len}
use Rattle.relay_telling.specs.New.{channels_of, new_take, AreNewTells}
use Rattle.relay_telling.proofs.lane_tells.telling.Given as goal

abbrev pub invariant-loop-lane : goal.invariant-loop-lane
invariant-loop-lane l = record { lanes : vec_len l.tells ≡ l._lane; tells : AreNewTells [] 0 l.tells.items }

abbrev pub invariant-loop-producer : goal.invariant-loop-producer
invariant-loop-producer l = record {
  lanes : vec_len l.tells ≡ l.fn.lanes;
  takes : vec_len l.takes ≡ l._producer;
  new : l.takes.items ≡ map (new_take l.fn.lanes) (channels_of l.takes.items);
  tells : AreNewTells (channels_of l.takes.items) 0 l.tells.items;
}
