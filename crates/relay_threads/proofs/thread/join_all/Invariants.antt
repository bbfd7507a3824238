use Rattle.std.proofs.Common.{◌≡◌, ◌+◌, ◌≤◌, ◌++◌, map, vec_len, vec_capacity}
use Rattle.std.specs.Vec.Iter.{into_iter_items, into_iter_len}
use Rattle.relay_threads.specs.Lanes.{tells_of}
use Rattle.relay_threads.proofs.Joining.{JoinsOn}
use Rattle.relay_threads.proofs.thread.join_all.Given as goal

abbrev pub invariant-loop-lane : goal.invariant-loop-lane
invariant-loop-lane g l = record {
  places : vec_len l.ends + into_iter_len l.lane-iterator ≤ vec_capacity l.ends;
  tell_places : vec_len l.tells + into_iter_len l.lane-iterator ≤ vec_capacity l.tells;
  joins : JoinsOn g.W.Wire.describes g.W.Wire.fits g.W.Wire.carries g.T.Tell.told l.fn.lanes.items (into_iter_items l.lane-iterator) l.ends.items l.tells.items;
  destinations : map g.T.Tell.destination l.tells.items ++ map g.T.Tell.destination (tells_of (into_iter_items l.lane-iterator)) ≡ map g.T.Tell.destination (tells_of l.fn.lanes.items);
}
