use Rattle.std.proofs.Common.{◌≡◌, ℕ, List, ◌++◌}
use Rattle.std.specs.Vec.Iter.{into_iter_items}
use Rattle.relay_telling.specs.declared.lane_tells.LaneTells.{LaneTells}
use Rattle.relay_telling.specs.Destinations.{TellOn}
use Rattle.relay_telling.specs.New.{channels_of}
use Rattle.relay_serve.specs.Meeting.{LanesMet, AllWellTaken}
use Rattle.relay_serve.proofs.meeting.meet_all.Given as goal

-- what was taken was met with what the first lanes told, and the others tell on the same channels
abbrev pub invariant-lanes : goal.invariant-lanes
invariant-lanes l = record {
  same : l.taken.items ≡ l.fn.receipts.items;
  well : AllWellTaken l.fn.receipts.items;
  met : (done : List LaneTells) × (l.fn.tells.items ≡ done ++ into_iter_items l.lane-iterator) × LanesMet l.fn.receipts.items done;
  others : (lane : ℕ) × TellOn (channels_of l.fn.receipts.items) lane (into_iter_items l.lane-iterator);
}
