use Rattle.std.proofs.Common.{◌≡◌, ℕ, List, ◌++◌}
use Rattle.std.specs.Vec.Iter.{into_iter_items}
use Rattle.relay_keeping.specs.Meeting.{AllMet, AreSeated, lane_ends}
use Rattle.relay_keeping.specs.Met.{AllTellOnly}
use Rattle.relay_keeping.specs.Tellers.{LaneState}
use Rattle.relay_keeping.proofs.meeting.meet_lanes.Given as goal

-- what was taken was met with what the first told, and the others tell on the same channel
abbrev pub invariant-lanes : goal.invariant-lanes
invariant-lanes l = record {
  same : l.met ≡ l.fn.taken;
  met : (done : List LaneState) × (l.fn.lanes.items ≡ done ++ into_iter_items l.lane-iterator) × AllMet l.fn.taken.taken (lane_ends done) × AllTellOnly done;
  others : (teller : ℕ) × AreSeated l.fn.taken.channel teller (lane_ends (into_iter_items l.lane-iterator));
}
