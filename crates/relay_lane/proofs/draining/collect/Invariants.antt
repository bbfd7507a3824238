use Rattle.std.proofs.Common.{◌≡◌, ◌+◌, ◌≤◌, length}
use Rattle.relay_lane.specs.Out.{out_of}
use Rattle.relay_lane.specs.Turns.{Stays, collects, Passed, sends_left}
use Rattle.relay_lane.specs.Delivers.{WorkedOn}
use Rattle.relay_lane.proofs.draining.collect.Given as goal

abbrev pub invariant-answers : goal.invariant-answers
invariant-answers g l = record {
  stays : Stays l.fn.lane.state l.lane.state;
  settled : l.settled + length l.lane.state.core.flying ≡ length l.fn.lane.state.core.flying;
  few : length l.fn.lane.state.core.flying ≤ 4294967295;
  requests : l.lane.state.core.requests ≡ l.fn.lane.state.core.requests;
  left : sends_left l.lane.state ≤ sends_left l.fn.lane.state;
  worked : WorkedOn (g.W.Wire.describes l.fn.wire) g.W.Wire.fits g.W.Wire.carries collects l.fn.wire l.wire l.fn.lane.state l.lane.state;
  passed : Passed l.fn.lane.state.core.clock l.lane.state.core.clock (g.P.Pace.paused l.fn.pace) (g.P.Pace.paused l.pace);
  out : g.W.Wire.out l.wire ≡ out_of l.lane.state;
  describes : g.W.Wire.describes l.wire ≡ g.W.Wire.describes l.fn.wire;
}

abbrev pub decreases-answers : goal.decreases-answers
decreases-answers g l = length l.lane.state.core.flying
