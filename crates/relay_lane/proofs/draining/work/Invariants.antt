use Rattle.std.proofs.Common.{◌≡◌, ◌+◌, ◌≤◌}
use Rattle.relay_lane.specs.Out.{out_of}
use Rattle.relay_lane.specs.Turns.{Stays, holds, Passed, sends_left, work_left}
use Rattle.relay_lane.specs.Steps.{IsPressed}
use Rattle.relay_lane.specs.Delivers.{WorkedOn}
use Rattle.relay_lane.proofs.draining.work.Given as goal

abbrev pub invariant-turns : goal.invariant-turns
invariant-turns g l = record {
  stays : Stays l.fn.lane.state l.lane.state;
  pressed : IsPressed l.lane.state;
  worked : WorkedOn (g.W.Wire.describes l.fn.wire) g.W.Wire.fits g.W.Wire.carries (holds l.fn.least) l.fn.wire l.wire l.fn.lane.state l.lane.state;
  left : l.lane.state.core.requests + sends_left l.lane.state ≤ l.fn.lane.state.core.requests + sends_left l.fn.lane.state;
  passed : Passed l.fn.lane.state.core.clock l.lane.state.core.clock (g.P.Pace.paused l.fn.pace) (g.P.Pace.paused l.pace);
  out : g.W.Wire.out l.wire ≡ out_of l.lane.state;
  describes : g.W.Wire.describes l.wire ≡ g.W.Wire.describes l.fn.wire;
}

abbrev pub decreases-turns : goal.decreases-turns
decreases-turns g l = work_left l.lane.state
