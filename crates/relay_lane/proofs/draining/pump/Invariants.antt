use Rattle.std.proofs.Common.{◌≡◌, ◌+◌, ◌*◌, ◌≤◌, length}
use Rattle.relay_lane.specs.Out.{out_of}
use Rattle.relay_lane.specs.Turns.{Stays, pumps, Passed, sends_left}
use Rattle.relay_lane.specs.Delivers.{WorkedOn}
use Rattle.relay_lane.proofs.draining.pump.Given as goal

abbrev pub invariant-turns : goal.invariant-turns
invariant-turns g l = record {
  stays : Stays l.fn.lane.state l.lane.state;
  sent : l.lane.state.core.requests ≡ l.fn.lane.state.core.requests + l.sent;
  left : l.sent + sends_left l.lane.state ≤ sends_left l.fn.lane.state;
  few : sends_left l.fn.lane.state ≤ 18446744073709551615;
  worked : WorkedOn (g.W.Wire.describes l.fn.wire) g.W.Wire.fits g.W.Wire.carries pumps l.fn.wire l.wire l.fn.lane.state l.lane.state;
  passed : Passed l.fn.lane.state.core.clock l.lane.state.core.clock (g.P.Pace.paused l.fn.pace) (g.P.Pace.paused l.pace);
  out : g.W.Wire.out l.wire ≡ out_of l.lane.state;
  describes : g.W.Wire.describes l.wire ≡ g.W.Wire.describes l.fn.wire;
}

abbrev pub decreases-turns : goal.decreases-turns
decreases-turns g l = sends_left l.lane.state * 2 + length l.lane.state.core.flying
