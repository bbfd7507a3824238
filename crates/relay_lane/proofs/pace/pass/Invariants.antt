use Rattle.std.proofs.Common.{◌≡◌}
use Rattle.relay_lane.specs.Turns.{after_ticks}
use Rattle.relay_lane.proofs.Ticking.{fitting}
use Rattle.relay_lane.proofs.pace.pass.Given as goal

abbrev pub invariant-loop-tick : goal.invariant-loop-tick
invariant-loop-tick g l = l.lane.state ≡ after_ticks (fitting l._tick l.initial.lane.state) l.initial.lane.state
