use Rattle.std.proofs.Common.{◌≡◌}
use Rattle.relay_lane.specs.Turns.{after_ticks}
use Rattle.relay_lane.proofs.turn.wait.Given as goal

abbrev pub invariant-loop-tick : goal.invariant-loop-tick
invariant-loop-tick g l = l.lane.state ≡ after_ticks l._tick l.initial.lane.state
