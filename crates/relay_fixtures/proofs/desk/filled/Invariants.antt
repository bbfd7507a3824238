use Rattle.std.proofs.Common.{◌≡◌, []}
use Rattle.relay_lane.specs.Out.{out_of}
use Rattle.relay_fixtures.proofs.desk.filled.Given as goal

abbrev pub invariant-loop-i : goal.invariant-loop-i
invariant-loop-i l = out_of l.desk.lane.state ≡ []
