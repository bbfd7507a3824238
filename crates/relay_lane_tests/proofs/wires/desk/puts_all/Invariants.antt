use Rattle.std.proofs.Common.{◌≡◌}
use Rattle.relay_lane.specs.Out.{out_of}
use Rattle.relay_lane_tests.proofs.wires.desk.puts_all.Given as goal

abbrev pub invariant-loop-number : goal.invariant-loop-number
invariant-loop-number l = out_of l.desk.lane.state ≡ out_of l.fn.desk.lane.state
