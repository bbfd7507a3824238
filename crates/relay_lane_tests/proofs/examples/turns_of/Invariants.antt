use Rattle.std.proofs.Common.{◌≡◌}
use Rattle.std.specs.Option.{option_to_list}
use Rattle.relay_lane.specs.Out.{out_of}
use Rattle.relay_lane_tests.proofs.examples.turns_of.Given as goal

abbrev pub invariant-loop-turns : goal.invariant-loop-turns
invariant-loop-turns g l = option_to_list l.wire.flying ≡ out_of l.desk.lane.state
