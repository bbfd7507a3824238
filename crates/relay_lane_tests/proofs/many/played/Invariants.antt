use Rattle.std.proofs.Common.{◌≡◌}
use Rattle.std.specs.Option.{option_to_list}
use Rattle.relay_lane.specs.Out.{out_of}
use Rattle.relay_lane_tests.proofs.many.played.Given as goal

abbrev pub invariant-loop-number : goal.invariant-loop-number
invariant-loop-number g l = option_to_list l.wire.flying ≡ out_of l.desk.lane.state
