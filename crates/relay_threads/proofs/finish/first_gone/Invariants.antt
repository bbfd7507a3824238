use Rattle.std.proofs.Common.{map}
use Rattle.relay_threads.specs.Faults.{is_gone_lane}
use Rattle.relay_threads.proofs.Firsts.{NoneBelow}
use Rattle.relay_threads.proofs.finish.first_gone.Given as goal

abbrev pub invariant-loop-lane : goal.invariant-loop-lane
invariant-loop-lane g l = NoneBelow (is_gone_lane l.fn.ends.items (map (λ r. r.items) l.fn.rows.items)) l.lane
