use Rattle.std.proofs.Common.{◌≤◌, ◌-◌}
use Rattle.relay_run.proofs.state_file.read_front.Given as goal

abbrev pub invariant-reads : goal.invariant-reads
invariant-reads l = l.length ≤ 64

abbrev pub decreases-reads : goal.decreases-reads
decreases-reads l = 64 - l.length
