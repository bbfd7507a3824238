use Rattle.std.proofs.Common.{length, ◌<◌, ◌+◌, ◌^◌}
use Rattle.std.specs.VecDeque.{deque_len}
use Rattle.relay_resume.specs.Steps.{KeepFollowing}
use Rattle.relay_resume.proofs.trail.pass.Given as goal

abbrev pub invariant-front : goal.invariant-front
invariant-front l = record {
  follows : KeepFollowing l.initial.mark l.mark l.initial.passed l.passed l.initial.ends.items l.ends.items l.initial.noted.items l.noted.items;
  within : l.passed + deque_len l.noted < 2 ^ 64;
}

abbrev pub decreases-front : goal.decreases-front
decreases-front l = length l.ends.items
