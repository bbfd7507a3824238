use Rattle.std.proofs.Common.{◌≤◌, ◌+◌, ◌-◌, max}
use Rattle.std.specs.VecDeque.{deque_len}
use Rattle.relay_resume.specs.Steps.{SameNoted}
use Rattle.relay_resume.proofs.trail.reach.Given as goal

abbrev pub invariant-flags : goal.invariant-flags
invariant-flags l = record {
  same : SameNoted l.initial.noted.items l.noted.items;
  len : deque_len l.noted ≤ max (deque_len l.initial.noted) (l.place + 1);
}

abbrev pub decreases-flags : goal.decreases-flags
decreases-flags l = l.place + 1 - deque_len l.noted
