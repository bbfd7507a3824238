use Rattle.std.proofs.Common.{◌≡◌}
use Rattle.relay_threads.proofs.run.next_soon.Given as goal

abbrev pub invariant-loop-look : goal.invariant-loop-look
invariant-loop-look g l = l.take ≡ l.fn.take
