use Rattle.std.proofs.Common.{◌≡◌}
use Rattle.relay_threads.proofs.run.next_unless_answered.Given as goal

abbrev pub invariant-looks : goal.invariant-looks
invariant-looks g l = l.take ≡ l.fn.take
