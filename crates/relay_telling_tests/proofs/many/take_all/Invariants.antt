use Rattle.std.proofs.Common.{◌≡◌, vec_len}
use Rattle.relay_telling_tests.proofs.many.take_all.Given as goal

abbrev pub invariant-loop-p : goal.invariant-loop-p
invariant-loop-p g l = vec_len l.takes ≡ l.p-end
