use Rattle.std.proofs.Common.{◌≡◌, vec_len}
use Rattle.relay_run.proofs.saying.beneath_of.Given as goal

abbrev pub invariant-loop-place : goal.invariant-loop-place
invariant-loop-place l = vec_len l.beneath ≡ l.place
