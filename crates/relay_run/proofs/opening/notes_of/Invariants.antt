use Rattle.std.proofs.Common.{◌≡◌, vec_len}
use Rattle.relay_run.proofs.opening.notes_of.Given as goal

abbrev pub invariant-loop-opened : goal.invariant-loop-opened
invariant-loop-opened l = vec_len l.notes ≡ l.opened-index
