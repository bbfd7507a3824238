use Rattle.std.proofs.Common.{◌≡◌, vec_len}
use Rattle.relay_run.proofs.opening.open_files.Given as goal

abbrev pub invariant-loop-file : goal.invariant-loop-file
invariant-loop-file l = vec_len l.sources ≡ l.file-index
