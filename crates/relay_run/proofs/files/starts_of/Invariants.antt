use Rattle.std.proofs.Common.{◌≡◌, vec_len}
use Rattle.relay_run.proofs.Writing.{StartsUpTo}
use Rattle.relay_run.proofs.files.starts_of.Given as goal

abbrev pub invariant-files : goal.invariant-files
invariant-files l = record { count : vec_len l.starts ≡ l.place; starts : StartsUpTo l.place l.resumed l.starts.items }
