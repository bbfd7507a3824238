use Rattle.std.proofs.Common.{◌≡◌, List, ℕ, ◌++◌, length}
use Rattle.relay_json.proofs.plain.after.Given as goal

-- both start with the same bytes, and these are left
abbrev pub invariant-loop-word : goal.invariant-loop-word
invariant-loop-word l = (done : List ℕ) × (l.bytes ≡ done ++ l.rest) × (l.front ≡ done ++ l.left)

abbrev pub decreases-loop-word : goal.decreases-loop-word
decreases-loop-word l = length l.left
