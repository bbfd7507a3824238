-- One more lane is counted.
use Rattle.std.proofs.Common.{◌≡◌, ℕ, ◌+◌, List, ◌∷◌, sym, ap, ◌∙◌}
use Rattle.relay_ndjson.specs.Operations.{saturating_count}
use Rattle.relay_threads.specs.declared.summary.LaneSummary.{LaneSummary}
use Rattle.relay_common.specs.Counts.{total}

module _ {W : Type 0} where
  pub total_on : (count : LaneSummary W → ℕ) (sum new all : ℕ) (left others : List (LaneSummary W)) (s : LaneSummary W) → left ≡ s ∷ others → new ≡ saturating_count (sum + count s) → total count sum left ≡ all → total count new others ≡ all
  total_on count sum new all left others s is more h = ap (λ n. total count n others) more ∙ ap (total count sum) (sym is) ∙ h
