-- What the lanes counted, and the line of it.
use Rattle.std.specs.Prelude.{ℕ, ◌+◌, List, [], ◌∷◌, ◌++◌, codes}
use Rattle.relay_ndjson.specs.Operations.{saturating_count}
use Rattle.relay_threads.specs.declared.summary.LaneSummary.{LaneSummary}
use Rattle.relay_words.specs.Texts.{spaced_number}

-- `applied A already B reported C` and a line end
abbrev pub counts_line : ℕ → ℕ → ℕ → List ℕ
counts_line applied already reported =
    codes "applied" ++ spaced_number applied ++ codes " already" ++ spaced_number already ++ codes " reported" ++ spaced_number reported ++ codes "\n"

module _ {W : Type 0} where
  -- the sum of a count over all lanes, on top of the sum so far; it saturates
  abbrev pub total : (LaneSummary W → ℕ) → ℕ → List (LaneSummary W) → ℕ
  total count sum [] = sum
  total count sum (s ∷ ss) = total count (saturating_count (sum + count s)) ss
