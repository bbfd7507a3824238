-- What is outstanding, by number, the newest first.
use Rattle.std.specs.Prelude.{ℕ, List, [], ◌∷◌, Option, None, Some, ◌==◌, if◌then◌else◌}

abbrev pub numbers : {A : Type 0} → List (ℕ × A) → List ℕ
numbers [] = []
numbers (e ∷ es) = e.0 ∷ numbers es

-- what is outstanding under a number
abbrev pub entry_of : {A : Type 0} → ℕ → List (ℕ × A) → Option A
entry_of number [] = None
entry_of number (e ∷ es) = if e.0 == number then Some e.1 else entry_of number es

-- the rest of what is outstanding
abbrev pub besides : {A : Type 0} → ℕ → List (ℕ × A) → List (ℕ × A)
besides number [] = []
besides number (e ∷ es) = if e.0 == number then es else e ∷ besides number es
