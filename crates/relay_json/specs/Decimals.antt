-- The decimal number at the front of some bytes, and what follows it.
use Rattle.std.specs.Prelude.{ℕ, ◌^◌, ◌<◌, ◌≤◌, List, [], ◌∷◌}

abbrev pub BeginsWithDigit : List ℕ → Type 0
BeginsWithDigit [] = ⊥
BeginsWithDigit (b ∷ bs) = (48 ≤ b) × (b ≤ 57)

-- n has at most 18 digits, and what follows it does not begin with a digit, unless n is 0
abbrev pub IsWhole : ℕ → List ℕ → Type 0
IsWhole n rest = (n < 10 ^ 18) × (0 < n → ¬ BeginsWithDigit rest)
