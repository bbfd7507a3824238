-- For private clauses: a text before its first `]` (byte 93).
use Rattle.std.specs.Prelude.{◌≡◌, ℕ, List, ◌∷◌, ◌++◌, ◌==◌, false}
use Rattle.std.specs.List.{list_any}

abbrev pub HasNoEnd : List ℕ → Type 0
HasNoEnd text = list_any (λ b. b == 93) text ≡ false

pub record IsEndedAt (text front back : List ℕ) : Type 0 where
  pub front_has_none : HasNoEnd front
  pub whole : text ≡ front ++ 93 ∷ back
