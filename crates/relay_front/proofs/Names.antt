-- Names that differ.
use Rattle.std.proofs.Common.{◌≡◌, ℕ, List, Bool, true, false, bytes_eq, refl}
use Rattle.std.proofs.lemmas.Slice.Eq.{bytes_eq-Decides}

not_true : (b : Bool) → (b ≡ true → ⊥) → b ≡ false
not_true true h = absurd (h refl)
not_true false h = refl

pub differ : (xs ys : List ℕ) → (xs ≡ ys → ⊥) → bytes_eq xs ys ≡ false
differ xs ys other = not_true (bytes_eq xs ys) (λ y. other ((bytes_eq-Decides xs ys).0 y))
