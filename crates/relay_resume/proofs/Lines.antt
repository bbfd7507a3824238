-- The lines of a text that has no line feed.
use Rattle.std.proofs.Common.{◌≡◌, ℕ, suc, true, false, true≢false, ◌==◌, List, [], ◌∷◌, length, refl, arith, inl, inr}
use Rattle.relay_ndjson.specs.Lines.{IsUnbroken}
use Rattle.relay_ndjson.proofs.Asking.{decide}
use Rattle.relay_resume.specs.Lines.{lines_length}

pub unbroken_parts : (x : ℕ) (xs : List ℕ) → IsUnbroken (x ∷ xs) → ((x == 10) ≡ false) × IsUnbroken xs
unbroken_parts x xs u =
    elim (decide (x == 10)) [
      | inl t ↦ (let h : true ≡ false = rw t at u in absurd (true≢false h))
      | inr f ↦ (f, rw f at u)
    ]

-- it is its own first line
pub open_length : (k : ℕ) (text : List ℕ) → IsUnbroken text → lines_length (suc k) text ≡ length text
open_length k [] u = refl
open_length k (x ∷ xs) u = let p = unbroken_parts x xs u in let f = p.0 in let more = open_length k xs p.1 in rw f (omega (arith, more))
