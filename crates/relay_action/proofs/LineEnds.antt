-- A search for the bytes that end a line shows whether there is one.
use Rattle.std.proofs.Common.{◌≡◌, ◌⊎◌, ℕ, zero, suc, ◌<◌, List, [], ◌∷◌, length, get_or, Bool, true, false, Option, None, Some, is_some, refl, sym, arith, inl, inr}
use Rattle.std.proofs.lemmas.Grind.{common_steps}
use Rattle.std.specs.List.{list_any}
use Rattle.memchr.specs.Find.{Nowhere, Passes, IsFirstByte, is_byte2}
use Rattle.relay_action.specs.Limits.{is_line_end}

cases : (b : Bool) → (b ≡ true) ⊎ (b ≡ false)
cases true = inl refl
cases false = inr refl

none_among : (bytes : List ℕ) → Nowhere (Passes (is_byte2 10 13) bytes) 0 (length bytes) → list_any is_line_end bytes ≡ false
none_among [] h = refl
none_among (x ∷ xs) h =
    let here : is_line_end x ≡ false = elim (cases (is_line_end x)) [ inl t ↦ absurd (h 0 (omega arith) (omega arith) t) | inr f ↦ f ] in
    let rest = none_among xs (λ k low high p. h (suc k) (omega arith) (omega arith) p) in grind (arith, common_steps, here, rest)

one_among : (bytes : List ℕ) (k : ℕ) → k < length bytes → is_line_end (get_or bytes k 0) ≡ true → list_any is_line_end bytes ≡ true
one_among [] k h t = absurd (omega arith)
one_among (x ∷ xs) zero h t = grind (arith, common_steps, t)
one_among (x ∷ xs) (suc k) h t = let rest = one_among xs k (omega arith) t in grind (arith, common_steps, rest)

pub found_line_end : (bytes : List ℕ) (place : Option ℕ) → IsFirstByte (is_byte2 10 13) bytes place → is_some place ≡ list_any is_line_end bytes
found_line_end bytes None h = sym (none_among bytes h)
found_line_end bytes (Some k) h = sym (one_among bytes k h.0.high h.1)
