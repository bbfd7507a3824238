-- Two line feeds after a byte that is not a line end.
use Rattle.std.proofs.Common.{◌≡◌, ◌↔◌, ℕ, ◌+◌, ◌-◌, ◌<◌, ◌≤◌, List, length, take, drop, get_or, None, Some, Bool, IsTrue, true, false, ◌==◌, ap, sym, ◌∙◌, arith, inl, inr}
use Rattle.std.proofs.lemmas.Grind.{common_steps}
use Rattle.std.proofs.lemmas.List.{take_rest}
use Rattle.memchr.specs.Find.{IsFirstByte, is_byte}
use Rattle.relay_action.specs.Limits.{is_line_end}
use Rattle.relay_ndjson.specs.Lines.{HoldsFeedFrom}
use Rattle.relay_ndjson.specs.Reading.{HoldsTwoLines}
use Rattle.relay_ndjson.proofs.Totality.{decide_le}

-- the bytes from a place on
abbrev rest : List ℕ → ℕ → List ℕ
rest bytes s = take (length bytes - s) (drop s bytes)

at_rest : (bytes : List ℕ) (s k : ℕ) → get_or (rest bytes s) k 0 ≡ get_or bytes (s + k) 0
at_rest bytes s k = ap (λ xs. get_or xs k 0) (take_rest bytes s) ∙ grind (arith, common_steps)

length-rest : (bytes : List ℕ) (s : ℕ) → length (rest bytes s) ≡ length bytes - s
length-rest bytes s = ap length (take_rest bytes s) ∙ grind (arith, common_steps)

is_feed : (x : ℕ) → x ≡ 10 → (x == 10) ≡ true
is_feed x e = grind (arith, e)

feed_of : (x : ℕ) → (x == 10) ≡ true → x ≡ 10
feed_of x e = grind (arith, e)

no_feed : (x : ℕ) → is_line_end x ≡ false → x ≡ 10 → ⊥
no_feed x h e = grind (arith, h, e)

-- the first byte that is not a line end is the first
from_start : (bytes : List ℕ) (s i : ℕ) → ((k : ℕ) → k < s → is_line_end (get_or bytes k 0) ≡ true) → is_line_end (get_or bytes i 0) ≡ false → s ≤ i
from_start bytes s i first ne = elim (decide_le s i) [ inl h ↦ h | inr h ↦ (let t = first i h in cc) ]

-- there is no line feed from a place on
none_from : (bytes : List ℕ) (s f : ℕ) → IsFirstByte (is_byte 10) (rest bytes s) None → s ≤ f → f < length bytes → get_or bytes f 0 ≡ 10 → ⊥
none_from bytes s f m h below e =
    let n = length-rest bytes s in
    let back : s + (f - s) ≡ f = omega arith in
    m (f - s) (omega arith) (omega (arith, n)) (is_feed (get_or (rest bytes s) (f - s) 0) (at_rest bytes s (f - s) ∙ (ap (λ k. get_or bytes k 0) back ∙ e)))

pub one_line_only : (bytes : List ℕ) (s : ℕ) → ((k : ℕ) → k < s → is_line_end (get_or bytes k 0) ≡ true) → IsFirstByte (is_byte 10) (rest bytes s) None → HoldsTwoLines bytes → ⊥
one_line_only bytes s first m h =
    let low = from_start bytes s h.0 first h.6 in
    none_from bytes s h.1 m (omega (arith, low, h.3)) (omega (arith, h.4, h.5)) h.7

-- the first line feed from a place on
first_from : (bytes : List ℕ) (s e f : ℕ) → IsFirstByte (is_byte 10) (rest bytes s) (Some e) → s ≤ f → get_or bytes f 0 ≡ 10 → s + e ≤ f
first_from bytes s e f m h is =
    elim (decide_le (s + e) f) [
      | inl k ↦ k
      | inr k ↦
          (let back : s + (f - s) ≡ f = omega arith in
          let t = is_feed (get_or (rest bytes s) (f - s) 0) (at_rest bytes s (f - s) ∙ (ap (λ k. get_or bytes k 0) back ∙ is)) in
          absurd (m.0.before (f - s) (omega arith) (omega arith) t))
    ]

feed_at : (bytes : List ℕ) (s e : ℕ) → IsFirstByte (is_byte 10) (rest bytes s) (Some e) → get_or bytes (s + e) 0 ≡ 10
feed_at bytes s e m = sym (at_rest bytes s e) ∙ feed_of (get_or (rest bytes s) e 0) m.1

pub two_lines : (bytes : List ℕ) (s e : ℕ) (more : Bool) → s < length bytes → is_line_end (get_or bytes s 0) ≡ false → ((k : ℕ) → k < s → is_line_end (get_or bytes k 0) ≡ true) → IsFirstByte (is_byte 10) (rest bytes s) (Some e) → (IsTrue more ↔ HoldsFeedFrom (s + e + 1) bytes) → IsTrue more ↔ HoldsTwoLines bytes
two_lines bytes s e more h ne first m n =
    let at = feed_at bytes s e m in
    let after : s < s + e =
    elim (decide_le 1 e) [ inl h ↦ omega (arith, h) | inr h ↦ (let z : s + e ≡ s = omega (arith, h) in absurd (no_feed (get_or bytes s 0) ne (sym (ap (λ k. get_or bytes k 0) z) ∙ at))) ]
    in (
      λ t. (let f = n.0 t in (s, s + e, f.0, after, omega (arith, f.1), f.2, ne, at, f.3)),
      λ p.
          let low = from_start bytes s p.0 first p.6 in
          let mid = first_from bytes s e p.1 m (omega (arith, low, p.3)) p.7 in n.1 (p.2, omega (arith, mid, p.4), p.5, p.8),
    )
