-- The lines of a text, from the front.
use Rattle.std.proofs.Common.{◌≡◌, ℕ, suc, ◌+◌, ◌<◌, ◌≤◌, ◌==◌, List, [], ◌∷◌, ◌++◌, length, take, drop, Bool, true, false, true≢false, Some, subst, refl, ap, sym, ◌∙◌, arith, inl, inr, append_assoc, append-nil, if◌then◌else◌, flat_map}
use Rattle.std.proofs.lemmas.Grind.{common_steps}
use Rattle.memchr.specs.Find.{IsFirstByte, is_byte}
use Rattle.relay_ndjson.specs.Lines.{IsUnbroken, line_limit}
use Rattle.relay_ndjson.proofs.Pieces.{first_feed}
use Rattle.relay_ndjson.proofs.Asking.{decide}
use Rattle.relay_sift.specs.declared.lines.FirstLine.{FirstLine}
use Rattle.relay_sift.specs.declared.lines.FirstLine.TheVariants as first
use Rattle.relay_sift.specs.Texts.{onto_first, lines_of, ends_with, but_last, without_return, line_text, is_long}
use Rattle.relay_sift.specs.Fronts.{Begins, IsFirst}

-- ---- what ends with a line feed, and what has none

pub unbroken_parts : (x : ℕ) (xs : List ℕ) → IsUnbroken (x ∷ xs) → ((x == 10) ≡ false) × IsUnbroken xs
unbroken_parts x xs u =
    elim (decide (x == 10)) [
      | inl t ↦ (let h : true ≡ false = rw t at u in absurd (true≢false h))
      | inr f ↦ (f, rw f at u)
    ]

pub lines_ended : (raw rest : List ℕ) → IsUnbroken raw → lines_of (raw ++ 10 ∷ rest) ≡ (raw ++ 10 ∷ []) ∷ lines_of rest
lines_ended [] rest u = refl
lines_ended (x ∷ xs) rest u =
    let p = unbroken_parts x xs u in
    let f = p.0 in
    let l = lines_ended xs rest p.1 in rw (f, l) refl

pub lines_open : (x : ℕ) (xs : List ℕ) → IsUnbroken (x ∷ xs) → lines_of (x ∷ xs) ≡ (x ∷ xs) ∷ []
lines_open x [] u = let f = (unbroken_parts x [] u).0 in rw f refl
lines_open x (y ∷ ys) u =
    let p = unbroken_parts x (y ∷ ys) u in
    let f = p.0 in
    let l = lines_open y ys p.1 in rw (f, l) refl

-- the first line of a text that begins with these bytes is not shorter
abbrev pub BeginsLong : List ℕ → List ℕ → Type 0
BeginsLong raw text = (line : List ℕ) × (lines : List (List ℕ)) × (lines_of text ≡ line ∷ lines) × (length raw ≤ length line)

onto_any : (x : ℕ) (ls : List (List ℕ)) → (line : List ℕ) × (lines : List (List ℕ)) × (onto_first x ls ≡ line ∷ lines) × (1 ≤ length line)
onto_any x [] = (x ∷ [], [], refl, omega arith)
onto_any x (l ∷ ls) = (x ∷ l, ls, refl, omega arith)

pub lines_begun : (x : ℕ) (xs later : List ℕ) → IsUnbroken (x ∷ xs) → BeginsLong (x ∷ xs) ((x ∷ xs) ++ later)
lines_begun x [] later u =
    let f = (unbroken_parts x [] u).0 in
    let o = onto_any x (lines_of later) in
    (o.0, o.1, rw f o.2, o.3)
lines_begun x (y ∷ ys) later u =
    let p = unbroken_parts x (y ∷ ys) u in
    let f = p.0 in
    let b = lines_begun y ys later p.1 in
    let e = b.2 in
    (x ∷ b.0, b.1, rw (f, e) refl, omega (arith, b.3))

-- ---- the lines joined are the text

joined_onto : (x : ℕ) (ls : List (List ℕ)) → flat_map (λ (l : List ℕ). l) (onto_first x ls) ≡ x ∷ flat_map (λ (l : List ℕ). l) ls
joined_onto x [] = refl
joined_onto x (l ∷ ls) = refl

pub joined : (bytes : List ℕ) → flat_map (λ (l : List ℕ). l) (lines_of bytes) ≡ bytes
joined [] = refl
joined (x ∷ xs) =
    elim (decide (x == 10)) [
      | inl t ↦ (let e : x ≡ 10 = grind (arith, t) in let h = joined xs in rw e (ap (λ r. 10 ∷ r) h))
      | inr f ↦ rw f (joined_onto x (lines_of xs) ∙ ap (λ r. x ∷ r) (joined xs))
    ]

-- ---- texts of lines

but_last_length : (bytes : List ℕ) → length bytes ≤ length (but_last bytes) + 1
but_last_length bytes = grind (arith, common_steps)

return_length : (bytes : List ℕ) → length bytes ≤ length (without_return bytes) + 1
return_length bytes =
    elim (decide (ends_with 13 bytes)) [ inl t ↦ rw t (but_last_length bytes) | inr f ↦ rw f (omega arith) ]

text_length : (line : List ℕ) → length line ≤ length (line_text line) + 2
text_length line =
    elim (decide (ends_with 10 line)) [
      | inl t ↦ rw t (let a = but_last_length line in let b = return_length (but_last line) in omega (arith, a, b))
      | inr f ↦ rw f (omega arith)
    ]

pub long_line : (line : List ℕ) → line_limit + 2 < length line → is_long line ≡ true
long_line line h = let t = text_length line in grind (arith, t, h)

-- ---- the first line

take_front : (t r : List ℕ) → take (length t + 1) (t ++ 10 ∷ r) ≡ t ++ 10 ∷ []
take_front [] r = refl
take_front (x ∷ xs) r =
    let e : length (x ∷ xs) + 1 ≡ suc (length xs + 1) = omega arith in
    rw e (ap (λ l. x ∷ l) (take_front xs r))

-- what ends at this line feed
pub feed_lines : (bytes later : List ℕ) (end : ℕ) → IsFirstByte (is_byte 10) bytes (Some end) → lines_of (bytes ++ later) ≡ take (end + 1) bytes ∷ lines_of (drop (end + 1) bytes ++ later)
feed_lines bytes later end f =
    let s = first_feed bytes end f in
    let high : end < length bytes = f.0.high in
    let n : length (take end bytes) ≡ end = grind (arith, common_steps) in
    let front : take (end + 1) bytes ≡ take end bytes ++ 10 ∷ [] =
    ap (λ k. take (k + 1) bytes) (sym n) ∙ (ap (λ b. take (length (take end bytes) + 1) b) s.1 ∙ take_front (take end bytes) (drop (end + 1) bytes)) in
    let text : bytes ++ later ≡ take end bytes ++ 10 ∷ (drop (end + 1) bytes ++ later) =
    ap (λ b. b ++ later) s.1 ∙ append_assoc (take end bytes) (10 ∷ drop (end + 1) bytes) later in
    ap lines_of text ∙ (lines_ended (take end bytes) (drop (end + 1) bytes ++ later) s.0 ∙ ap (λ l. l ∷ lines_of (drop (end + 1) bytes ++ later)) (sym front))

-- a line that ends here, or is too long
begins_sized : (bytes later : List ℕ) (end : ℕ) (r : FirstLine) → 0 < end → end ≤ length bytes → lines_of (bytes ++ later) ≡ take end bytes ∷ lines_of (drop end bytes ++ later) → r ≡ (if is_long (take end bytes) then first.Long else first.Whole end) → Begins bytes later r
begins_sized bytes later end r low high e is =
    elim (decide (is_long (take end bytes))) [
      | inl t ↦ (let s : r ≡ first.Long = rw t at is in subst (Begins bytes later) (sym s) (take end bytes, lines_of (drop end bytes ++ later), e, t))
      | inr f ↦ (let s : r ≡ first.Whole end = rw f at is in subst (Begins bytes later) (sym s) (low, high, e, f))
    ]

pub first_ended : (bytes : List ℕ) (ended : Bool) (end : ℕ) (r : FirstLine) → IsFirstByte (is_byte 10) bytes (Some end) → r ≡ (if is_long (take (end + 1) bytes) then first.Long else first.Whole (end + 1)) → IsFirst bytes ended r
first_ended bytes ended end r f is = λ later over.
    let high : end < length bytes = f.0.high in
    begins_sized bytes later (end + 1) r (omega arith) (omega (arith, high)) (feed_lines bytes later end f) is

open_lines : (bytes : List ℕ) → IsUnbroken bytes → 0 < length bytes → lines_of (bytes ++ []) ≡ take (length bytes) bytes ∷ lines_of (drop (length bytes) bytes ++ [])
open_lines [] u low = absurd (omega (arith, low))
open_lines (x ∷ xs) u low =
    let a = append-nil (x ∷ xs) in
    let t : take (length (x ∷ xs)) (x ∷ xs) ≡ x ∷ xs = grind (arith, common_steps) in
    let d : drop (length (x ∷ xs)) (x ∷ xs) ≡ [] = grind (arith, common_steps) in
    ap lines_of a ∙ (lines_open x xs u ∙ (ap (λ l. l ∷ []) (sym t) ∙ ap (λ r. take (length (x ∷ xs)) (x ∷ xs) ∷ lines_of (r ++ [])) (sym d)))

pub first_open : (bytes : List ℕ) (r : FirstLine) → IsUnbroken bytes → 0 < length bytes → r ≡ (if is_long (take (length bytes) bytes) then first.Long else first.Whole (length bytes)) → IsFirst bytes true r
first_open bytes r u low is = λ later over.
    let none : later ≡ [] = over refl in
    subst (λ (l : List ℕ). Begins bytes l r) (sym none) (begins_sized bytes [] (length bytes) r low (omega arith) (open_lines bytes u low) is)

pub first_long : (bytes : List ℕ) (ended : Bool) → IsUnbroken bytes → line_limit + 2 < length bytes → IsFirst bytes ended first.Long
first_long [] ended u h = absurd (omega (arith, h))
first_long (x ∷ xs) ended u h = λ later over.
    let b = lines_begun x xs later u in
    (b.0, b.1, b.2, long_line b.0 (omega (arith, h, b.3)))

pub first_absent : (bytes : List ℕ) → length bytes ≡ 0 → IsFirst bytes true first.Absent
first_absent [] h = λ later over. (refl, over refl)
first_absent (x ∷ xs) h = absurd (omega (arith, h))
