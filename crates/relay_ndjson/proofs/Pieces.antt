-- Lines that are found piece by piece.
use Rattle.std.proofs.Common.{◌≡◌, ◌≢◌, ℕ, zero, suc, ◌+◌, ◌-◌, ◌<◌, ◌≤◌, List, [], ◌∷◌, ◌++◌, length, take, drop, get_or, Option, None, Some, Result, Ok, Err, subst, refl, ap, sym, ◌∙◌, arith, inl, inr, append_assoc, append-nil, add-one}
use Rattle.std.proofs.lemmas.Grind.{common_steps}
use Rattle.std.proofs.Math.Seq.{drop-cons}
use Rattle.std.proofs.lemmas.List.{take-append-drop}
use Rattle.memchr.specs.Find.{Nowhere, Passes, IsFirstByte, is_byte}
use Rattle.std.specs.Io.KnownBytes.{prepend_known, IsAtEnd}
use Rattle.relay_ndjson.specs.Lines.{IsUnbroken, IsRaw, line_limit}
use Rattle.relay_ndjson.specs.LineReading.{TakesBytes, end_bytes}
use Rattle.relay_ndjson.specs.Steps.{IsAddFault, TakesPart, TakesLine, EndsLine, PartHasBytes}
use Rattle.relay_ndjson.specs.declared.lines.LineEnd.{LineEnd}
use Rattle.relay_ndjson.specs.declared.lines.Line.{Line}
use Rattle.relay_ndjson.specs.declared.lines.Line.TheVariants as line
use Rattle.relay_ndjson.specs.declared.lines.Part.TheVariants as part
use Rattle.relay_ndjson.specs.declared.kind.LineKind.{LineKind}

pub prepend_nothing : (shown : Option (List ℕ)) → prepend_known [] shown ≡ shown
prepend_nothing None = refl
prepend_nothing (Some bytes) = refl

pub prepend_known-append : (xs ys : List ℕ) (shown : Option (List ℕ)) → prepend_known (xs ++ ys) shown ≡ prepend_known xs (prepend_known ys shown)
prepend_known-append xs ys None = refl
prepend_known-append xs ys (Some bytes) = ap Some (append_assoc xs ys bytes)

-- the last byte of a line with more bytes added is the last of these
pub last_byte : (line bytes : List ℕ) (at : ℕ) → length line + length bytes ≡ at + 1 → 0 < length bytes → get_or (line ++ bytes) at 0 ≡ get_or bytes (length bytes - 1) 0
last_byte line bytes at e h = grind (arith, common_steps)

drop-take-sub : (n m : ℕ) (xs : List ℕ) → drop n (take m xs) ≡ take (m - n) (drop n xs)
drop-take-sub zero m xs = let e : m ≡ m - 0 = omega arith in ap (λ k. take k xs) e
drop-take-sub (suc n) zero xs = let e : 0 - suc n ≡ 0 = omega arith in sym (ap (λ k. take k (drop (suc n) xs)) e)
drop-take-sub (suc n) (suc m) [] = grind (arith, common_steps)
drop-take-sub (suc n) (suc m) (x ∷ xs) = let e : suc m - suc n ≡ m - n = omega arith in drop-take-sub n m xs ∙ sym (ap (λ k. take k (drop n xs)) e)

-- the rest of a range
pub range-skip : (items : List ℕ) (from to count : ℕ) → take (to - (from + count)) (drop (from + count) items) ≡ drop count (take (to - from) (drop from items))
range-skip items from to count =
    let e : to - (from + count) ≡ (to - from) - count = omega arith in
    let d : drop (from + count) items ≡ drop count (drop from items) = grind (arith, common_steps) in
    ap (λ k. take k (drop (from + count) items)) e ∙ (ap (take ((to - from) - count)) d ∙ sym (drop-take-sub count (to - from) (drop from items)))

-- the range from the front
pub range_front : (items : List ℕ) (n : ℕ) → take (n - 0) (drop 0 items) ≡ take n items
range_front items n = let e : n - 0 ≡ n = omega arith in ap (λ k. take k items) e

-- ---- unbroken bytes

pub unbroken_cons : (x : ℕ) (xs : List ℕ) → x ≢ 10 → IsUnbroken xs → IsUnbroken (x ∷ xs)
unbroken_cons x xs h k = grind (arith, common_steps)

unbroken_append : (xs ys : List ℕ) → IsUnbroken xs → IsUnbroken ys → IsUnbroken (xs ++ ys)
unbroken_append xs ys h k = grind (arith, common_steps)

-- if no byte is a line feed
pub nowhere_unbroken : (bytes : List ℕ) → Nowhere (Passes (is_byte 10) bytes) 0 (length bytes) → IsUnbroken bytes
nowhere_unbroken [] h = refl
nowhere_unbroken (x ∷ xs) h =
    unbroken_cons x xs (λ e. h 0 (omega arith) (omega arith) (grind (arith, e)))
    (nowhere_unbroken xs (λ k low high p. h (suc k) (omega arith) (omega arith) p))

-- the first line feed
pub first_feed : (bytes : List ℕ) (end : ℕ) → IsFirstByte (is_byte 10) bytes (Some end) → IsUnbroken (take end bytes) × (bytes ≡ take end bytes ++ 10 ∷ drop (end + 1) bytes)
first_feed bytes end f =
    let high : end < length bytes = f.0.high in
    let n : length (take end bytes) ≡ end = grind (arith, common_steps) in
    let at : get_or bytes end 0 ≡ 10 = grind (arith, f.1) in (
      nowhere_unbroken (take end bytes) (λ k low below p. f.0.before k low (omega arith) (let same : get_or (take end bytes) k 0 ≡ get_or bytes k 0 = grind (arith, common_steps) in rw same at p)),
      (let d : drop end bytes ≡ get_or bytes end 0 ∷ drop (suc end) bytes = drop-cons bytes end 0 high in
          sym (take-append-drop end bytes) ∙ ap (λ r. take end bytes ++ r) (d ∙ (ap (λ b. b ∷ drop (suc end) bytes) at ∙ ap (λ k. 10 ∷ drop k bytes) (sym (add-one end))))),
    )

-- ---- what a piece contributes to a line

pub part_refused : (begun piece text rest : List ℕ) (end : ℕ) (k : LineKind) → IsUnbroken begun → IsFirstByte (is_byte 10) piece (Some end) → IsAddFault (begun ++ take end piece) k → TakesPart begun piece text rest (Err k)
part_refused begun piece text rest end k u f a =
    let s = first_feed piece end f in
    (begun ++ take end piece, 10 ∷ drop (end + 1) piece, unbroken_append begun (take end piece) u s.0, ap (λ p. begun ++ p) s.1 ∙ sym (append_assoc begun (take end piece) (10 ∷ drop (end + 1) piece)), a)

pub part_ended : (begun piece added text rest : List ℕ) (end : ℕ) → IsUnbroken begun → IsFirstByte (is_byte 10) piece (Some end) → added ≡ begun ++ take end piece → IsRaw text added → length text ≤ line_limit → rest ≡ drop (end + 1) piece → TakesPart begun piece text rest (Ok part.End)
part_ended begun piece added text rest end u f e r n d =
    let s = first_feed piece end f in (
      added,
      rw e (unbroken_append begun (take end piece) u s.0),
      r,
      n,
      ap (λ p. begun ++ p) s.1 ∙ (sym (append_assoc begun (take end piece) (10 ∷ drop (end + 1) piece)) ∙ (ap (λ x. x ++ 10 ∷ drop (end + 1) piece) (sym e) ∙ ap (λ x. added ++ 10 ∷ x) (sym d))),
    )

-- the same, with the bytes of the line that was ended
pub part_bytes : (begun piece added text rest : List ℕ) (at : ℕ) (end : LineEnd) → IsUnbroken begun → IsFirstByte (is_byte 10) piece (Some at) → added ≡ begun ++ take at piece → IsRaw text added → length text ≤ line_limit → added ++ 10 ∷ [] ≡ text ++ end_bytes end → rest ≡ drop (at + 1) piece → PartHasBytes begun piece text rest end (Ok part.End)
part_bytes begun piece added text rest at end u f e r n b d = (
  (added, rw e (unbroken_append begun (take at piece) u (first_feed piece at f).0), r, n, sym b),
  ap (λ p. begun ++ p) (first_feed piece at f).1
      ∙ (sym (append_assoc begun (take at piece) (10 ∷ drop (at + 1) piece))
      ∙ (ap (λ x. x ++ 10 ∷ drop (at + 1) piece) (sym e)
      ∙ (ap (λ x. added ++ 10 ∷ x) (sym d)
      ∙ (sym (append_assoc added (10 ∷ []) rest)
      ∙ ap (λ x. x ++ rest) b)))),
)

pub whole_unbroken : (begun piece : List ℕ) → IsUnbroken begun → IsFirstByte (is_byte 10) piece None → IsUnbroken (begun ++ piece)
whole_unbroken begun piece u f = unbroken_append begun piece u (nowhere_unbroken piece f)

pub whole_refused : (begun piece text rest : List ℕ) (k : LineKind) → IsUnbroken begun → IsFirstByte (is_byte 10) piece None → IsAddFault (begun ++ piece) k → TakesPart begun piece text rest (Err k)
whole_refused begun piece text rest k u f a = (begun ++ piece, [], whole_unbroken begun piece u f, sym (append-nil (begun ++ piece)), a)

-- ---- what it contributes of the stream

rejoined : (begun piece raw later : List ℕ) (old left : Option (List ℕ)) → old ≡ prepend_known begun (prepend_known piece left) → begun ++ piece ≡ raw ++ later → old ≡ prepend_known raw (prepend_known later left)
rejoined begun piece raw later old left e f =
    e ∙ (sym (prepend_known-append begun piece left) ∙ (ap (λ b. prepend_known b left) f ∙ prepend_known-append raw later left))

pub line_ended : (begun piece text rest : List ℕ) (old left : Option (List ℕ)) → old ≡ prepend_known begun (prepend_known piece left) → TakesPart begun piece text rest (Ok part.End) → TakesLine old (prepend_known rest left) text (Ok line.Ended)
line_ended begun piece text rest old left e p =
    (p.0, p.1, p.2, p.3, rejoined begun piece (p.0 ++ 10 ∷ []) rest old left e (p.4 ∙ sym (append_assoc p.0 (10 ∷ []) rest)))

pub bytes_ended : (begun piece text rest : List ℕ) (end : LineEnd) (old left : Option (List ℕ)) → old ≡ prepend_known begun (prepend_known piece left) → PartHasBytes begun piece text rest end (Ok part.End) → TakesBytes old (prepend_known rest left) text end
bytes_ended begun piece text rest end old left e p =
    record { line = inl p.0; taken = rejoined begun piece (text ++ end_bytes end) rest old left e p.1 }

pub line_refused : (begun piece text rest : List ℕ) (old new left : Option (List ℕ)) (k : LineKind) → old ≡ prepend_known begun (prepend_known piece left) → TakesPart begun piece text rest (Err k) → TakesLine old new text (Err k)
line_refused begun piece text rest old new left k e p =
    elim p.4 [
      | inl l ↦ inr (inr (l.0, record { raw = p.0; rest = prepend_known p.1 left; unbroken = p.2; taken = rejoined begun piece p.0 p.1 old left e p.3; past = inl l.1 }))
      | inr m ↦ inr (inl m)
    ]

pub line_goes_on : (begun piece text rest : List ℕ) (old left : Option (List ℕ)) → old ≡ prepend_known begun (prepend_known piece left) → TakesPart begun piece text rest (Ok part.More) → old ≡ prepend_known text (prepend_known rest left)
line_goes_on begun piece text rest old left e p =
    let f : begun ++ piece ≡ text ++ rest = sym p.2 ∙ (sym (append-nil text) ∙ ap (λ x. text ++ x) (sym p.3)) in
    rejoined begun piece text rest old left e f

pub line_at_end : (text : List ℕ) (old new : Option (List ℕ)) (r : Result Line LineKind) → old ≡ prepend_known text new → IsUnbroken text → IsAtEnd new → EndsLine text r → TakesLine old new text r
line_at_end text old new (Ok line.Ended) e u h s = absurd s
line_at_end text old new (Ok line.Open) e u h s = (u, s.0, s.1, e, h)
line_at_end text old new (Ok line.Absent) e u h s =
    let same : old ≡ new = e ∙ (ap (λ t. prepend_known t new) s ∙ prepend_nothing new) in (subst IsAtEnd (sym same) h, sym same)
line_at_end text old new (Err k) e u h s = inr (inr (s.0, record { raw = text; rest = new; unbroken = u; taken = e; past = inr (s.1, h) }))
