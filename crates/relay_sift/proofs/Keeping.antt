-- What is kept of an input.
use Rattle.std.proofs.Common.{◌≡◌, ◌⊎◌, ℕ, zero, suc, ◌+◌, ◌-◌, ◌<◌, ◌≤◌, ◌==◌, min, List, [], ◌∷◌, ◌++◌, length, drop, take, Bool, true, false, ◌||◌, true≢false, nat_lt, None, Some, Result, Ok, Err, IfOk, subst, refl, ap, sym, ◌∙◌, arith, inl, inr, append_assoc, append-nil, flat_map, if◌then◌else◌}
use Rattle.std.proofs.lemmas.Grind.{common_steps}
use Rattle.std.proofs.lemmas.List.{drop_all}
use Rattle.memchr.specs.Find.{IsFirstByte, is_byte}
use Rattle.relay_action.specs.Streams.{most}
use Rattle.relay_ndjson.specs.Lines.{IsUnbroken}
use Rattle.relay_ndjson.proofs.Asking.{decide}
use Rattle.relay_ndjson.proofs.Pieces.{first_feed, nowhere_unbroken}
use Rattle.relay_ndjson.specs.declared.kind.InputFault.{InputFault}
use Rattle.relay_sift.specs.About.{IsSaid}
use Rattle.relay_sift.specs.Texts.{first_of, line_feeds, line_text, lines_of, onto_first}
use Rattle.relay_sift.specs.Keeping.{Keeping, Keeps, KeepsUnlessLost, IsFarBack, IsLineKept, IsSaidOf, bytes_kept, from_line, is_some_byte, lines_before, room, turned, with_room}
use Rattle.relay_sift.proofs.FirstLines.{feed_lines, joined, lines_open, unbroken_parts}
use Rattle.relay_sift.proofs.Portions.{drop_length, rest_slice}

-- ---- line feeds

feeds_append : (xs ys : List ℕ) → length (line_feeds (xs ++ ys)) ≡ length (line_feeds xs) + length (line_feeds ys)
feeds_append [] ys = omega arith
feeds_append (x ∷ xs) ys =
    let h = feeds_append xs ys in elim (decide (x == 10)) [ inl t ↦ rw t (omega (arith, h)) | inr f ↦ rw f h ]

feeds_within : (xs : List ℕ) → length (line_feeds xs) ≤ length xs
feeds_within [] = omega arith
feeds_within (x ∷ xs) =
    let h = feeds_within xs in elim (decide (x == 10)) [ inl t ↦ rw t (omega (arith, h)) | inr f ↦ rw f (omega (arith, h)) ]

feeds_none : (xs : List ℕ) → IsUnbroken xs → length (line_feeds xs) ≡ 0
feeds_none [] u = refl
feeds_none (x ∷ xs) u =
    let p = unbroken_parts x xs u in
    let f = p.0 in rw f (feeds_none xs p.1)

-- none is left
pub feeds_end : (bytes rest : List ℕ) (count : ℕ) → IsFirstByte (is_byte 10) rest None → count + length (line_feeds rest) ≡ length (line_feeds bytes) → count ≡ length (line_feeds bytes)
feeds_end bytes rest count none h = let n = feeds_none rest (nowhere_unbroken rest none) in omega (arith, n, h)

-- one more is counted
pub feeds_next : (bytes rest next : List ℕ) (end count : ℕ) → IsFirstByte (is_byte 10) rest (Some end) → next ≡ take (length rest - (end + 1)) (drop (end + 1) rest)
    → (count + length (line_feeds rest) ≡ length (line_feeds bytes)) × (count + length rest ≤ length bytes)
    → (count + 1 + length (line_feeds next) ≡ length (line_feeds bytes)) × (count + 1 + length next ≤ length bytes)
feeds_next bytes rest next end count f is h =
    let high : end < length rest = f.0.high in
    let slice : next ≡ drop (end + 1) rest = is ∙ rest_slice (end + 1) rest (omega (arith, high)) in
    let parts = first_feed rest end f in
    let all : length (line_feeds rest) ≡ length (line_feeds (take end rest)) + suc (length (line_feeds (drop (end + 1) rest))) =
    ap (λ (t : List ℕ). length (line_feeds t)) parts.1 ∙ feeds_append (take end rest) (10 ∷ drop (end + 1) rest) in
    let none = feeds_none (take end rest) parts.0 in
    let same = ap (λ (t : List ℕ). length (line_feeds t)) slice in
    let size = ap length slice in
    let left = drop_length (end + 1) rest (omega (arith, high)) in
    let a = h.0 in
    let b = h.1 in
    (omega (arith, all, none, same, a), omega (arith, size, left, b))

-- ---- what is added

length_append : (xs ys : List ℕ) → length (xs ++ ys) ≡ length xs + length ys
length_append xs ys = grind (arith, common_steps)

more_bytes : (text front older newer piece : List ℕ) → text ≡ front ++ (older ++ newer) → text ++ piece ≡ front ++ (older ++ (newer ++ piece))
more_bytes text front older newer piece e =
    ap (λ (t : List ℕ). t ++ piece) e ∙ (append_assoc front (older ++ newer) piece ∙ ap (λ (t : List ℕ). front ++ t) (append_assoc older newer piece))

keeps_same : (text piece : List ℕ) (k : Keeping) → Keeps text k → Keeps (text ++ piece) (record k { newer = k.newer ++ piece })
keeps_same text piece k h = record {
  front = h.front;
  whole = more_bytes text h.front k.older k.newer piece h.whole;
  before = h.before;
  all = h.all;
  enough = λ cut.
      let e = h.enough cut in
      let a = length_append k.older k.newer in
      let b = length_append k.older (k.newer ++ piece) in
      let c = length_append k.newer piece in omega (arith, e, a, b, c);
}

none_older : (cut : Bool) (older : List ℕ) → (cut || is_some_byte older) ≡ false → (cut ≡ false) × (older ≡ [])
none_older true older h = absurd (true≢false h)
none_older false [] h = (refl, refl)
none_older false (x ∷ xs) h = absurd (true≢false h)

feeds_before : (front older text : List ℕ) (n : ℕ) → n ≡ length (line_feeds front) → length (front ++ older) ≤ most → min (n + length (line_feeds older)) most ≡ length (line_feeds (front ++ older))
feeds_before front older text n e h =
    let a = feeds_append front older in
    let b = feeds_within (front ++ older) in omega (arith, a, b, e, h)

keeps_turned : (text piece : List ℕ) (k : Keeping) → Keeps text k → length (text ++ piece) ≤ most → room < length k.newer + length piece → Keeps (text ++ piece) (record (turned k) { newer = piece })
keeps_turned text piece k h bound many =
    let whole : text ++ piece ≡ (h.front ++ k.older) ++ (k.newer ++ piece) = more_bytes text h.front k.older k.newer piece h.whole ∙ sym (append_assoc h.front k.older (k.newer ++ piece)) in
    let size = ap length whole in
    let parts = length_append (h.front ++ k.older) (k.newer ++ piece) in
    let within : length (h.front ++ k.older) ≤ most = omega (arith, bound, size, parts) in record {
      front = h.front ++ k.older;
      whole = whole;
      before = feeds_before h.front k.older text k.before h.before within;
      all = λ none.
          let n = none_older k.is_cut k.older none in
          ap (λ (f : List ℕ). f ++ k.older) (h.all n.0) ∙ n.1;
      enough = λ cut. let c = length_append k.newer piece in omega (arith, c, many);
    }

pub keeps_added : (text piece : List ℕ) (k mid new : Keeping) → length (text ++ piece) ≤ most → mid ≡ with_room (length piece) k → (new ≡ record mid { newer = mid.newer ++ piece }) ⊎ (new.is_lost ≡ true) → KeepsUnlessLost text k → KeepsUnlessLost (text ++ piece) new
keeps_added text piece k mid new bound is (inr lost) h = λ n. absurd (true≢false (sym lost ∙ n))
keeps_added text piece k mid new bound is (inl e) h = λ n.
    elim (decide (nat_lt room (length k.newer + length piece))) [
      | inl t ↦
          (let m : mid ≡ turned k = rw t at is in
          let full : new ≡ record (turned k) { newer = piece } = e ∙ ap (λ (x : Keeping). record x { newer = x.newer ++ piece }) m in
          let kept = h (sym (ap (λ (x : Keeping). x.is_lost) full) ∙ n) in
          subst (λ (x : Keeping). Keeps (text ++ piece) x) (sym full) (keeps_turned text piece k kept bound (grind (arith, t))))
      | inr f ↦
          (let m : mid ≡ k = rw f at is in
          let full : new ≡ record k { newer = k.newer ++ piece } = e ∙ ap (λ (x : Keeping). record x { newer = x.newer ++ piece }) m in
          let kept = h (sym (ap (λ (x : Keeping). x.is_lost) full) ∙ n) in
          subst (λ (x : Keeping). Keeps (text ++ piece) x) (sym full) (keeps_same text piece k kept))
    ]

-- ---- lines by their numbers

drop_onto : (x : ℕ) (ls : List (List ℕ)) (m : ℕ) → drop (suc m) (onto_first x ls) ≡ drop (suc m) ls
drop_onto x [] zero = refl
drop_onto x [] (suc m) = refl
drop_onto x (l ∷ ls) m = refl

-- the lines after those that end in the front, and the first that may begin there
lines_after : (front bytes : List ℕ) (j : ℕ) → drop (length (line_feeds front) + suc j) (lines_of (front ++ bytes)) ≡ drop (suc j) (lines_of bytes)
lines_after [] bytes j = let z : 0 + suc j ≡ suc j = omega arith in ap (λ (m : ℕ). drop m (lines_of bytes)) z
lines_after (x ∷ xs) bytes j =
    elim (decide (x == 10)) [
      | inl t ↦
          (let n : suc (length (line_feeds xs)) + suc j ≡ suc (length (line_feeds xs) + suc j) = omega arith in
          let h = lines_after xs bytes j in rw t (ap (λ (m : ℕ). drop m ((10 ∷ []) ∷ lines_of (xs ++ bytes))) n ∙ h))
      | inr f ↦
          (let n : length (line_feeds xs) + suc j ≡ suc (length (line_feeds xs) + j) = omega arith in
          let h = lines_after xs bytes j in
          let o = ap (λ (m : ℕ). drop m (onto_first x (lines_of (xs ++ bytes)))) n ∙ (drop_onto x (lines_of (xs ++ bytes)) (length (line_feeds xs) + j) ∙ ap (λ (m : ℕ). drop m (lines_of (xs ++ bytes))) (sym n)) in
          rw f (o ∙ h))
    ]

-- the text from a line on that begins in the front has all that follows the front
tail_within : (front bytes : List ℕ) (m : ℕ) → m ≤ length (line_feeds front) → length bytes ≤ length (flat_map (λ (l : List ℕ). l) (drop m (lines_of (front ++ bytes))))
tail_within front bytes zero h =
    let e = ap length (joined (front ++ bytes)) in
    let p = length_append front bytes in omega (arith, e, p)
tail_within [] bytes (suc m) h = absurd (omega (arith, h))
tail_within (x ∷ xs) bytes (suc m) h =
    elim (decide (x == 10)) [
      | inl t ↦ (let low : m ≤ length (line_feeds xs) = (let g = rw t at h in omega (arith, g)) in let r = tail_within xs bytes m low in rw t r)
      | inr f ↦
          (let low : suc m ≤ length (line_feeds xs) = rw f at h in
          let r = tail_within xs bytes (suc m) low in
          let o = drop_onto x (lines_of (xs ++ bytes)) m in rw (f, o) r)
    ]

no_line_before : (n : ℕ) (k : Keeping) (text : List ℕ) → Keeps text k → k.is_lost ≡ false → lines_before n k ≡ None → IsFarBack n text
no_line_before zero k text h lost none = inl refl
no_line_before (suc n) k text h lost none =
    elim (decide (k.is_cut)) [
      | inl cut ↦
          (let early : nat_lt (suc n) (k.before + 2) ≡ true = unkept (suc n) (k.before + 2) k.before (rw (lost, cut) at none) in
          let low : n ≤ length (line_feeds h.front) = (let b = h.before in grind (arith, early, b)) in
          let within = tail_within h.front (bytes_kept k) n low in
          let enough = h.enough cut in
          let one : suc n - 1 ≡ n = omega arith in
          let is : from_line (suc n) text ≡ flat_map (λ (l : List ℕ). l) (drop n (lines_of (h.front ++ bytes_kept k))) =
          ap (λ (m : ℕ). flat_map (λ (l : List ℕ). l) (drop m (lines_of text))) one ∙ ap (λ (t : List ℕ). flat_map (λ (l : List ℕ). l) (drop n (lines_of t))) h.whole in
          let size = ap length is in inr (omega (arith, within, enough, size)))
      | inr whole ↦
          (let early : nat_lt (suc n) (k.before + 1) ≡ true = unkept (suc n) (k.before + 1) k.before (rw (lost, whole) at none) in
          let b : k.before ≡ 0 = h.before ∙ ap (λ (f : List ℕ). length (line_feeds f)) (h.all whole) in absurd (let c : suc n < k.before + 1 = grind (arith, early) in omega (arith, c, b)))
    ] where
      unkept : (n first before : ℕ) → (if nat_lt n first then None else Some (n - 1 - before)) ≡ None → nat_lt n first ≡ true
      unkept n first before e = elim (decide (nat_lt n first)) [ inl t ↦ t | inr f ↦ (let s : Some (n - 1 - before) ≡ None = rw f at e in absurd (cc)) ]

some_line_before : (n feeds : ℕ) (k : Keeping) (text : List ℕ) → Keeps text k → lines_before n k ≡ Some feeds → drop feeds (lines_of (bytes_kept k)) ≡ drop (n - 1) (lines_of text)
some_line_before n feeds k text h is =
    elim (decide (k.is_lost)) [
      | inl lost ↦ (let e : None ≡ Some feeds = rw lost at is in absurd (cc))
      | inr found ↦
          elim (decide (k.is_cut)) [
            | inl cut ↦
                (let at = kept n (k.before + 2) k.before feeds (rw (found, cut) at is) in
                let low : k.before + 2 ≤ n = at.0 in
                let f : feeds ≡ suc (n - 2 - k.before) = at.1 ∙ omega (arith, low) in
                let b = h.before in
                let m : n - 1 ≡ length (line_feeds h.front) + suc (n - 2 - k.before) = omega (arith, low, b) in
                ap (λ (i : ℕ). drop i (lines_of (bytes_kept k))) f ∙ (sym (lines_after h.front (bytes_kept k) (n - 2 - k.before))
                ∙ (ap (λ (i : ℕ). drop i (lines_of (h.front ++ bytes_kept k))) (sym m) ∙ ap (λ (t : List ℕ). drop (n - 1) (lines_of t)) (sym h.whole))))
            | inr whole ↦
                (let at = kept n (k.before + 1) k.before feeds (rw (found, whole) at is) in
                let none = h.all whole in
                let b : k.before ≡ 0 = h.before ∙ ap (λ (f : List ℕ). length (line_feeds f)) none in
                let f : feeds ≡ n - 1 = at.1 ∙ omega (arith, b) in
                let t : bytes_kept k ≡ text = sym (h.whole ∙ ap (λ (f : List ℕ). f ++ bytes_kept k) none) in
                ap (λ (i : ℕ). drop i (lines_of (bytes_kept k))) f ∙ ap (λ (t : List ℕ). drop (n - 1) (lines_of t)) t)
          ]
    ] where
      kept : (n first before feeds : ℕ) → (if nat_lt n first then None else Some (n - 1 - before)) ≡ Some feeds → (first ≤ n) × (feeds ≡ n - 1 - before)
      kept n first before feeds e =
          elim (decide (nat_lt n first)) [
            | inl t ↦ (let s : None ≡ Some feeds = rw t at e in absurd (cc))
            | inr f ↦ (let s : Some (n - 1 - before) ≡ Some feeds = rw f at e in (grind (arith, f), cc))
          ]

pub ok_on : {T E : Type 0} → (r : Result T E) (P Q : T → Type 0) → ((t : T) → P t → Q t) → IfOk r P → IfOk r Q
ok_on (Ok t) P Q f h = f t h
ok_on (Err e) P Q f h = tt

-- what is said of the line that was found, or of none
pub said_of_line : (fault : InputFault) (k : Keeping) (line said : List ℕ) → IsLineKept fault.line k (Some line) → IsSaid fault.kind line said → IsSaidOf fault k said
said_of_line fault k line said found s = λ text h lost.
    let e = found.2 ∙ ap (λ (ls : List (List ℕ)). line_text (first_of ls)) (some_line_before fault.line found.0 k text h found.1) in
    inl (subst (λ (l : List ℕ). IsSaid fault.kind l said) e s)

pub said_of_none : (fault : InputFault) (k : Keeping) (said : List ℕ) → IsLineKept fault.line k None → said ≡ [] → IsSaidOf fault k said
said_of_none fault k said none s = λ text h lost. inr (s, no_line_before fault.line k text h lost none)

-- ---- the lines after others

drop_more : (i : ℕ) (ls : List (List ℕ)) → drop 1 (drop i ls) ≡ drop (i + 1) ls
drop_more zero ls = let z : 0 + 1 ≡ 1 = omega arith in sym (ap (λ (m : ℕ). drop m ls) z)
drop_more (suc i) [] = let z : suc i + 1 ≡ suc (i + 1) = omega arith in sym (ap (λ (m : ℕ). drop m []) z)
drop_more (suc i) (l ∷ ls) = let z : suc i + 1 ≡ suc (i + 1) = omega arith in drop_more i ls ∙ sym (ap (λ (m : ℕ). drop m (l ∷ ls)) z)

lines_unbroken : (rest : List ℕ) → IsUnbroken rest → [] ≡ drop 1 (lines_of rest)
lines_unbroken [] u = refl
lines_unbroken (x ∷ xs) u = sym (ap (drop 1) (lines_open x xs u))

pub after_none : (bytes : List ℕ) → IsUnbroken bytes → [] ≡ drop 1 (lines_of bytes)
after_none bytes u = lines_unbroken bytes u

pub after_feed : (bytes : List ℕ) (end : ℕ) → IsFirstByte (is_byte 10) bytes (Some end) → lines_of (take (length bytes - (end + 1)) (drop (end + 1) bytes)) ≡ drop 1 (lines_of bytes)
after_feed bytes end f =
    let l = feed_lines bytes [] end f in
    let high : end < length bytes = f.0.high in
    let slice : take (length bytes - (end + 1)) (drop (end + 1) bytes) ≡ drop (end + 1) bytes = rest_slice (end + 1) bytes (omega (arith, high)) in
    let r : lines_of bytes ≡ take (end + 1) bytes ∷ lines_of (drop (end + 1) bytes) =
    sym (ap lines_of (append-nil bytes)) ∙ (l ∙ ap (λ (t : List ℕ). take (end + 1) bytes ∷ lines_of t) (append-nil (drop (end + 1) bytes))) in
    ap lines_of slice ∙ sym (ap (drop 1) r)

pub after_more : (bytes rest next : List ℕ) (i : ℕ) → lines_of rest ≡ drop i (lines_of bytes) → lines_of next ≡ drop 1 (lines_of rest) → lines_of next ≡ drop (i + 1) (lines_of bytes)
after_more bytes rest next i e n = n ∙ (ap (drop 1) e ∙ drop_more i (lines_of bytes))

drop_short : (n : ℕ) (ls : List (List ℕ)) → length ls ≤ n → drop n ls ≡ []
drop_short n ls h = drop_all n ls h

dropped_length : (i : ℕ) (ls : List (List ℕ)) → length (drop i ls) ≡ length ls - i
dropped_length i ls = grind (arith, common_steps)

pub after_all : (bytes rest : List ℕ) (i count : ℕ) → length rest ≡ 0 → i ≤ count → lines_of rest ≡ drop i (lines_of bytes) → lines_of rest ≡ drop count (lines_of bytes)
after_all bytes [] i count h low e =
    let n = dropped_length i (lines_of bytes) in
    let m = ap length e in
    sym (drop_short count (lines_of bytes) (omega (arith, n, m, low)))
after_all bytes (x ∷ xs) i count h low e = absurd (omega (arith, h))

-- ---- the first line

pub first_fed : (bytes : List ℕ) (end : ℕ) → IsFirstByte (is_byte 10) bytes (Some end) → take (end + 1) bytes ≡ first_of (lines_of bytes)
first_fed bytes end f =
    let l = feed_lines bytes [] end f in sym (ap first_of (sym (ap lines_of (append-nil bytes)) ∙ l))

pub first_unbroken : (bytes : List ℕ) → IsUnbroken bytes → bytes ≡ first_of (lines_of bytes)
first_unbroken [] u = refl
first_unbroken (x ∷ xs) u = sym (ap first_of (lines_open x xs u))
