-- A reason states one stored version at most.
use Rattle.std.proofs.Common.{◌≡◌, ◌≢◌, ◌+◌, ◌<◌, ◌≤◌, ◌⊎◌, inl, inr, ℕ, suc, List, [], ◌∷◌, ◌++◌, ◌==◌, ◌||◌, length, take, drop, get_or, true, false, Bor, Option, Some, None, MatchOption, IfSome, IfNone, refl, ap, sym, subst, ◌∙◌, arith, append_assoc}
use Rattle.std.specs.List.{list_any, before_first, after_first, position_or_len}
use Rattle.std.specs.Str.Pattern.{RFindsText, SplitsAroundMatch, LacksTextAt}
use Rattle.std.specs.Str.Parse.{AllDigits}
use Rattle.std.proofs.Math.Seq.{drop-append_seam, drop-append-add}
use Rattle.std.proofs.lemmas.Bool.{eqb-true}
use Rattle.std.proofs.lemmas.Bool.Decides.{nat_tests}
use Rattle.std.proofs.lemmas.Grind.{common_steps}
use Rattle.std.proofs.lemmas.List.{get_or-take, length-append, take-append-drop}
use Rattle.std.proofs.lemmas.List.Sums.{passes_at_first, split_at_first, fails_before_first}
use Rattle.relay_results.specs.Ends.{HasNoEnd, IsEndedAt}
use Rattle.relay_results.specs.Numerals.{IsNumber}
use Rattle.relay_results.specs.Stored.{stored_mark, IsLastMark, StatesStored, SaysStored}

-- ---- the last mark

-- the text has the mark after this front
at_mark : (text front rest : List ℕ) → text ≡ front ++ (stored_mark ++ rest) → drop (length front) text ≡ stored_mark ++ rest
at_mark text front rest e = ap (drop (length front)) e ∙ drop-append_seam front (stored_mark ++ rest)

front_within : (text front rest : List ℕ) → text ≡ front ++ rest → length front ≤ length text
front_within text front rest e = let n = ap length e ∙ length-append front rest in omega (arith, n)

two_ways : (m n : ℕ) → (m ≤ n) ⊎ (n < m)
two_ways m n = grind arith

not_later : (i : ℕ) (text front rest : List ℕ) → text ≡ front ++ (stored_mark ++ rest) → ((k : ℕ) → i < k → k ≤ length text → LacksTextAt stored_mark text k) → length front ≤ i
not_later i text front rest e lacks =
    elim (two_ways (length front) i) [
      | inl low ↦ low
      | inr late ↦ absurd (lacks (length front) late (front_within text front (stored_mark ++ rest) e) rest (at_mark text front rest e))
    ]

-- the search from the end finds the last mark
pub finds_last : (text before after : List ℕ) → SplitsAroundMatch (RFindsText stored_mark) text before after → IsLastMark text before after
finds_last text before after s =
    let found = s.2 in record {
      is_there =
          sym (take-append-drop s.0 text)
          ∙ ap (λ xs. take s.0 text ++ xs) (found.1.split ∙ ap (λ xs. stored_mark ++ xs) (sym s.4))
          ∙ ap (λ xs. xs ++ (stored_mark ++ after)) (sym s.3);
      last = λ front rest e. subst (λ n. length front ≤ n) (sym s.6) (not_later s.0 text front rest e found.0);
    }

-- or there is none
pub finds_none : (text : List ℕ) → ((k : ℕ) → k ≤ length text → LacksTextAt stored_mark text k) → (before after : List ℕ) → IsLastMark text before after → ⊥
finds_none text lacks before after m =
    lacks (length before) (front_within text before (stored_mark ++ after) m.is_there) after (at_mark text before after m.is_there)

-- what follows the last mark
pub one_mark : (text a b xs ys : List ℕ) → IsLastMark text a xs → IsLastMark text b ys → xs ≡ ys
one_mark text a b xs ys p q =
    let same : length a ≡ length b = let l = p.last b ys q.is_there in let m = q.last a xs p.is_there in omega (arith, l, m) in
    let left = at_mark text a xs p.is_there in
    let right = subst (λ n. drop n text ≡ stored_mark ++ ys) (sym same) (at_mark text b ys q.is_there) in
    let both : stored_mark ++ xs ≡ stored_mark ++ ys = sym left ∙ right in
    sym (drop-append_seam stored_mark xs) ∙ ap (drop (length stored_mark)) both ∙ drop-append_seam stored_mark ys

-- ---- up to the first end

-- no byte is an end, so the text has none
none_is : (text : List ℕ) → ((k : ℕ) → k < length text → (get_or text k 0 == 93) ≡ false) → HasNoEnd text
none_is [] h = refl
none_is (x ∷ xs) h =
    let here : (x == 93) ≡ false = h 0 (omega arith) in
    let rest = none_is xs (λ k lt. h (suc k) (omega arith)) in grind (arith, common_steps, here, rest)

pub cut_ends : (text : List ℕ) (r : Option (Bor (List ℕ) × Bor (List ℕ))) → MatchOption r (position_or_len (λ b. b == 93) text ≡ length text)
    (λ x. (x.0.now ≡ before_first (λ b. b == 93) text) × (x.1.now ≡ after_first (λ b. b == 93) text) × (position_or_len (λ b. b == 93) text < length text))
    → MatchOption r (HasNoEnd text) (λ x. IsEndedAt text x.0.now x.1.now)
cut_ends text None e = none_is text (λ k lt. fails_before_first (λ b. b == 93) text k 0 (omega (arith, e, lt)))
cut_ends text (Some x) h =
    let lt = h.2 in
    let byte : get_or text (position_or_len (λ b. b == 93) text) 0 ≡ 93 = eqb-true _ 93 (passes_at_first (λ b. b == 93) text 0 lt) in
    record {
      front_has_none =
          rw h.0 (none_is (before_first (λ b. b == 93) text)
          (λ k below. let low : k < position_or_len (λ b. b == 93) text = grind (arith, common_steps, below) in
          rw (get_or-take (position_or_len (λ b. b == 93) text) text k 0 low) (fails_before_first (λ b. b == 93) text k 0 low)));
      whole =
          rw (h.0, h.1) (split_at_first (λ b. b == 93) text 0 lt ∙ ap (λ b. before_first (λ b. b == 93) text ++ b ∷ after_first (λ b. b == 93) text) byte);
    }

end_in : (front back : List ℕ) → list_any (λ b. b == 93) (front ++ 93 ∷ back) ≡ true
end_in [] back = refl
end_in (x ∷ front) back = let rest = end_in front back in grind (arith, common_steps, rest)

tail_has_none : (x : ℕ) (w : List ℕ) → HasNoEnd (x ∷ w) → HasNoEnd w
tail_has_none x w h = elim (x == 93) as (λ b. (b || list_any (λ b. b == 93) w) ≡ false → HasNoEnd w) [ true ↦ λ e. cc | false ↦ λ e. e ] h

no_end_first : (w : List ℕ) → HasNoEnd (93 ∷ w) → ⊥
no_end_first w h = cc

-- two texts without an end before the same end
one_front : (w v r s : List ℕ) → HasNoEnd w → HasNoEnd v → w ++ 93 ∷ r ≡ v ++ 93 ∷ s → w ≡ v
one_front [] [] r s a b e = refl
one_front [] (y ∷ v) r s a b e = absurd (no_end_first v (let h : y ≡ 93 = cc in subst (λ (n : ℕ). HasNoEnd (n ∷ v)) h b))
one_front (x ∷ w) [] r s a b e = absurd (no_end_first w (let h : x ≡ 93 = cc in subst (λ (n : ℕ). HasNoEnd (n ∷ w)) h a))
one_front (x ∷ w) (y ∷ v) r s a b e =
    let tails : w ++ 93 ∷ r ≡ v ++ 93 ∷ s = cc in
    let heads : x ≡ y = cc in
    let more = one_front w v r s (tail_has_none x w a) (tail_has_none y v b) tails in cc

-- digits are no end
digits_end_none : (w : List ℕ) → AllDigits 10 w → HasNoEnd w
digits_end_none [] all = refl
digits_end_none (x ∷ w) all =
    let rest = digits_end_none w all.1 in
    let two : (x ≡ 93) ⊎ ((x == 93) ≡ false) = grind (arith, nat_tests) in
    elim two [ inl e ↦ absurd (omega (arith, rw e at all.0)) | inr apart ↦ grind (arith, common_steps, apart, rest) ]

-- ---- one version

pub states_one : (text before after front back : List ℕ) (version : ℕ) → IsLastMark text before after → IsEndedAt after front back → (s : StatesStored text version) → IsNumber front version
states_one text before after front back version m e s =
    let same = one_mark text before s.before after (s.digits ++ 93 ∷ s.after) m s.mark in
    let fronts : front ≡ s.digits =
    one_front front s.digits back s.after e.front_has_none (digits_end_none s.digits s.number.digits.1) (sym e.whole ∙ same) in
    subst (λ w. IsNumber w version) (sym fronts) s.number

pub never_ends : (text before after : List ℕ) (version : ℕ) → IsLastMark text before after → HasNoEnd after → StatesStored text version → ⊥
never_ends text before after version m none s =
    let same = one_mark text before s.before after (s.digits ++ 93 ∷ s.after) m s.mark in
    let some = end_in s.digits s.after in
    let e : list_any (λ b. b == 93) after ≡ true = ap (list_any (λ b. b == 93)) same ∙ some in cc

pub one_version : (text : List ℕ) (v w : ℕ) → StatesStored text v → StatesStored text w → v ≡ w
one_version text v w p q =
    let ends : IsEndedAt (p.digits ++ 93 ∷ p.after) p.digits p.after = record { front_has_none = digits_end_none p.digits p.number.digits.1; whole = refl } in
    let n = states_one text p.before (p.digits ++ 93 ∷ p.after) p.digits p.after w p.mark ends q in sym p.number.value ∙ n.value

-- the number before the first end after the last mark is the version, if it is a number
pub says_number : (text before after front back : List ℕ) (r : Option ℕ) → IsLastMark text before after → IsEndedAt after front back → IfSome r (IsNumber front) → IfNone r ((n : ℕ) → IsNumber front n → ⊥) → SaysStored (Some text) r
says_number text before after front back None m e some none = λ version s. none version (states_one text before after front back version m e s)
says_number text before after front back (Some version) m e some none = record {
  before = before;
  digits = front;
  after = back;
  mark = subst (λ xs. IsLastMark text before xs) e.whole m;
  number = some;
}
