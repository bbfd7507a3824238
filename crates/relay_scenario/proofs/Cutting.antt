-- The first word of a text, and the rest.
use Rattle.std.proofs.Common.{◌≡◌, ℕ, suc, ◌<◌, List, [], ◌∷◌, ◌++◌, ◌==◌, ◌||◌, length, get_or, true, false, Bor, Option, Some, None, MatchOption, refl, ap, sym, subst, ◌∙◌, arith}
use Rattle.std.proofs.lemmas.Grind.{common_steps}
use Rattle.std.specs.List.{list_any, before_first, after_first, position_or_len}
use Rattle.std.proofs.lemmas.Bool.{eqb-true}
use Rattle.std.proofs.lemmas.List.{get_or-take}
use Rattle.std.proofs.lemmas.List.Sums.{passes_at_first, split_at_first, fails_before_first}
use Rattle.relay_scenario.specs.Words.{Begins, IsWord}

-- no element is a space, so the text contains no space
none_is : (text : List ℕ) → ((k : ℕ) → k < length text → (get_or text k 0 == 32) ≡ false) → IsWord text
none_is [] h = refl
none_is (x ∷ xs) h =
    let here : (x == 32) ≡ false = h 0 (omega arith) in
    let rest = none_is xs (λ k lt. h (suc k) (omega arith)) in grind (arith, common_steps, here, rest)

-- a text that is cut nowhere is a word
whole_word : (text : List ℕ) → position_or_len (λ b. b == 32) text ≡ length text → IsWord text
whole_word text e = none_is text (λ k lt. fails_before_first (λ b. b == 32) text k 0 (omega (arith, e, lt)))

-- what precedes the first space is a word
front_word : (text : List ℕ) → position_or_len (λ b. b == 32) text < length text → IsWord (before_first (λ b. b == 32) text)
front_word text lt =
    none_is (before_first (λ b. b == 32) text)
    (λ k h. let below : k < position_or_len (λ b. b == 32) text = grind (arith, common_steps, h) in
    rw (get_or-take (position_or_len (λ b. b == 32) text) text k 0 below) (fails_before_first (λ b. b == 32) text k 0 below))

-- the parts on both sides of the first space
parts_begin : (text front back : List ℕ) → front ≡ before_first (λ b. b == 32) text → back ≡ after_first (λ b. b == 32) text → position_or_len (λ b. b == 32) text < length text → Begins text front back
parts_begin text front back f b lt = record {
  is_word = rw f (front_word text lt);
  whole =
      let byte : get_or text (position_or_len (λ b. b == 32) text) 0 ≡ 32 = eqb-true _ 32 (passes_at_first (λ b. b == 32) text 0 lt) in
      rw (f, b) (split_at_first (λ b. b == 32) text 0 lt ∙ ap (λ x. before_first (λ b. b == 32) text ++ x ∷ after_first (λ b. b == 32) text) byte);
}

pub cut_begins : (text : List ℕ) (r : Option (Bor (List ℕ) × Bor (List ℕ))) → MatchOption r (position_or_len (λ b. b == 32) text ≡ length text)
    (λ x. (x.0.now ≡ before_first (λ b. b == 32) text) × (x.1.now ≡ after_first (λ b. b == 32) text) × (position_or_len (λ b. b == 32) text < length text))
    → MatchOption r (IsWord text) (λ x. Begins text x.0.now x.1.now)
cut_begins text None h = whole_word text h
cut_begins text (Some x) h = parts_begin text x.0.now x.1.now h.0 h.1 h.2

-- ---- a text is cut in one way

space_in : (w r : List ℕ) → list_any (λ b. b == 32) (w ++ 32 ∷ r) ≡ true
space_in [] r = refl
space_in (x ∷ w) r = let rest = space_in w r in grind (arith, common_steps, rest)

-- a word is cut nowhere
pub no_cut : (text word rest : List ℕ) → IsWord text → Begins text word rest → ⊥
no_cut text word rest h b = let e = space_in word rest in let w = b.whole in cc

word_tail : (x : ℕ) (w : List ℕ) → IsWord (x ∷ w) → IsWord w
word_tail x w h = elim (x == 32) as (λ b. (b || list_any (λ b. b == 32) w) ≡ false → IsWord w) [ true ↦ λ e. cc | false ↦ λ e. e ] h

no_space_first : (w : List ℕ) → IsWord (32 ∷ w) → ⊥
no_space_first w h = cc

one_cut : (w v r s : List ℕ) → IsWord w → IsWord v → w ++ 32 ∷ r ≡ v ++ 32 ∷ s → (w ≡ v) × (r ≡ s)
one_cut [] [] r s a b e = (refl, cc)
one_cut [] (y ∷ v) r s a b e = absurd (no_space_first v (let h : y ≡ 32 = cc in subst (λ (n : ℕ). IsWord (n ∷ v)) h b))
one_cut (x ∷ w) [] r s a b e = absurd (no_space_first w (let h : x ≡ 32 = cc in subst (λ (n : ℕ). IsWord (n ∷ w)) h a))
one_cut (x ∷ w) (y ∷ v) r s a b e =
    let tails : w ++ 32 ∷ r ≡ v ++ 32 ∷ s = cc in
    let heads : x ≡ y = cc in
    let more = one_cut w v r s (word_tail x w a) (word_tail y v b) tails in
    (let m = more.0 in cc, more.1)

pub same_cut : (text word other rest more : List ℕ) → Begins text word rest → Begins text other more → (word ≡ other) × (rest ≡ more)
same_cut text word other rest more a b = one_cut word other rest more a.is_word b.is_word (sym a.whole ∙ b.whole)
