-- What is outstanding, by number.
use Rattle.std.proofs.Common.{◌≡◌, ◌≢◌, ℕ, ◌+◌, ◌<◌, suc, zero, true, false, eqb, ltb, List, [], ◌∷◌, length, get_or, None, Some, refl, ap, sym, arith, inl, inr, eq-eqb}
use Rattle.std.proofs.lemmas.Bool.{ne_eqb, cases_lt, lt-ltb, eqb-false}
use Rattle.std.proofs.lemmas.Bool.Decides.{eqb_tells, Decides-eqb}
use Rattle.std.proofs.lemmas.List.Sums.{fails_before_first}
use Rattle.std.proofs.lemmas.List.Quantifiers.{position-Some}
use Rattle.std.specs.List.{remove, position, position_or_len}
use Rattle.relay_results.specs.Words.{Mem}
use Rattle.relay_lane.specs.Wires.{without}
use Rattle.relay_wires.specs.Numbers.{numbers, entry_of, besides}

-- ---- the search for the place of a number

-- no entry has the number
Lacks : {X : Type 0} → ℕ → List (ℕ × X) → Type 0
Lacks {X} n es = (k : ℕ) (d : ℕ × X) → k < length es → (get_or es k d).0 ≢ n

lacks_after : {X : Type 0} (n : ℕ) (e : ℕ × X) (es : List (ℕ × X)) → Lacks n (e ∷ es) → Lacks n es
unfolding Lacks
lacks_after n e es h = λ k d lt. h (suc k) d (omega arith)

lacks_position : {X : Type 0} (n : ℕ) (es : List (ℕ × X)) → position (λ e. eqb e.0 n) es ≡ None → Lacks n es
unfolding Lacks
lacks_position {X} n es e =
    elim (cases_lt (position_or_len (λ (e : ℕ × X). eqb e.0 n) es) (length es)) [
      | inl lt ↦ let found : ltb (position_or_len (λ (e : ℕ × X). eqb e.0 n) es) (length es) ≡ true = lt-ltb _ _ lt in
          let wrong = rw found at e in cc
      | inr past ↦ λ k d lt same.
          let fails : eqb (get_or es k d).0 n ≡ false = fails_before_first (λ (e : ℕ × X). eqb e.0 n) es k d (omega arith) in
          let passes : eqb (get_or es k d).0 n ≡ true = eq-eqb _ _ same in cc
    ]

entry_of-lacks : {X : Type 0} (n : ℕ) (es : List (ℕ × X)) → Lacks n es → (entry_of n es ≡ None) × (besides n es ≡ es)
unfolding Lacks
entry_of-lacks n [] h = (refl, refl)
entry_of-lacks n (e ∷ es) h =
    let apart : eqb e.0 n ≡ false = ne_eqb _ _ (h 0 e (omega arith)) in
    let rest = entry_of-lacks n es (lacks_after n e es h) in
    (rw apart rest.0, rw apart (ap (λ fs. e ∷ fs) rest.1))

entry_of-at : {X : Type 0} (n : ℕ) (es : List (ℕ × X)) (i : ℕ) (d : ℕ × X) → i < length es → (get_or es i d).0 ≡ n → ((k : ℕ) → k < i → (get_or es k d).0 ≢ n)
    → (entry_of n es ≡ Some (get_or es i d).1) × (besides n es ≡ remove es i)
entry_of-at n [] i d lt same h = absurd (omega arith)
entry_of-at n (e ∷ es) zero d lt same h =
    let here : eqb e.0 n ≡ true = eq-eqb _ _ same in
    (rw here refl, rw here refl)
entry_of-at n (e ∷ es) (suc i) d lt same h =
    let apart : eqb e.0 n ≡ false = ne_eqb _ _ (h 0 (omega arith)) in
    let rest = entry_of-at n es i d (omega arith) same (λ k below. h (suc k) (omega arith)) in
    (rw apart rest.0, rw apart (ap (λ fs. e ∷ fs) rest.1))

pub entry_of-position : {X : Type 0} (n : ℕ) (es : List (ℕ × X)) (i : ℕ) (d : ℕ × X) → position (λ e. eqb e.0 n) es ≡ Some i → (entry_of n es ≡ Some (get_or es i d).1) × (besides n es ≡ remove es i)
entry_of-position {X} n es i d e =
    let at = position-Some (λ (e : ℕ × X). eqb e.0 n) es i d e in
    entry_of-at n es i d at.0 ((Decides-eqb _ _).0 at.1) (λ k below. eqb-false _ _ (at.2 k below))

pub entry_of-no_position : {X : Type 0} (n : ℕ) (es : List (ℕ × X)) → position (λ e. eqb e.0 n) es ≡ None → (entry_of n es ≡ None) × (besides n es ≡ es)
entry_of-no_position n es e = entry_of-lacks n es (lacks_position n es e)

-- ---- the numbers

pub numbers-besides : {X : Type 0} (n : ℕ) (es : List (ℕ × X)) → numbers (besides n es) ≡ without n (numbers es)
numbers-besides n [] = refl
numbers-besides n (e ∷ es) = elim (eqb_tells e.0 n) [
  | inl same ↦ let here = same.0 in rw here refl
  | inr apart ↦ let other = apart.0 in rw other (ap (λ ns. e.0 ∷ ns) (numbers-besides n es))
]

-- a number that is outstanding is found
pub entry_of-Mem : {X : Type 0} (n : ℕ) (es : List (ℕ × X)) → Mem n (numbers es) → (x : X) × (entry_of n es ≡ Some x)
entry_of-Mem n [] m = absurd m
entry_of-Mem n (e ∷ es) m = elim (eqb_tells e.0 n) [
  | inl same ↦ let here = same.0 in (e.1, rw here refl)
  | inr apart ↦ let other = apart.0 in elim m [
    | inl eq ↦ absurd (apart.1 (sym eq))
    | inr later ↦ let x = entry_of-Mem n es later in (x.0, rw other x.1)
  ]
]

-- what is found is not among the others
pub length-besides : {X : Type 0} (n : ℕ) (es : List (ℕ × X)) (x : X) → entry_of n es ≡ Some x → length (besides n es) + 1 ≡ length es
length-besides n [] x is = absurd (cc)
length-besides n (e ∷ es) x is = elim (eqb_tells e.0 n) [
  | inl same ↦ let here = same.0 in rw here (omega arith)
  | inr apart ↦ let other = apart.0 in
      let rest = length-besides n es x (rw other at is) in
      rw other (omega arith)
]
