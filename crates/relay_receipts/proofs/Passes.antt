-- Lists of what the passes know, and which pass each lane has.
use Rattle.std.proofs.Common.{◌≡◌, ◌≢◌, ℕ, zero, suc, true, false, eqb, eq-eqb, ne_eqb, List, [], ◌∷◌, ◌++◌, length, set, sym, refl, ap, subst, ⊎_elim, arith, inl, inr, ◌⊎◌, ◌==◌, if◌then◌else◌}
use Rattle.std.proofs.lemmas.Bool.Decides.{eqb_tells}
use mathlib.Core.Option.{Option, some, none, some-injective, some-ne-none}
use lib.ListN.{get_elem?}
use Rattle.relay_receipts.specs.declared.rule.Knowledge.{Knowledge}

module _ {T : Type 0} where
  -- at a place after one was set
  pub at_set : (l : List (Knowledge T)) (i j : ℕ) (a b : Knowledge T) → get_elem? (set l i a) j ≡ some b → ((j ≡ i) × (a ≡ b)) ⊎ ((j ≢ i) × (get_elem? l j ≡ some b))
  at_set [] i j a b e = absurd (some-ne-none b (sym e))
  at_set (x ∷ xs) zero zero a b e = inl (refl, some-injective a b e)
  at_set (x ∷ xs) zero (suc j) a b e = inr ((λ h. omega arith), e)
  at_set (x ∷ xs) (suc i) zero a b e = inr ((λ h. omega arith), e)
  at_set (x ∷ xs) (suc i) (suc j) a b e =
      ⊎_elim (λ (t : (j ≡ i) × (a ≡ b)). inl (ap suc t.0, t.1))
      (λ (t : (j ≢ i) × (get_elem? xs j ≡ some b)). let n = t.0 in inr ((λ h. n (omega arith)), t.1)) (at_set xs i j a b e)

  -- at a place after one more was put at the end
  pub at_push : (l : List (Knowledge T)) (a b : Knowledge T) (j : ℕ) → get_elem? (l ++ a ∷ []) j ≡ some b → (get_elem? l j ≡ some b) ⊎ ((j ≡ length l) × (a ≡ b))
  at_push [] a b zero e = inr (refl, some-injective a b e)
  at_push [] a b (suc j) e = absurd (some-ne-none b (sym e))
  at_push (x ∷ xs) a b zero e = inl e
  at_push (x ∷ xs) a b (suc j) e = ⊎_elim (λ t. inl t) (λ (t : (j ≡ length xs) × (a ≡ b)). inr (ap suc t.0, t.1)) (at_push xs a b j e)

  -- each pass fits
  abbrev pub AllFit : (ℕ → Knowledge T → Type 0) → List (Knowledge T) → Type 0
  AllFit F passes = (pass : ℕ) (v : Knowledge T) → get_elem? passes pass ≡ some v → F pass v

  pub fit_set : (F : ℕ → Knowledge T → Type 0) (passes : List (Knowledge T)) (pass : ℕ) (w : Knowledge T) → F pass w → ((j : ℕ) (u : Knowledge T) → j ≢ pass → get_elem? passes j ≡ some u → F j u) → AllFit F (set passes pass w)
  fit_set F passes pass w own others j u e =
      ⊎_elim (λ (x : (j ≡ pass) × (w ≡ u)). subst (λ (y : ℕ × Knowledge T). F y.0 y.1) (λ i. (sym x.0 i, x.1 i)) own)
      (λ (x : (j ≢ pass) × (get_elem? passes j ≡ some u)). others j u x.0 x.1) (at_set passes pass j w u e)

  pub fit_push : (F : ℕ → Knowledge T → Type 0) (passes : List (Knowledge T)) (w : Knowledge T) → F (length passes) w → AllFit F passes → AllFit F (passes ++ w ∷ [])
  fit_push F passes w own others j u e =
      ⊎_elim (λ x. others j u x)
      (λ (x : (j ≡ length passes) × (w ≡ u)). subst (λ (y : ℕ × Knowledge T). F y.0 y.1) (λ i. (sym x.0 i, x.1 i)) own) (at_push passes w u j e)

-- which pass each lane has, with one changed
abbrev pub pass_at : (ℕ → Option ℕ) → ℕ → Option ℕ → ℕ → Option ℕ
pass_at pass_of lane pass q = if q == lane then pass else pass_of q

pub pass_at-own : (pass_of : ℕ → Option ℕ) (lane : ℕ) (pass : Option ℕ) → pass_at pass_of lane pass lane ≡ pass
pass_at-own pass_of lane pass = rw (eq-eqb lane lane refl)

pub pass_at-other : (pass_of : ℕ → Option ℕ) (lane q : ℕ) (pass : Option ℕ) → q ≢ lane → pass_at pass_of lane pass q ≡ pass_of q
pass_at-other pass_of lane q pass n = rw (ne_eqb q lane n)

pub pass_at-none : (pass_of : ℕ → Option ℕ) (lane q : ℕ) → pass_of q ≡ none → pass_at pass_of lane none q ≡ none
pass_at-none pass_of lane q e = ⊎_elim (λ (t : (eqb q lane ≡ true) × (q ≡ lane)). rw t.0) (λ (t : (eqb q lane ≡ false) × (q ≢ lane)). rw t.0 e) (eqb_tells q lane)
