-- Elements at places of lists.
use Rattle.std.proofs.Common.{◌≡◌, ℕ, zero, suc, ◌-◌, ◌<◌, ◌≤◌, List, [], ◌∷◌, length, get_or, Option, Some, None, Bool, true, false, refl, sym, ap, ◌∙◌, inl, inr, arith, rules, ◌≢◌, ⊎_elim}
use Rattle.std.specs.Prelude.{◌==◌, slice_get, slice_set, OnOk, OnErr, Ok, Err, Result, option_map, is_some, IsSome, IsOk, IfOk}
use Rattle.relay_results.specs.Words.{IsSubsequence, update}
use Rattle.relay_results.proofs.Lists.{equal, true_or_false}
use Rattle.relay_world.specs.State.{element_at}

-- the test of two different numbers is false
pub not_equal : (m n : ℕ) → m ≢ n → (m == n) ≡ false
not_equal m n ne = ⊎_elim (λ t. absurd (ne (equal m n t))) (λ f. f) (true_or_false (m == n))

-- what follows from each of two outcomes follows
pub either : {A E : Type 0} (r : Result A E) (P Q C : Type 0) → OnOk r P → OnErr r Q → (P → C) → (Q → C) → C
either (Ok x) P Q C p q f g = f p
either (Err x) P Q C p q f g = g q

-- what is read at a place is there
pub at_index : {A : Type 0} (xs : List A) (n : ℕ) (x : A) → n < length xs → x ≡ get_or xs n x → slice_get xs n ≡ Some x
at_index [] n x lt e = absurd (omega arith)
at_index (y ∷ xs) zero x lt e = ap Some (sym e)
at_index (y ∷ xs) (suc n) x lt e = at_index xs n x (omega arith) e

-- putting a changed element back is an update
pub set-update : {A : Type 0} (f : A → A) (xs : List A) (n : ℕ) (x y : A) → slice_get xs n ≡ Some x → y ≡ f x → slice_set xs n y ≡ update n f xs
set-update f [] n x y e same = refl
set-update f (z ∷ xs) zero x y e same = let zx : z ≡ x = cc in ap (λ w. w ∷ xs) (same ∙ ap f (sym zx))
set-update f (z ∷ xs) (suc n) x y e same = ap (λ ws. z ∷ ws) (set-update f xs n x y e same)

-- an element put back as it was changes nothing
pub set-same : {A : Type 0} (xs : List A) (n : ℕ) (x : A) → slice_get xs n ≡ Some x → slice_set xs n x ≡ xs
set-same [] n x e = refl
set-same (y ∷ xs) zero x e = let yx : y ≡ x = cc in ap (λ w. w ∷ xs) (sym yx)
set-same (y ∷ xs) (suc n) x e = ap (λ ws. y ∷ ws) (set-same xs n x e)

pub length-set : {A : Type 0} (xs : List A) (n : ℕ) (x : A) → length (slice_set xs n x) ≡ length xs
length-set [] n x = refl
length-set (y ∷ xs) zero x = refl
length-set (y ∷ xs) (suc n) x = let e = length-set xs n x in omega (arith, e)

pub length-sub : {A : Type 0} (xs ys : List A) → IsSubsequence xs ys → length xs ≤ length ys
length-sub [] ys s = omega arith
length-sub (x ∷ xs) [] s = absurd s
length-sub (x ∷ xs) (y ∷ ys) s = elim s [ inl p ↦ (let e = length-sub xs ys p.1 in omega (arith, e)) | inr p ↦ (let e = length-sub (x ∷ xs) ys p in omega (arith, e)) ]

-- what is some through a function is some
pub some_of : {A B : Type 0} (o : Option A) (f : A → B) (x : Option B) → option_map f o ≡ x → true ≡ is_some x → IsSome o
some_of None f x e t = let n : is_some x ≡ false = ap is_some (sym e) in absurd (cc)
some_of (Some y) f x e t = search rules

-- what follows from a fact on a good outcome, or on a bad one
pub on_ok : {A E : Type 0} (r : Result A E) (P Q : Type 0) → (P → Q) → OnOk r P → OnOk r Q
on_ok (Ok x) P Q f p = f p
on_ok (Err x) P Q f p = p

pub on_ok_two : {A E : Type 0} (r : Result A E) (P Q R : Type 0) → (P → Q → R) → OnOk r P → OnOk r Q → OnOk r R
on_ok_two (Ok x) P Q R f p q = f p q
on_ok_two (Err x) P Q R f p q = p

pub on_err : {A E : Type 0} (r : Result A E) (P Q : Type 0) → (P → Q) → OnErr r P → OnErr r Q
on_err (Ok x) P Q f p = p
on_err (Err x) P Q f p = f p

-- if the outcome is good, so is the fact about it
pub ok_fact : {A E : Type 0} (r : Result A E) (P : Type 0) → IsOk r → OnOk r P → P
ok_fact (Ok x) P i p = p
ok_fact (Err x) P i p = absurd (cc)

-- a number that is not 0 is that of the element before it
pub minus_one : {A : Type 0} (xs : List A) (n : ℕ) → (n ≡ 0 → ⊥) → element_at xs n ≡ slice_get xs (n - 1)
minus_one xs n ne = by (n == 0) refl
  where
    by : (b : Bool) → (n == 0) ≡ b → element_at xs n ≡ slice_get xs (n - 1)
    by true e = absurd (ne (equal n 0 e))
    by false e = rw e refl

pub on_err_two : {A E : Type 0} (r : Result A E) (P Q R : Type 0) → (P → Q → R) → OnErr r P → OnErr r Q → OnErr r R
on_err_two (Ok x) P Q R f p q = p
on_err_two (Err x) P Q R f p q = f p q

pub if_ok_two : {A E : Type 0} (r : Result A E) (P Q R : A → Type 0) → ((x : A) → P x → Q x → R x) → IfOk r P → IfOk r Q → IfOk r R
if_ok_two (Ok x) P Q R f p q = f x p q
if_ok_two (Err x) P Q R f p q = p

pub numbered_at : {A : Type 0} (xs : List A) (n : ℕ) (x : A) → element_at xs n ≡ Some x → slice_get xs (n - 1) ≡ Some x
numbered_at xs n x e = by (n == 0) refl
  where
    by : (b : Bool) → (n == 0) ≡ b → slice_get xs (n - 1) ≡ Some x
    by true f = let h = rw f at e in absurd (cc)
    by false f = rw f at e
