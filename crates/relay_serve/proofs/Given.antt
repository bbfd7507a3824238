-- What is looked for in the lists of workers.
use Rattle.std.proofs.Common.{◌≡◌, ◌+◌, ◌<◌, ◌≤◌, ℕ, zero, suc, List, [], ◌∷◌, length, get_or, inl, inr, arith, below_more, subst, sym}
use Rattle.std.specs.Prelude.{Some, slice_get}
use Rattle.relay_results.specs.Words.{Mem}
use Rattle.relay_results.proofs.Lists.{Mem-at, at-within}

pub get_or-Mem : {A : Type 0} (xs : List A) (i : ℕ) (x : A) → i < length xs → x ≡ get_or xs i x → Mem x xs
get_or-Mem [] i x lt is = absurd (omega (arith, lt))
get_or-Mem (z ∷ xs) zero x lt is = inl is
get_or-Mem (z ∷ xs) (suc i) x lt is = inr (get_or-Mem xs i x (omega (arith, lt)) is)

pub get_or-at : {A : Type 0} (xs : List A) (i : ℕ) (x e : A) → x ≡ get_or xs i x → slice_get xs i ≡ Some e → e ≡ x
get_or-at [] i x e is at = absurd (cc)
get_or-at (z ∷ xs) zero x e is at = cc
get_or-at (z ∷ xs) (suc i) x e is at = get_or-at xs i x e is at

-- what holds at each place holds of each element
pub each-Mem : {A : Type 0} (P : A → Type 0) (xs : List A) (n : ℕ) → length xs ≤ n → ((k : ℕ) → k < n → (x : A) → slice_get xs k ≡ Some x → P x) → (x : A) → Mem x xs → P x
each-Mem P xs n le each x m =
    let at = Mem-at x xs m in
    let within = at-within xs at.0 x at.1 in
    each at.0 (omega (arith, within, le)) x at.1

-- and so at one place more
pub each-more : {A : Type 0} (P : A → Type 0) (xs : List A) (n : ℕ) (x : A) → x ≡ get_or xs n x → P x → ((k : ℕ) → k < n → (y : A) → slice_get xs k ≡ Some y → P y) → (k : ℕ) → k < n + 1 → (y : A) → slice_get xs k ≡ Some y → P y
each-more {A} P xs n x is p each =
    let at : (k : ℕ) → Type 0 = λ k. (y : A) → slice_get xs k ≡ Some y → P y in
    below_more at n each (λ y e. subst P (sym (get_or-at xs n x y is e)) p)
