-- The entries of a reply, gathered item by item.
use Rattle.std.proofs.Common.{◌≡◌, ℕ, zero, suc, ◌+◌, List, [], ◌∷◌, ◌++◌, drop, Option, Some, None, refl, sym, ap, ◌∙◌, arith, append_assoc}
use Rattle.std.specs.Prelude.{slice_get, option_map, is_some, true, false}
use Rattle.relay_results.specs.declared.outcome.Outcome.{Outcome}
use Rattle.relay_world.specs.State.{Item, World}
use Rattle.relay_world.specs.Refusals.{entry_at, and_more, entries_from}

drop-suc : {A : Type 0} (xs : List A) (n : ℕ) (x : A) → slice_get xs n ≡ Some x → drop n xs ≡ x ∷ drop (suc n) xs
drop-suc [] n x e = absurd (cc)
drop-suc (y ∷ xs) zero x e = let same : y ≡ x = cc in ap (λ z. z ∷ xs) same
drop-suc (y ∷ xs) (suc n) x e = drop-suc xs n x e

pub drop-at : {A : Type 0} (xs : List A) (n : ℕ) (x : A) → slice_get xs n ≡ Some x → drop n xs ≡ x ∷ drop (n + 1) xs
drop-at xs n x e = let s : suc n ≡ n + 1 = omega arith in drop-suc xs n x e ∙ ap (λ m. x ∷ drop m xs) s

module _ (w : World) (l : ℕ) (picks : List ℕ) (place : ℕ) (items : List Item) (x : Item) where
  from_here : slice_get items place ≡ Some x
      → entries_from w l picks place (drop place items) ≡ and_more (entry_at w l (slice_get picks place) x) (entries_from w l picks (place + 1) (drop (place + 1) items))
  from_here at = ap (entries_from w l picks place) (drop-at items place x at)

  pub ended : slice_get items place ≡ Some x → entry_at w l (slice_get picks place) x ≡ None → entries_from w l picks place (drop place items) ≡ None
  ended at none = from_here at ∙ ap (λ e. and_more e (entries_from w l picks (place + 1) (drop (place + 1) items))) none

  joined : (before : List Outcome) (e : Outcome) (rest : Option (List Outcome)) → option_map (λ os. before ++ os) (and_more (Some e) rest) ≡ option_map (λ os. (before ++ e ∷ []) ++ os) rest
  joined before e None = refl
  joined before e (Some os) = ap Some (sym (append_assoc before (e ∷ []) os))

  pub went_on : (before : List Outcome) (e : Outcome) → slice_get items place ≡ Some x → entry_at w l (slice_get picks place) x ≡ Some e
      → option_map (λ os. before ++ os) (entries_from w l picks place (drop place items))
      ≡ option_map (λ os. (before ++ e ∷ []) ++ os) (entries_from w l picks (place + 1) (drop (place + 1) items))
  went_on before e at some =
      ap (option_map (λ os. before ++ os)) (from_here at ∙ ap (λ y. and_more y (entries_from w l picks (place + 1) (drop (place + 1) items))) some)
      ∙ joined before e (entries_from w l picks (place + 1) (drop (place + 1) items))

  some_and : (e : Option Outcome) (rest : Option (List Outcome)) → is_some e ≡ true → is_some (and_more e rest) ≡ is_some rest
  some_and None rest t = absurd (cc)
  some_and (Some e) None t = refl
  some_and (Some e) (Some os) t = refl

  none_and : (e : Option Outcome) (rest : Option (List Outcome)) → is_some e ≡ false → is_some (and_more e rest) ≡ false
  none_and None rest t = refl
  none_and (Some e) rest t = absurd (cc)

  -- whether each item has its run, item by item
  pub one_has_none : slice_get items place ≡ Some x → is_some (entry_at w l (slice_get picks place) x) ≡ false → is_some (entries_from w l picks place (drop place items)) ≡ false
  one_has_none at t = ap is_some (from_here at) ∙ none_and (entry_at w l (slice_get picks place) x) (entries_from w l picks (place + 1) (drop (place + 1) items)) t

  pub others_have : slice_get items place ≡ Some x → is_some (entry_at w l (slice_get picks place) x) ≡ true
      → is_some (entries_from w l picks place (drop place items)) ≡ is_some (entries_from w l picks (place + 1) (drop (place + 1) items))
  others_have at t = ap is_some (from_here at) ∙ some_and (entry_at w l (slice_get picks place) x) (entries_from w l picks (place + 1) (drop (place + 1) items)) t
