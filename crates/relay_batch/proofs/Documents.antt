-- The documents of a batch are in a set.
use Rattle.std.proofs.Common.{◌≡◌, ℕ, List, [], ◌∷◌, ◌++◌, false, ◌||◌, refl, sym, ap, ◌∙◌}
use Rattle.std.specs.Prelude.{map, nat_eq, if◌then◌else◌}
use Rattle.std.specs.List.{list_any}
use Rattle.std.specs.Cmp.{nat_eq_equiv}
use Rattle.indexmap.specs.IndexSet.{insert_key}
use Rattle.relay_batch.specs.declared.item.BatchItem.{BatchItem}
use Rattle.relay_batch.specs.Gathering.{holds_document}

pub held_of_set : (doc : ℕ) (is : List BatchItem) → list_any (nat_eq doc) (map (λ (i : BatchItem). i.doc) is) ≡ holds_document doc is
held_of_set doc [] = refl
held_of_set doc (i ∷ is) = λ j. nat_eq_equiv.symm doc i.doc j || held_of_set doc is j

pub set_of_more : (is : List BatchItem) (i : BatchItem) (ks : List ℕ) → ks ≡ map (λ (x : BatchItem). x.doc) is → holds_document i.doc is ≡ false → insert_key nat_eq ks i.doc ≡ map (λ (x : BatchItem). x.doc) (is ++ i ∷ [])
set_of_more is i ks e f =
    ap (λ xs. insert_key nat_eq xs i.doc) e
    ∙ ap (λ b. if b then map (λ (x : BatchItem). x.doc) is else map (λ (x : BatchItem). x.doc) is ++ i.doc ∷ []) (held_of_set i.doc is ∙ f)
    ∙ sym (mapped is)
  where
    mapped : (xs : List BatchItem) → map (λ (x : BatchItem). x.doc) (xs ++ i ∷ []) ≡ map (λ (x : BatchItem). x.doc) xs ++ i.doc ∷ []
    mapped [] = refl
    mapped (x ∷ xs) = ap (λ ys. x.doc ∷ ys) (mapped xs)
