-- The keys of the documents, sorted.
use Rattle.std.proofs.Common.{◌≡◌, ◌≢◌, ◌∙◌, ℕ, zero, suc, ◌+◌, List, [], ◌∷◌, ◌++◌, slice_get, take, get_or, Some, None, is_some, option_map, Bool, true, false, refl, ap, sym, arith}
use Rattle.std.specs.Map.{lookup, keys_of}
use Rattle.std.specs.Cmp.{IsTotalOrder, IsStrictWeakOrder}
use Rattle.std.specs.Fn.{Called, ComparesAs}
use Rattle.std.specs.List.{IsDistinct}
use Rattle.std.specs.List.Sorted.{IsPermutation, IsSortedBy, IsStrictlySortedBy}
use Rattle.std.specs.Ordering.{nat_cmp, is_lt, ordering_then, ordering_reverse}
use Rattle.std.specs.Cmp.Lexicographic.{slice_cmp}
use Rattle.std.specs.FinSet.{slice_cmp-IsAntisymmetric, nat_cmp-IsAntisymmetric}
use Rattle.std.specs.declared.cmp.Ordering.{Ordering}
use Rattle.std.specs.declared.cmp.Ordering.TheVariants.{Less, Equal, Greater}
use Rattle.std.proofs.lemmas.Cmp.{nat_list_cmp_total, on_total, then_total}
use Rattle.std.proofs.lemmas.List.Sorted.{ranks_by, answers_always, list_any-IsPermutation}
use Rattle.std.proofs.lemmas.Map.Keys.{IsDistinct-IsPermutation, apart_from_distinct, sorted_from_all_adjacent}
use Rattle.std.proofs.lemmas.Map.Made.{is_some-lookup}
use denote.Param.Members.{Mut}
use denote.Ref.{Bor}
use Rattle.relay_action.specs.declared.key.DocKey.{DocKey}
use Rattle.relay_action.specs.declared.write.Write.{Write}
use Rattle.relay_results.specs.Documents.{Document, document_of, same_document}
use Rattle.relay_results.proofs.Same.{same_document-self}
use Rattle.relay_index.specs.States.{State, applied_among, last_of, NoneEmpty}
use Rattle.relay_index.specs.Keys.{document_order, key_order, same_key, AreKeys}
use Rattle.relay_index.proofs.Appended.{same_document-sym, last_of-step}

-- ---- the order

pub document_total : IsTotalOrder document_order
document_total = then_total (on_total (λ (d : Document). d.index) nat_list_cmp_total) (on_total (λ (d : Document). d.id) nat_list_cmp_total)

pub key_total : IsTotalOrder key_order
key_total = on_total document_of document_total

tied_bytes : (xs ys : List ℕ) → slice_cmp nat_cmp xs ys ≡ Equal → xs ≡ ys
tied_bytes xs ys e = slice_cmp-IsAntisymmetric nat_cmp-IsAntisymmetric xs ys e

-- two keys that tie are one document
both_tied : (a b : Ordering) → ordering_then a b ≡ Equal → (a ≡ Equal) × (b ≡ Equal)
both_tied Less b e = absurd (less_tied e)
  where
    less_tied : Less ≡ Equal → ⊥
    less_tied h = cc
both_tied Equal b e = (refl, e)
both_tied Greater b e = absurd (greater_tied e)
  where
    greater_tied : Greater ≡ Equal → ⊥
    greater_tied h = cc

same_from_tied : (a b : DocKey) → key_order a b ≡ Equal → same_key a b ≡ true
same_from_tied a b e =
    let two = both_tied (slice_cmp nat_cmp a.index b.index) (slice_cmp nat_cmp a.id b.id) e in
    let i : a.index ≡ b.index = tied_bytes a.index b.index two.0 in
    let d : a.id ≡ b.id = tied_bytes a.id b.id two.1 in
    let is : document_of a ≡ document_of b = λ j. record { index = i j; id = d j } in
    ap (λ k. same_document (document_of a) k) (sym is) ∙ same_document-self (document_of a)

-- what is not below and differs is above
above_from : (a b : DocKey) → is_lt (key_order b a) ≡ false → same_key a b ≡ false → key_order a b ≡ Less
above_from a b not_below apart = by (key_order b a) refl
  where
    untied : key_order a b ≡ Equal → ⊥
    untied e = apart_tests (sym (same_from_tied a b e) ∙ apart)
      where
        apart_tests : true ≡ false → ⊥
        apart_tests h = cc

    by : (o : Ordering) → key_order b a ≡ o → key_order a b ≡ Less
    by Less e = let l : true ≡ false = rw e at not_below in cc
    by Equal e = absurd (untied (key_total.antisymm a b ∙ ap ordering_reverse e))
    by Greater e = key_total.antisymm a b ∙ ap ordering_reverse e

none_rise : IsStrictlySortedBy key_order []
unfolding IsStrictlySortedBy
none_rise = tt

-- keys that do not decrease and are distinct increase
rising_keys : (ks : List DocKey) → IsSortedBy (λ x y. is_lt (key_order x y)) ks → IsDistinct same_key ks → IsStrictlySortedBy key_order ks
rising_keys [] up apart = none_rise
rising_keys (x ∷ xs) up apart = sorted_from_all_adjacent key_total (x ∷ xs) x
    (λ k below. above_from (get_or (x ∷ xs) k x) (get_or (x ∷ xs) (k + 1) x) (up k x (omega arith) below) (apart_from_distinct same_key (x ∷ xs) k (k + 1) x apart (omega arith) below))

-- what a sort by the order of keys leaves
pub sorted_keys : {F : Type 0} {g : Mut F (Bor DocKey × (Bor DocKey × Unit {0})) Ordering} {f : F} (ks : List DocKey)
    → ((lt : DocKey → DocKey → Bool) → IsStrictWeakOrder lt → ComparesAs g lt f → IsSortedBy lt ks)
    → ((f : F) (a : Bor DocKey × (Bor DocKey × Unit {0})) (r : Ordering) (f' : F) → Called g f a r f' → r ≡ key_order a.0.now a.1.0.now)
    → IsSortedBy (λ x y. is_lt (key_order x y)) ks
sorted_keys {F = F} {g = g} {f = f} ks up says =
    up (λ x y. is_lt (key_order x y)) (ranks_by document_total document_of)
    (answers_always g (λ a r. is_lt r ≡ is_lt (key_order a.0.now a.1.0.now)) f (λ f a r f' k. ap is_lt (says f a r f' k)))

-- ---- what was written

stored_some : (ws : List Write) → ws ≢ [] → is_some (option_map (λ (w : Write). w.version) (last_of ws)) ≡ true
stored_some [] h = absurd (h refl)
stored_some (x ∷ []) h = refl
stored_some (x ∷ y ∷ ys) h = rw (last_of-step x y ys) (stored_some (y ∷ ys) (λ e. cc))

-- a document has a version if it has a list
listed : (es : List (DocKey × List Write)) (k : Document) → NoneEmpty es
    → is_some (lookup (λ key. same_document k (document_of key)) es) ≡ is_some (option_map (λ (w : Write). w.version) (last_of (applied_among es k)))
listed [] k h = refl
listed (e ∷ es) k h = by (same_document k (document_of e.0)) refl (listed es k h.1)
  where
    by : (b : Bool) → same_document k (document_of e.0) ≡ b
        → is_some (lookup (λ key. same_document k (document_of key)) es) ≡ is_some (option_map (λ (w : Write). w.version) (last_of (applied_among es k)))
        → is_some (lookup (λ key. same_document k (document_of key)) (e ∷ es)) ≡ is_some (option_map (λ (w : Write). w.version) (last_of (applied_among (e ∷ es) k)))
    by true f rest = rw f (sym (stored_some e.1 h.0))
    by false f rest = rw f rest

pub AreKeys-sorted : (s : State) (ks : List DocKey) → NoneEmpty s.documents → IsDistinct same_key (keys_of s.documents)
    → IsPermutation (keys_of s.documents) ks → IsSortedBy (λ x y. is_lt (key_order x y)) ks → AreKeys s ks
AreKeys-sorted s ks begun distinct moved up = record {
  rising = rising_keys ks up (IsDistinct-IsPermutation same_key (λ x y. same_document-sym (document_of x) (document_of y)) (keys_of s.documents) ks moved distinct);
  written = λ k.
      sym (list_any-IsPermutation (λ key. same_document k (document_of key)) (keys_of s.documents) ks moved)
      ∙ sym (is_some-lookup (λ key. same_document k (document_of key)) s.documents)
      ∙ listed s.documents k begun;
}

-- ---- the copies

-- one more key, at the next place
pub take-next_key : (es : List (DocKey × List Write)) (i : ℕ) (e : DocKey × List Write) → slice_get es i ≡ Some e
    → take (suc i) (keys_of es) ≡ take i (keys_of es) ++ e.0 ∷ []
take-next_key [] i e h = absurd (none_some e h)
  where
    none_some : (e : DocKey × List Write) → None ≡ Some e → ⊥
    none_some e h = cc
take-next_key (x ∷ xs) zero e h = let is : x ≡ e = cc in ap (λ k. k ∷ []) (ap (λ p. p.0) is)
take-next_key (x ∷ xs) (suc i) e h = ap (λ l. x.0 ∷ l) (take-next_key xs i e h)
