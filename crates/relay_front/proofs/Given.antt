-- What is kept of the metadata of an action line, member by member.
use Rattle.std.proofs.Common.{◌≡◌, ◌⊎◌, ℕ, List, codes, Bool, true, false, ◌||◌, ◌&&◌, true≢false, bytes_eq, is_some, Option, None, Some, Ordering, Less, Equal, Greater, nat_cmp, is_eq, refl, ap, sym, ◌∙◌, inl, inr}
use denote.Ref.{Bor}
use Rattle.std.proofs.lemmas.Map.Text.{is_eq-slice_cmp}
use Rattle.std.proofs.lemmas.Slice.Eq.{bytes_eq-Decides}
use Rattle.std.specs.Cmp.Lexicographic.{slice_cmp}
use Rattle.std.specs.Ordering.{match_ordering}
use Rattle.serde_json.specs.Data.{Data, Members, member, no_members, put}
use Rattle.serde_json.specs.Find.{get_member}
use Rattle.serde_json.proofs.Views.{get_member-put, get_member-put_other}
use Rattle.relay_json.specs.Walks.{IsLeaf}
use Rattle.relay_json.specs.declared.leaf.Leaf.{Leaf}
use Rattle.relay_json.specs.declared.leaf.Leaf.TheVariants as leaf
use Rattle.relay_json.specs.Leaves.{shows_null}
use Rattle.relay_ndjson.specs.Fields.{IsLeafOf}
use Rattle.relay_front.specs.declared.metadata.Metadata.{Metadata}
use Rattle.relay_front.proofs.Names.{differ}
use Rattle.relay_front.specs.Metadata.{is_known, is_null, unless_null, has_no_other, IsOther, HoldsOther, HoldsMembers}

pub decide : (b : Bool) → (b ≡ true) ⊎ (b ≡ false)
decide true = inl refl
decide false = inr refl

pub eq-from : (xs ys : List ℕ) → bytes_eq xs ys ≡ true → xs ≡ ys
eq-from xs ys e = (bytes_eq-Decides xs ys).0 e

apart : (xs ys : List ℕ) → bytes_eq xs ys ≡ false → xs ≡ ys → ⊥
apart xs ys e same = true≢false (sym ((bytes_eq-Decides xs ys).1 same) ∙ e)

same_name : (k l : List ℕ) → slice_cmp nat_cmp k l ≡ Equal → k ≡ l
same_name k l e = (bytes_eq-Decides k l).0 (sym (is_eq-slice_cmp k l) ∙ ap is_eq e)

pub both : (a b : Bool) → (a && b) ≡ true → (a ≡ true) × (b ≡ true)
both true true e = (refl, refl)
both true false e = absurd (true≢false (sym e))
both false b e = absurd (true≢false (sym e))

-- ---- one more member

leaf-put : (leaf : Leaf) (k : List ℕ) (d : Data) (ms : Members) → IsLeaf leaf d → IsLeafOf (Some leaf) (get_member k (put k d ms))
leaf-put leaf k d ms h = (d, get_member-put k d ms, h)

leaf-put_other : (o : Option Leaf) (q k : List ℕ) (d : Data) (ms : Members) → (q ≡ k → ⊥) → IsLeafOf o (get_member q ms) → IsLeafOf o (get_member q (put k d ms))
leaf-put_other o q k d ms other h = rw (get_member-put_other q k d ms other) h

no_other-put_at : (o : Ordering) (k l : List ℕ) (d e : Data) (ms : Members) → slice_cmp nat_cmp k l ≡ o → (is_known k || is_null d) ≡ true → has_no_other (member l e ms) ≡ true
    → (has_no_other ms ≡ true → has_no_other (put k d ms) ≡ true)
    → has_no_other (match_ordering o (member k d (member l e ms)) (member l d ms) (member l e (put k d ms))) ≡ true
no_other-put_at Less k l d e ms is passes h later = rw passes h
no_other-put_at Equal k l d e ms is passes h later =
    let s = same_name k l is in
    let p : (is_known l || is_null d) ≡ true = rw s at passes in
    rw p (both (is_known l || is_null e) (has_no_other ms) h).1
no_other-put_at Greater k l d e ms is passes h later =
    let b = both (is_known l || is_null e) (has_no_other ms) h in
    let first = b.0 in
    let rest = later b.1 in
    rw (first, rest) refl

no_other-put : (k : List ℕ) (d : Data) (ms : Members) → (is_known k || is_null d) ≡ true → has_no_other ms ≡ true → has_no_other (put k d ms) ≡ true
no_other-put k d no_members passes h = rw passes refl
no_other-put k d (member l e ms) passes h = no_other-put_at _ k l d e ms refl passes h (λ rest. no_other-put k d ms passes rest)

other-put_in : (name k : List ℕ) (d : Data) (ms : Members) → IsOther ms name → (bytes_eq name k ≡ true) ⊎ (bytes_eq name k ≡ false) → IsOther (put k d ms) name
other-put_in name k d ms h (inl y) = let s = eq-from name k y in (h.0, d, rw s (get_member-put k d ms))
other-put_in name k d ms h (inr n) = (h.0, h.1, get_member-put_other name k d ms (apart name k n) ∙ h.2)

other-kept : (other : Option (Bor (List ℕ))) (k : List ℕ) (d : Data) (ms : Members) → (is_known k || is_null d) ≡ true → HoldsOther other ms → HoldsOther other (put k d ms)
other-kept None k d ms passes h = no_other-put k d ms passes h
other-kept (Some name) k d ms passes h = other-put_in name.now k d ms h (decide (bytes_eq name.now k))

known_or : (k : List ℕ) (d : Data) → is_known k ≡ true → (is_known k || is_null d) ≡ true
known_or k d h = rw h refl

or_null : (b : Bool) → (b || true) ≡ true
or_null true = refl
or_null false = refl

pub put_index : (m : Metadata) (name : List ℕ) (leaf : Leaf) → name ≡ codes "_index" → (d : Data) (ms : Members) → IsLeaf leaf d → HoldsMembers m ms
    → HoldsMembers (record { index = Some leaf; id = m.id; other = m.other }) (put name d ms)
put_index m name leaf is d ms at h = rw is (record {
  index = leaf-put leaf (codes "_index") d ms at;
  id = leaf-put_other m.id (codes "_id") (codes "_index") d ms (apart (codes "_id") (codes "_index") refl) h.id;
  other = other-kept m.other (codes "_index") d ms (known_or (codes "_index") d refl) h.other;
})

pub put_id : (m : Metadata) (name : List ℕ) (leaf : Leaf) → name ≡ codes "_id" → (d : Data) (ms : Members) → IsLeaf leaf d → HoldsMembers m ms
    → HoldsMembers (record { index = m.index; id = Some leaf; other = m.other }) (put name d ms)
put_id m name leaf is d ms at h = rw is (record {
  index = leaf-put_other m.index (codes "_index") (codes "_id") d ms (apart (codes "_index") (codes "_id") refl) h.index;
  id = leaf-put leaf (codes "_id") d ms at;
  other = other-kept m.other (codes "_id") d ms (known_or (codes "_id") d refl) h.other;
})

pub put_type : (m : Metadata) (name : List ℕ) → name ≡ codes "_type" → (d : Data) (ms : Members) → HoldsMembers m ms → HoldsMembers m (put name d ms)
put_type m name is d ms h = rw is (record {
  index = leaf-put_other m.index (codes "_index") (codes "_type") d ms (apart (codes "_index") (codes "_type") refl) h.index;
  id = leaf-put_other m.id (codes "_id") (codes "_type") d ms (apart (codes "_id") (codes "_type") refl) h.id;
  other = other-kept m.other (codes "_type") d ms (known_or (codes "_type") d refl) h.other;
})

-- a name that is not one of the three
unknown : (name : List ℕ) → (name ≡ codes "_index" → ⊥) → (name ≡ codes "_id" → ⊥) → (name ≡ codes "_type" → ⊥) → is_known name ≡ false
unknown name i n t =
    let not_index = differ name (codes "_index") i in
    let not_id = differ name (codes "_id") n in
    let not_type = differ name (codes "_type") t in
    rw (not_index, not_id, not_type) refl

-- a leaf that is null stands for null alone
null_leaf : (leaf : Leaf) (d : Data) → IsLeaf leaf d → shows_null leaf ≡ is_null d
null_leaf leaf.Null d h = rw h refl
null_leaf (leaf.Bool b) d h = rw h refl
null_leaf (leaf.Number s) d h = let e = h.2 in rw e refl
null_leaf (leaf.String s) d h = rw h refl
null_leaf leaf.Array d h = let e = h.1 in rw e refl
null_leaf leaf.Object d h = let e = h.1 in rw e refl

pub some-kept : (other : Option (Bor (List ℕ))) (name : List ℕ) (d : Data) (ms : Members) → is_some other ≡ true → HoldsOther other ms → HoldsOther other (put name d ms)
some-kept None name d ms e h = absurd (true≢false (sym e))
some-kept (Some first) name d ms e h = other-put_in first.now name d ms h (decide (bytes_eq first.now name))

pub null-kept : (other : Option (Bor (List ℕ))) (name : List ℕ) (leaf : Leaf) (d : Data) (ms : Members) → IsLeaf leaf d → shows_null leaf ≡ true → HoldsOther other ms → HoldsOther other (put name d ms)
null-kept other name leaf d ms at shows h =
    let null : is_null d ≡ true = sym (null_leaf leaf d at) ∙ shows in
    other-kept other name d ms (rw null (or_null (is_known name))) h

pub other-found : (name : Bor (List ℕ)) (d : Data) (ms : Members) → is_known name.now ≡ false → HoldsOther (Some name) (put name.now d ms)
other-found name d ms un = (un, d, get_member-put name.now d ms)

pub put_other : (m : Metadata) (other : Option (Bor (List ℕ))) (name : List ℕ) → (name ≡ codes "_index" → ⊥) → (name ≡ codes "_id" → ⊥) → (name ≡ codes "_type" → ⊥) → (d : Data) (ms : Members)
    → (is_known name ≡ false → HoldsOther m.other ms → HoldsOther other (put name d ms)) → HoldsMembers m ms
    → HoldsMembers (record { index = m.index; id = m.id; other = other }) (put name d ms)
put_other m other name i n t d ms after h = record {
  index = leaf-put_other m.index (codes "_index") name d ms (λ same. i (sym same)) h.index;
  id = leaf-put_other m.id (codes "_id") name d ms (λ same. n (sym same)) h.id;
  other = after (unknown name i n t) h.other;
}

-- ---- what is given

pub null-dropped : (leaf : Leaf) (value : Option Data) → IsLeafOf (Some leaf) value → shows_null leaf ≡ true → unless_null value ≡ None
null-dropped leaf value h shows = let e = h.1 in let null : is_null h.0 ≡ true = sym (null_leaf leaf h.0 h.2) ∙ shows in rw (e, null) refl

pub other-given : (leaf : Leaf) (value : Option Data) → IsLeafOf (Some leaf) value → shows_null leaf ≡ false → IsLeafOf (Some leaf) (unless_null value)
other-given leaf value h shows = let e = h.1 in let null : is_null h.0 ≡ false = sym (null_leaf leaf h.0 h.2) ∙ shows in (h.0, rw (e, null) refl, h.2)
