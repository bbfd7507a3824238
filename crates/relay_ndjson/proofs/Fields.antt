-- What is kept of the metadata of an action line, member by member.
use Rattle.std.proofs.Common.{◌≡◌, ◌⊎◌, ℕ, List, codes, Bool, true, false, not, ◌&&◌, true≢false, bytes_eq, is_some, Option, None, Some, Ordering, Less, Equal, Greater, nat_cmp, is_eq, refl, ap, sym, ◌∙◌, subst, inl, inr}
use Rattle.std.proofs.lemmas.Map.Text.{is_eq-slice_cmp}
use Rattle.std.proofs.lemmas.Slice.Eq.{bytes_eq-Decides}
use Rattle.std.specs.Cmp.Lexicographic.{slice_cmp}
use Rattle.std.specs.Ordering.{match_ordering}
use Rattle.serde_json.specs.Data.{Data, object, Members, member, no_members, put}
use Rattle.serde_json.specs.Find.{get_member}
use Rattle.serde_json.proofs.Views.{get_member-put, get_member-put_other}
use Rattle.relay_json.specs.Walks.{IsLeaf}
use Rattle.relay_json.specs.declared.leaf.Leaf.{Leaf}
use Rattle.relay_ndjson.specs.declared.metadata.Metadata.{Metadata}
use Rattle.relay_ndjson.specs.Names.{all_names}
use Rattle.relay_ndjson.specs.declared.kind.LineKind.TheVariants as kind
use Rattle.relay_ndjson.specs.Metadata.{is_document, is_version, is_field, document_fault, metadata_fault}
use Rattle.relay_ndjson.specs.Fields.{IsLeafOf, HoldsMembers}
use Rattle.relay_ndjson.proofs.Asking.{decide}

eq-from : (xs ys : List ℕ) → bytes_eq xs ys ≡ true → xs ≡ ys
eq-from xs ys e = (bytes_eq-Decides xs ys).0 e

apart : (xs ys : List ℕ) → bytes_eq xs ys ≡ false → xs ≡ ys → ⊥
apart xs ys e same = true≢false (sym ((bytes_eq-Decides xs ys).1 same) ∙ e)

same_name : (k l : List ℕ) → slice_cmp nat_cmp k l ≡ Equal → k ≡ l
same_name k l e = (bytes_eq-Decides k l).0 (sym (is_eq-slice_cmp k l) ∙ ap is_eq e)

and_swap : (a b c : Bool) → (a && (b && c)) ≡ (b && (a && c))
and_swap true b c = refl
and_swap false true c = refl
and_swap false false c = refl

-- a name that was there before is known or not as before
and_again : (a c : Bool) → (a && c) ≡ (a && (a && c))
and_again true c = refl
and_again false c = refl

all_names-put_at : (known : List ℕ → Bool) (o : Ordering) (k l : List ℕ) (d e : Data) (ms : Members) → slice_cmp nat_cmp k l ≡ o → all_names known (put k d ms) ≡ (known k && all_names known ms)
    → all_names known (match_ordering o (member k d (member l e ms)) (member l d ms) (member l e (put k d ms))) ≡ (known k && (known l && all_names known ms))
all_names-put_at known Less k l d e ms is later = refl
all_names-put_at known Equal k l d e ms is later = let s = same_name k l is in rw s (and_again (known l) (all_names known ms))
all_names-put_at known Greater k l d e ms is later = rw later (and_swap (known l) (known k) (all_names known ms))

all_names-put : (known : List ℕ → Bool) (k : List ℕ) (d : Data) (ms : Members) → all_names known (put k d ms) ≡ (known k && all_names known ms)
all_names-put known k d no_members = refl
all_names-put known k d (member l e ms) = all_names-put_at known _ k l d e ms refl (all_names-put known k d ms)

-- ---- one more member

leaf-put : (leaf : Leaf) (k : List ℕ) (d : Data) (ms : Members) → IsLeaf leaf d → IsLeafOf (Some leaf) (get_member k (put k d ms))
leaf-put leaf k d ms h = (d, get_member-put k d ms, h)

leaf-put_other : (o : Option Leaf) (q k : List ℕ) (d : Data) (ms : Members) → (q ≡ k → ⊥) → IsLeafOf o (get_member q ms) → IsLeafOf o (get_member q (put k d ms))
leaf-put_other o q k d ms other h = rw (get_member-put_other q k d ms other) h

known-put : (b : Bool) (k : List ℕ) (d : Data) (ms : Members) → is_field k ≡ true → b ≡ not (all_names is_field ms) → b ≡ not (all_names is_field (put k d ms))
known-put b k d ms known h = rw (all_names-put is_field k d ms, known) h

pub put_index : (m : Metadata) (name : List ℕ) (leaf : Leaf) → name ≡ codes "_index" → (d : Data) (ms : Members) → IsLeaf leaf d → HoldsMembers m ms
    → HoldsMembers (record { index = Some leaf; id = m.id; version = m.version; version_type = m.version_type; has_other = m.has_other }) (put name d ms)
put_index m name leaf is d ms at h = rw is (record {
  index = leaf-put leaf (codes "_index") d ms at;
  id = leaf-put_other m.id (codes "_id") (codes "_index") d ms (apart (codes "_id") (codes "_index") refl) h.id;
  version = leaf-put_other m.version (codes "version") (codes "_index") d ms (apart (codes "version") (codes "_index") refl) h.version;
  version_type = leaf-put_other m.version_type (codes "version_type") (codes "_index") d ms (apart (codes "version_type") (codes "_index") refl) h.version_type;
  has_other = known-put m.has_other (codes "_index") d ms refl h.has_other;
})

pub put_id : (m : Metadata) (name : List ℕ) (leaf : Leaf) → name ≡ codes "_id" → (d : Data) (ms : Members) → IsLeaf leaf d → HoldsMembers m ms
    → HoldsMembers (record { index = m.index; id = Some leaf; version = m.version; version_type = m.version_type; has_other = m.has_other }) (put name d ms)
put_id m name leaf is d ms at h = rw is (record {
  index = leaf-put_other m.index (codes "_index") (codes "_id") d ms (apart (codes "_index") (codes "_id") refl) h.index;
  id = leaf-put leaf (codes "_id") d ms at;
  version = leaf-put_other m.version (codes "version") (codes "_id") d ms (apart (codes "version") (codes "_id") refl) h.version;
  version_type = leaf-put_other m.version_type (codes "version_type") (codes "_id") d ms (apart (codes "version_type") (codes "_id") refl) h.version_type;
  has_other = known-put m.has_other (codes "_id") d ms refl h.has_other;
})

pub put_version : (m : Metadata) (name : List ℕ) (leaf : Leaf) → name ≡ codes "version" → (d : Data) (ms : Members) → IsLeaf leaf d → HoldsMembers m ms
    → HoldsMembers (record { index = m.index; id = m.id; version = Some leaf; version_type = m.version_type; has_other = m.has_other }) (put name d ms)
put_version m name leaf is d ms at h = rw is (record {
  index = leaf-put_other m.index (codes "_index") (codes "version") d ms (apart (codes "_index") (codes "version") refl) h.index;
  id = leaf-put_other m.id (codes "_id") (codes "version") d ms (apart (codes "_id") (codes "version") refl) h.id;
  version = leaf-put leaf (codes "version") d ms at;
  version_type = leaf-put_other m.version_type (codes "version_type") (codes "version") d ms (apart (codes "version_type") (codes "version") refl) h.version_type;
  has_other = known-put m.has_other (codes "version") d ms refl h.has_other;
})

pub put_version_type : (m : Metadata) (name : List ℕ) (leaf : Leaf) → name ≡ codes "version_type" → (d : Data) (ms : Members) → IsLeaf leaf d → HoldsMembers m ms
    → HoldsMembers (record { index = m.index; id = m.id; version = m.version; version_type = Some leaf; has_other = m.has_other }) (put name d ms)
put_version_type m name leaf is d ms at h = rw is (record {
  index = leaf-put_other m.index (codes "_index") (codes "version_type") d ms (apart (codes "_index") (codes "version_type") refl) h.index;
  id = leaf-put_other m.id (codes "_id") (codes "version_type") d ms (apart (codes "_id") (codes "version_type") refl) h.id;
  version = leaf-put_other m.version (codes "version") (codes "version_type") d ms (apart (codes "version") (codes "version_type") refl) h.version;
  version_type = leaf-put leaf (codes "version_type") d ms at;
  has_other = known-put m.has_other (codes "version_type") d ms refl h.has_other;
})

differ : (xs ys : List ℕ) → (xs ≡ ys → ⊥) → bytes_eq xs ys ≡ false
differ xs ys other = elim (decide (bytes_eq xs ys)) [ inl y ↦ absurd (other (eq-from xs ys y)) | inr n ↦ n ]

pub put_other : (m : Metadata) (name : List ℕ) → (name ≡ codes "_index" → ⊥) → (name ≡ codes "_id" → ⊥) → (name ≡ codes "version" → ⊥) → (name ≡ codes "version_type" → ⊥) → (d : Data) (ms : Members) → HoldsMembers m ms
    → HoldsMembers (record { index = m.index; id = m.id; version = m.version; version_type = m.version_type; has_other = true }) (put name d ms)
put_other m name i n v t d ms h =
    let not_index = differ name (codes "_index") i in
    let not_id = differ name (codes "_id") n in
    let not_version = differ name (codes "version") v in
    let not_type = differ name (codes "version_type") t in
    let un : is_field name ≡ false = rw (not_index, not_id, not_version, not_type) refl in record {
      index = leaf-put_other m.index (codes "_index") name d ms (λ same. i (sym same)) h.index;
      id = leaf-put_other m.id (codes "_id") name d ms (λ same. n (sym same)) h.id;
      version = leaf-put_other m.version (codes "version") name d ms (λ same. v (sym same)) h.version;
      version_type = leaf-put_other m.version_type (codes "version_type") name d ms (λ same. t (sym same)) h.version_type;
      has_other = rw (all_names-put is_field name d ms, un) refl;
    }

-- ---- the members that a producer may give

from_not : (b : Bool) → not b ≡ false → b ≡ true
from_not true e = refl
from_not false e = absurd (true≢false e)

both : (a b : Bool) → (a && b) ≡ true → (a ≡ true) × (b ≡ true)
both true true e = (refl, refl)
both true false e = absurd (true≢false (sym e))
both false b e = absurd (true≢false (sym e))

absent_at : (o : Ordering) (e : Data) (rest : Option Data) → match_ordering o rest (Some e) rest ≡ None → rest ≡ None
absent_at Less e rest h = h
absent_at Equal e rest h = cc
absent_at Greater e rest h = h

absent_later : (k l : List ℕ) (e : Data) (ms : Members) → get_member k (member l e ms) ≡ None → get_member k ms ≡ None
absent_later k l e ms h = absent_at (slice_cmp nat_cmp k l) e (get_member k ms) h

no_version : (name : List ℕ) (d : Data) (ms : Members) → is_version name ≡ true → get_member (codes "version") (member name d ms) ≡ None → get_member (codes "version_type") (member name d ms) ≡ None → ⊥
no_version name d ms e v t =
    elim (decide (bytes_eq name (codes "version"))) [
      | inl y ↦ (let b : Some d ≡ None = subst (λ (x : List ℕ). get_member (codes "version") (member x d ms) ≡ None) (eq-from name (codes "version") y) v in cc)
      | inr n ↦
          (let y : bytes_eq name (codes "version_type") ≡ true = rw n at e in
          let b : Some d ≡ None = subst (λ (x : List ℕ). get_member (codes "version_type") (member x d ms) ≡ None) (eq-from name (codes "version_type") y) t in cc)
    ]

-- known members without a version are those of a document
pub only_document : (ms : Members) → all_names is_field ms ≡ true → get_member (codes "version") ms ≡ None → get_member (codes "version_type") ms ≡ None → all_names is_document ms ≡ true
only_document no_members f v t = refl
only_document (member name d ms) f v t =
    let fields = both (is_field name) (all_names is_field ms) f in
    let rest = only_document ms fields.1 (absent_later (codes "version") name d ms v) (absent_later (codes "version_type") name d ms t) in
    elim (decide (is_document name)) [
      | inl y ↦ rw (y, rest) refl
      | inr n ↦ (let e : is_version name ≡ true = rw n at fields.0 in absurd (no_version name d ms e v t))
    ]

and_false : (a : Bool) → (a && false) ≡ false
and_false true = refl
and_false false = refl

not_known_at : (known : List ℕ → Bool) (o : Ordering) (k l : List ℕ) (d e : Data) (ms : Members) → slice_cmp nat_cmp k l ≡ o → known k ≡ false
    → (get_member k ms ≡ Some d → all_names known ms ≡ false) → match_ordering o (get_member k ms) (Some e) (get_member k ms) ≡ Some d → (known l && all_names known ms) ≡ false
not_known_at known Less k l d e ms is un later h = rw (later h) (and_false (known l))
not_known_at known Equal k l d e ms is un later h = let s = same_name k l is in let n : known l ≡ false = rw s at un in rw n refl
not_known_at known Greater k l d e ms is un later h = rw (later h) (and_false (known l))

-- a member of another name is there
pub not_known : (known : List ℕ → Bool) (k : List ℕ) (d : Data) (ms : Members) → known k ≡ false → get_member k ms ≡ Some d → all_names known ms ≡ false
not_known known k d no_members un h = cc
not_known known k d (member l e ms) un h = not_known_at known _ k l d e ms refl un (λ found. not_known known k d ms un found) h

-- ---- what is kept of a version

known_fields : (m : Metadata) (ms : Members) → HoldsMembers m ms → m.has_other ≡ false → all_names is_field ms ≡ true
known_fields m ms h e = from_not (all_names is_field ms) (sym h.has_other ∙ e)

given : (o : Option Leaf) (v : Option Data) → IsLeafOf o v → is_some o ≡ true → (d : Data) × (v ≡ Some d)
given None v h e = absurd (true≢false (sym e))
given (Some leaf) v h e = (h.0, h.1)

missing : (o : Option Leaf) (v : Option Data) → IsLeafOf o v → is_some o ≡ false → v ≡ None
missing None v h e = h
missing (Some leaf) v h e = absurd (true≢false e)

pub version_given : (default : Option (List ℕ)) (m : Metadata) (ms : Members) → HoldsMembers m ms → m.has_other ≡ false → (is_some m.version ≡ true) ⊎ (is_some m.version_type ≡ true) → metadata_fault default (object ms) ≡ Some kind.VersionGiven
version_given default m ms h e g =
    let t = known_fields m ms h e in
    let n : all_names is_document ms ≡ false =
    elim g [
      | inl s ↦ (let v = given m.version (get_member (codes "version") ms) h.version s in not_known is_document (codes "version") v.0 ms refl v.1)
      | inr s ↦ (let v = given m.version_type (get_member (codes "version_type") ms) h.version_type s in not_known is_document (codes "version_type") v.0 ms refl v.1)
    ] in
    rw (t, n) refl

pub of_document : (m : Metadata) (ms : Members) → HoldsMembers m ms → m.has_other ≡ false → is_some m.version ≡ false → is_some m.version_type ≡ false → (all_names is_field ms ≡ true) × (all_names is_document ms ≡ true)
of_document m ms h e v t =
    let f = known_fields m ms h e in
    (f, only_document ms f (missing m.version (get_member (codes "version") ms) h.version v) (missing m.version_type (get_member (codes "version_type") ms) h.version_type t))

-- without a version the first fault is that of the document
pub document_kind : (default : Option (List ℕ)) (m : Metadata) (ms : Members) → HoldsMembers m ms → m.has_other ≡ false → is_some m.version ≡ false → is_some m.version_type ≡ false → metadata_fault default (object ms) ≡ document_fault default (object ms)
document_kind default m ms h e v t = let d = of_document m ms h e v t in let f = d.0 in let n = d.1 in rw (f, n) refl
