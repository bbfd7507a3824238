-- What an action line asks for.
use Rattle.std.proofs.Common.{◌≡◌, ℕ, List, Bool, true, false, ◌||◌, true≢false, bytes_eq, codes, [], Option, None, Some, is_some, ok_or, option_and_then, Result, Ok, Err, refl, sym, ◌∙◌, inl, inr, IsUtf8}
use denote.Ref.{Bor}
use Rattle.std.specs.Str.{is_utf8}
use Rattle.std.proofs.lemmas.Str.{IsUtf8-from_is_utf8, is_utf8-from_IsUtf8}
use Rattle.serde_json.specs.Data.{Data, object, Members, member, no_members, null, boolean, number, string, array}
use Rattle.serde_json.specs.Find.{get_member}
use Rattle.serde_json.specs.Read.{read}
use Rattle.relay_action.specs.Faults.{key_fault}
use Rattle.relay_action.specs.declared.action.ActionKind.{ActionKind}
use Rattle.relay_action.specs.declared.action.ActionKind.TheVariants as action
use Rattle.relay_action.specs.declared.key.DocKey.{DocKey}
use Rattle.relay_json.specs.Sole.{sole_object}
use Rattle.relay_json.specs.declared.leaf.Leaf.{Leaf}
use Rattle.relay_ndjson.specs.Fields.{IsLeafOf}
use Rattle.relay_ndjson.specs.Metadata.{IsDocument, Says, is_document, id_text, text_or}
use Rattle.relay_ndjson.specs.Names.{all_names}
use Rattle.relay_front.specs.declared.lines.BodyFaultKind.TheVariants as body
use Rattle.relay_front.specs.declared.operation.AskedKind.{AskedKind}
use Rattle.relay_front.specs.declared.operation.AskedKind.TheVariants as kind
use Rattle.relay_front.specs.declared.operation.Item.TheVariants as item
use Rattle.relay_front.specs.declared.operation.ItemFault.{ItemFault}
use Rattle.relay_front.specs.declared.operation.ItemFault.TheVariants as fault
use Rattle.relay_front.specs.Kinds.{name_of, kind_named}
use Rattle.relay_front.specs.Metadata.{given, is_known, is_null, has_no_other, HoldsOther, unless_null}
use Rattle.relay_front.specs.Operations.{IsAsked, AsksFor, and_then, asked_kind, document_at, document_by, index_by, is_allowed, key_by, line_fault, named}
use Rattle.relay_front.proofs.Given.{decide, both, eq-from}

-- ---- the document of a line

some_of : (o : Option Leaf) (value : Option Data) → IsLeafOf o value → is_some o ≡ is_some value
some_of None value h = let e = h in rw e refl
some_of (Some leaf) value h = let e = h.1 in rw e refl

pub allowed_by : (allowed has : Bool) (k : AskedKind) (o : Option Leaf) (value : Option Data) → ((id : Option Data) → has ≡ is_some id → allowed ≡ is_allowed k id) → has ≡ is_some o → IsLeafOf o value → is_allowed k value ≡ allowed
allowed_by allowed has k o value h e leaf = sym (h value (e ∙ some_of o value leaf))

no_other_of : (o : Option (Bor (List ℕ))) (ms : Members) → o ≡ None → HoldsOther o ms → has_no_other ms ≡ true
no_other_of None ms e h = h
no_other_of (Some name) ms e h = cc

pub asked_from : (default : Option (List ℕ)) (k : AskedKind) (ms : Members) (other : Option (Bor (List ℕ))) (found : Result (DocKey × Bool) ItemFault) → is_allowed k (given (codes "_id") ms) ≡ true → other ≡ None → HoldsOther other ms
    → (made : List ℕ) × (named found ≡ document_by default k made ms) → IsAsked default k ms found
asked_from default k ms other (Ok asked) allowed none h by = (allowed, no_other_of other ms none h, by.0, sym by.1)
asked_from default k ms other (Err f) allowed none h by = (by.0, inr (inr (allowed, no_other_of other ms none h, sym by.1)))

-- ---- lines whose operation cannot be told

pub not_json : (line : List ℕ) → (IsUtf8 line → read line ≡ None) → line_fault line ≡ Some body.NotJson
not_json line h =
    elim (decide (is_utf8 line)) [ inl e ↦ (let r = h (IsUtf8-from_is_utf8 line e) in rw (e, r) refl) | inr e ↦ rw e refl ]

pub not_one : (line : List ℕ) (d : Data) → IsUtf8 line → read line ≡ Some d → sole_object d ≡ None → line_fault line ≡ Some body.NotOneAction
not_one line d u r s = let e = is_utf8-from_IsUtf8 line u in rw (e, r, s) refl

pub unknown_action : (line : List ℕ) (d : Data) (name : List ℕ) (value : Data) → IsUtf8 line → read line ≡ Some d → sole_object d ≡ Some (name, value) → kind_named name ≡ None → line_fault line ≡ Some body.UnknownAction
unknown_action line d name value u r s k = let e = is_utf8-from_IsUtf8 line u in rw (e, r, s, k) refl

-- ---- the name of an action

named_at : (name : List ℕ) (k : AskedKind) (i c u d : Bool) → bytes_eq name (codes "index") ≡ i → bytes_eq name (codes "create") ≡ c → bytes_eq name (codes "update") ≡ u → bytes_eq name (codes "delete") ≡ d → kind_named name ≡ Some k → name ≡ name_of k
named_at name k true c u d ei ec eu ed h = let e : Some kind.Index ≡ Some k = rw ei at h in let same : kind.Index ≡ k = cc in rw (sym same) (eq-from name (codes "index") ei)
named_at name k false true u d ei ec eu ed h = let e : Some kind.Create ≡ Some k = rw (ei, ec) at h in let same : kind.Create ≡ k = cc in rw (sym same) (eq-from name (codes "create") ec)
named_at name k false false true d ei ec eu ed h = let e : Some kind.Update ≡ Some k = rw (ei, ec, eu) at h in let same : kind.Update ≡ k = cc in rw (sym same) (eq-from name (codes "update") eu)
named_at name k false false false true ei ec eu ed h = let e : Some kind.Delete ≡ Some k = rw (ei, ec, eu, ed) at h in let same : kind.Delete ≡ k = cc in rw (sym same) (eq-from name (codes "delete") ed)
named_at name k false false false false ei ec eu ed h = let e : None ≡ Some k = rw (ei, ec, eu, ed) at h in cc

pub name_is : (name : List ℕ) (k : AskedKind) → kind_named name ≡ Some k → name ≡ name_of k
name_is name k h = named_at name k _ _ _ _ refl refl refl refl h

-- ---- lines in the usual form

or_left : (a b : Bool) → a ≡ true → (a || b) ≡ true
or_left a b e = rw e refl

known_at : (i n t : Bool) → (n || i) ≡ true → ((i || n) || t) ≡ true
known_at true n t e = refl
known_at false true t e = refl
known_at false false t e = absurd (true≢false (sym e))

is_known_of : (name : List ℕ) → is_document name ≡ true → is_known name ≡ true
is_known_of name e = known_at (bytes_eq name (codes "_index")) (bytes_eq name (codes "_id")) (bytes_eq name (codes "_type")) e

no_other_in : (ms : Members) → all_names is_document ms ≡ true → has_no_other ms ≡ true
no_other_in no_members e = refl
no_other_in (member name d ms) e =
    let b = both (is_document name) (all_names is_document ms) e in
    let first = or_left (is_known name) (is_null d) (is_known_of name b.0) in
    let rest = no_other_in ms b.1 in
    rw (first, rest) refl

index_given : (default : Option (List ℕ)) (value : Option Data) (index : List ℕ) → text_or default value ≡ Some index → index_by default (unless_null value) ≡ Ok index
index_given default None index e = rw e refl
index_given default (Some null) index e = cc
index_given default (Some (boolean b)) index e = cc
index_given default (Some (number n)) index e = cc
index_given default (Some (string s)) index e = let same : s ≡ index = cc in rw same refl
index_given default (Some (array ds)) index e = cc
index_given default (Some (object ms)) index e = cc

text_within : (text : Option (List ℕ)) (index id : List ℕ) → text ≡ Some id → key_fault index id ≡ None → and_then (ok_or text fault.IdForm) (key_by index false) ≡ Ok (index, id, false)
text_within text index id e none = rw (e, none) refl

id_given : (k : AskedKind) (made : List ℕ) (value : Option Data) (index id : List ℕ) → option_and_then id_text value ≡ Some id → key_fault index id ≡ None → document_at k made (unless_null value) index ≡ Ok (index, id, false)
id_given k made None index id e none = cc
id_given k made (Some null) index id e none = cc
id_given k made (Some (boolean b)) index id e none = cc
id_given k made (Some (number n)) index id e none = text_within (id_text (number n)) index id e none
id_given k made (Some (string s)) index id e none = text_within (Some s) index id e none
id_given k made (Some (array ds)) index id e none = cc
id_given k made (Some (object ms)) index id e none = cc

document_given : (default : Option (List ℕ)) (k : AskedKind) (made : List ℕ) (ms : Members) (index id : List ℕ) → IsDocument default (object ms) index id → key_fault index id ≡ None → document_by default k made ms ≡ Ok (index, id, false)
document_given default k made ms index id d none =
    let i = index_given default (get_member (codes "_index") ms) index d.1 in
    let n = id_given k made (get_member (codes "_id") ms) index id d.2 none in
    rw i n

-- a line in the usual form asks for what it says
pub usual : (default : Option (List ℕ)) (line : List ℕ) (a : ActionKind) (key : DocKey) → Says default line a key.index key.id → key_fault key.index key.id ≡ None → AsksFor default line (item.Asked (asked_kind a) key false)
usual default line action.Index key s none =
    let ms = s.3.0 in
    let e = s.3.1 in
    (s.0, s.1, s.2, kind.Index, ms, rw e refl, [], (refl, refl, no_other_in ms s.3.2.0, document_given default kind.Index [] ms key.index key.id s.3.2 none))
usual default line action.Delete key s none =
    let ms = s.3.0 in
    let e = s.3.1 in
    (s.0, s.1, s.2, kind.Delete, ms, rw e refl, [], (refl, refl, no_other_in ms s.3.2.0, document_given default kind.Delete [] ms key.index key.id s.3.2 none))
