-- The grammar of replies: the outcomes of a reply, and what is wrong with a text that is not one.
use Rattle.std.specs.Prelude.{◌≡◌, ℕ, zero, suc, ◌<◌, ◌≤◌, List, [], ◌∷◌, codes, take, Option, None, Some, is_some, option_and_then, unwrap_or, if◌then◌else◌, IsUtf8}
use Rattle.std.specs.Str.{IsCharBoundary}
use Rattle.serde_json.specs.Data.{Data, number, string, array, object, unsigned, Items, no_items, item, Members, member, no_members}
use Rattle.serde_json.specs.Find.{get, as_str, as_null}
use Rattle.serde_json.specs.Read.{read}
use Rattle.relay_action.specs.Actions.{kind_name}
use Rattle.relay_results.specs.Stored.{SaysStored}
use Rattle.relay_results.specs.declared.outcome.ErrorDetail.{ErrorDetail}
use Rattle.relay_results.specs.declared.outcome.Outcome.{Outcome}
use Rattle.relay_results.specs.declared.reading.ReplyFault.{ReplyFault}
use Rattle.relay_results.specs.declared.reading.ReplyFault.TheVariants as fault

-- the bytes are UTF-8, and JSON for this value (RFC 8259, as `serde_json` reads it: nested at most 127 deep; of members
-- with the same name the last counts)
pub record ReadsAs (text : List ℕ) (d : Data) : Type 0 where
  pub utf8 : IsUtf8 text
  pub value : read text ≡ Some d

-- ---- entries

-- the maximum length of an error's type, and of its reason, in bytes
abbrev pub error_limit : ℕ
error_limit = 64

abbrev pub reason_limit : ℕ
reason_limit = 512

-- the longest prefix of a text that is within the limit and ends at a character boundary
pub record IsTruncated (limit : ℕ) (text front : List ℕ) : Type 0 where
  pub count : ℕ
  pub within : count ≤ limit
  pub ends : IsCharBoundary text count
  pub longest : (more : ℕ) → count < more → more ≤ limit → IsCharBoundary text more → ⊥
  pub front_is : front ≡ take count text

-- the member `error` of an entry, unless it is absent or null
abbrev pub error_member : Data → Option Data
error_member d = option_and_then (λ e. if is_some (as_null e) then None else Some e) (get (codes "error") d)

-- the type of an error and its reason, each if the error is an object and this a string
pub record ErrorTexts : Type 0 where
  pub kind : Option (List ℕ)
  pub reason : Option (List ℕ)

abbrev pub error_texts : Data → ErrorTexts
error_texts d = record {
  kind = option_and_then as_str (get (codes "type") d);
  reason = option_and_then as_str (get (codes "reason") d);
}

-- what an outcome keeps of the reason: a prefix
abbrev pub KeepsReason : Option (List ℕ) → Option (List ℕ) → Type 0
KeepsReason None kept = kept ≡ None
KeepsReason (Some text) kept = (front : List ℕ) × IsTruncated reason_limit text front × (kept ≡ Some front)

-- what an outcome keeps of an error: a prefix of its type, a prefix of its reason, and the stored version that the whole
-- reason states
pub record IsDetail (t : ErrorTexts) (e : ErrorDetail) : Type 0 where
  pub kind : IsTruncated error_limit (unwrap_or t.kind []) e.kind
  pub reason : KeepsReason t.reason e.reason
  pub stored : SaysStored t.reason e.stored

abbrev pub SaysError : Option Data → Option ErrorDetail → Type 0
SaysError None error = error ≡ None
SaysError (Some d) error = (e : ErrorDetail) × IsDetail (error_texts d) e × (error ≡ Some e)

-- An entry is valid if it is an object with one member, named by the kind of the action, whose value is an object
-- with a string `_id` and an integer `status` from 100 to 599 (OpenSearch, bulk API, response). Members other than
-- `error` are ignored.
pub record IsEntry (d : Data) (o : Outcome) : Type 0 where
  pub fields : Members
  pub action : d ≡ object (member (kind_name o.kind) (object fields) no_members)
  pub id : get (codes "_id") (object fields) ≡ Some (string o.id)
  pub status : get (codes "status") (object fields) ≡ Some (number (unsigned o.status))
  pub least : 100 ≤ o.status
  pub most : o.status ≤ 599
  pub error : SaysError (error_member (object fields)) o.error

-- entries and their outcomes, one for one
abbrev pub AreEntries : Items → List Outcome → Type 0
AreEntries no_items [] = Unit {0}
AreEntries no_items (o ∷ os) = ⊥
AreEntries (item d ds) [] = ⊥
AreEntries (item d ds) (o ∷ os) = IsEntry d o × AreEntries ds os

-- ---- replies

-- the value has a member `items` that is this array
abbrev pub HasItems : Data → Items → Type 0
HasItems d ds = get (codes "items") d ≡ Some (array ds)

-- the text is a reply with these outcomes
pub record IsBulkReply (text : List ℕ) (os : List Outcome) : Type 0 where
  pub value : Data
  pub reads : ReadsAs text value
  pub entries : Items
  pub items : HasItems value entries
  pub each : AreEntries entries os

-- ---- what is said of a request that was refused as a whole

-- the reason that an error gives: the error itself if it is a string, and otherwise its member `reason`
abbrev pub reason_given : Data → Option (List ℕ)
reason_given e = if is_some (as_str e) then as_str e else (error_texts e).reason

-- what is kept of the reason in a body's member `error`; nothing if the body is not JSON
pub data KeepsGiven (text : List ℕ) (kept : Option (List ℕ)) : Type 0 where
  Given : (d : Data) → ReadsAs text d → KeepsReason (option_and_then reason_given (get (codes "error") d)) kept → KeepsGiven text kept
  NotJson : ((d : Data) → ReadsAs text d → ⊥) → kept ≡ None → KeepsGiven text kept

-- ---- what is not a reply

-- the value is not a valid entry
abbrev pub IsNoEntry : Data → Type 0
IsNoEntry d = (o : Outcome) → IsEntry d o → ⊥

-- the entry at this place, from 0, is the first invalid one
abbrev pub IsBadAt : Items → ℕ → Type 0
IsBadAt no_items place = ⊥
IsBadAt (item d ds) zero = IsNoEntry d
IsBadAt (item d ds) (suc place) = ((o : Outcome) × IsEntry d o) × IsBadAt ds place

-- The fault of a text. NotJson: it has no value. NoItems: its value has no array `items`. BadItem: the entry at this
-- place is the first invalid one. Memory says nothing about the text.
abbrev pub IsFaultOf : List ℕ → ReplyFault → Type 0
IsFaultOf text fault.NotJson = (d : Data) → ReadsAs text d → ⊥
IsFaultOf text fault.NoItems = (d : Data) × ReadsAs text d × ((ds : Items) → HasItems d ds → ⊥)
IsFaultOf text (fault.BadItem place) = (d : Data) × (ds : Items) × ReadsAs text d × HasItems d ds × IsBadAt ds place
IsFaultOf text fault.Memory = Unit {0}
