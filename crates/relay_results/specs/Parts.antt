-- For private clauses: what was found in the members and the items of a reply that were read so far.
use Rattle.std.specs.Prelude.{◌≡◌, ℕ, Bool, true, false, List, length, codes, nat_le, ◌&&◌, is_some, Option, None, Some, MatchOption, option_map, option_and_then, if◌then◌else◌}
use Rattle.serde_json.specs.Data.{Data, Items, Members}
use Rattle.serde_json.specs.Find.{get_member, as_array, as_null, as_number, as_str, as_u64}
use Rattle.relay_results.specs.declared.outcome.ErrorDetail.{ErrorDetail}
use Rattle.relay_results.specs.declared.outcome.Outcome.{Outcome}
use Rattle.relay_results.specs.declared.reading.EntryFields.{EntryFields}
use Rattle.relay_results.specs.declared.reading.Entries.{Entries}
use Rattle.relay_results.specs.declared.reading.ErrorFields.{ErrorFields}
use Rattle.relay_results.specs.declared.reading.Reply.{Reply}
use Rattle.relay_results.specs.declared.refusal.Given.{Given}
use Rattle.relay_results.specs.declared.refusal.Reason.{Reason}
use Rattle.relay_results.specs.Replies.{ErrorTexts, error_texts, IsDetail, AreEntries, IsBadAt, reason_given}

-- ---- an error

-- the string under a name
abbrev pub text_at : List ℕ → Members → Option (List ℕ)
text_at name ms = option_and_then as_str (get_member name ms)

pub record HoldsTexts (e : ErrorFields) (ms : Members) : Type 0 where
  pub kind : option_map (λ t. t.now) e.kind ≡ text_at (codes "type") ms
  pub reason : option_map (λ t. t.now) e.reason ≡ text_at (codes "reason") ms

-- what was kept of the members of an error
abbrev pub texts_of : ErrorFields → ErrorTexts
texts_of e = record { kind = option_map (λ t. t.now) e.kind; reason = option_map (λ t. t.now) e.reason }

-- the type of an error and its reason; nothing if the error is null
abbrev pub told_error : Data → Option ErrorTexts
told_error d = if is_some (as_null d) then None else Some (error_texts d)

-- an outcome keeps what it may of an error
abbrev pub KeepsError : Option ErrorTexts → Option ErrorDetail → Type 0
KeepsError None kept = kept ≡ None
KeepsError (Some t) kept = (e : ErrorDetail) × IsDetail t e × (kept ≡ Some e)

-- ---- an entry

abbrev pub in_range : ℕ → Option ℕ
in_range n = if nat_le 100 n && nat_le n 599 then Some n else None

abbrev pub status_of : Data → Option ℕ
status_of d = option_and_then in_range (option_and_then as_u64 (as_number d))

pub record HoldsFields (fields : EntryFields) (ms : Members) : Type 0 where
  pub id : option_map (λ t. t.now) fields.id ≡ text_at (codes "_id") ms
  pub status : fields.status ≡ option_and_then status_of (get_member (codes "status") ms)
  pub error : option_map texts_of fields.error ≡ option_and_then told_error (get_member (codes "error") ms)

-- ---- entries

-- all entries are valid, or the first invalid one follows these outcomes
abbrev pub SayUpTo : Items → List Outcome → Bool → Type 0
SayUpTo ds os false = AreEntries ds os
SayUpTo ds os true = IsBadAt ds (length os)

abbrev pub HoldsEntries : Entries → Items → Type 0
HoldsEntries entries ds = SayUpTo ds entries.outcomes.items entries.has_bad

-- ---- a reply

abbrev pub items_in : Members → Option Items
items_in ms = option_and_then as_array (get_member (codes "items") ms)

-- what was collected from the items, if there are any
abbrev pub HoldsItems : Option Entries → Option Items → Type 0
HoldsItems found items = MatchOption found (items ≡ None) (λ e. (ds : Items) × (items ≡ Some ds) × HoldsEntries e ds)

abbrev pub HoldsReply : Reply → Members → Type 0
HoldsReply reply ms = HoldsItems reply.entries (items_in ms)

-- ---- a refusal of a whole request

abbrev pub HoldsReason : Reason → Members → Type 0
HoldsReason found ms = option_map (λ t. t.now) found.reason ≡ text_at (codes "reason") ms

abbrev pub HoldsGiven : Given → Members → Type 0
HoldsGiven found ms = option_map (λ t. t.now) found.reason ≡ option_and_then reason_given (get_member (codes "error") ms)
