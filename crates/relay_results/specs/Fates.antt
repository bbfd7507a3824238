-- What the answer to a request means for the operations that it carried.
use Rattle.std.specs.Prelude.{◌≡◌, ℕ, zero, suc, List, [], Option, Some, None, is_some, option_map, option_and_then, unwrap_or, slice_get, length, ◌/◌, Bool, true, false, if◌then◌else◌, nat_lt}
use Rattle.relay_action.specs.declared.action.ActionKind.{ActionKind}
use Rattle.relay_action.specs.declared.write.Write.{Write}
use Rattle.relay_results.specs.declared.cause.Cause.{Cause}
use Rattle.relay_results.specs.declared.cause.Cause.TheVariants as cause
use Rattle.relay_results.specs.declared.cause.LastTry.{LastTry}
use Rattle.relay_results.specs.declared.cause.LastTry.TheVariants as last
use Rattle.relay_results.specs.declared.cause.Loss.TheVariants as loss
use Rattle.relay_results.specs.declared.outcome.ErrorDetail.{ErrorDetail}
use Rattle.relay_results.specs.declared.outcome.Outcome.{Outcome}
use Rattle.relay_results.specs.declared.decide.ItemVerdict.{ItemVerdict}
use Rattle.relay_results.specs.declared.decide.ItemVerdict.TheVariants as verdict
use Rattle.relay_results.specs.Verdicts.{verdict_of, may_be_own, is_retried_item, is_retried_whole, is_too_large, is_halved, is_sent_again}
use Rattle.relay_results.specs.Matching.{matches}
use Rattle.relay_results.specs.Outside.{Answer, Unanswered, Items, Whole, Lost, stored_in}

-- The fate of an operation: it is still in flight; it ends as applied, by this request or an earlier one; it waits to
-- be sent again; it waits to be sent in requests of at most this many items, and this request does not count as a
-- try; or it ends with a report.
pub data Fate : Type 0 where
  Flies : Fate
  Applied : Fate
  Already : Fate
  Retried : Fate
  Halved : ℕ → Fate
  Reported : Cause → Fate

-- an operation when its answer arrives: its version, how many requests carried it, how many of them count as tries, and
-- how many tries it may have
pub record Tries : Type 0 where
  pub version : ℕ
  pub sends : ℕ
  pub attempts : ℕ
  pub max : ℕ

-- an operation is sent again if tries are left, and otherwise given up after what became of its last request
abbrev pub tried_again : Tries → LastTry → Fate
tried_again t tried = if nat_lt t.attempts t.max then Retried else Reported (cause.GaveUp t.sends tried)

-- a reply that has no entry for an item, or that does not match, cannot be used
abbrev pub no_entry : LastTry
no_entry = last.Lost loss.Unreadable

-- the type of an error, empty if there is none, and its reason
abbrev pub kind_in : Option ErrorDetail → List ℕ
kind_in error = unwrap_or (option_map (λ (e : ErrorDetail). e.kind) error) []

abbrev pub reason_in : Option ErrorDetail → Option (List ℕ)
reason_in error = option_and_then (λ (e : ErrorDetail). e.reason) error

-- the fate by the verdict on the operation's item; a refusal is reported with its status and its error, and a conflict
-- with what its error states
abbrev pub fate_of_verdict : Tries → Outcome → ItemVerdict → Fate
fate_of_verdict t o verdict.Applied = Applied
fate_of_verdict t o verdict.Already = Already
fate_of_verdict t o verdict.Conflict = Reported (cause.Conflict (stored_in o.error) (reason_in o.error))
fate_of_verdict t o verdict.Retry = Retried
fate_of_verdict t o verdict.GaveUp = Reported (cause.GaveUp t.sends (last.Item o.status))
fate_of_verdict t o verdict.Refused = Reported (cause.Refused o.status (kind_in o.error) (reason_in o.error))

abbrev pub fate_of_item : Tries → ActionKind → Outcome → Fate
fate_of_item t kind o =
    fate_of_verdict t o (verdict_of kind o.status (is_some o.error) (may_be_own (stored_in o.error) t.version) t.sends t.attempts t.max)

-- the fate by the entry of an item, or, if it has none, by what became of its request
abbrev pub fate_of_entry : Tries → ActionKind → Option Outcome → LastTry → Fate
fate_of_entry t kind None tried = tried_again t tried
fate_of_entry t kind (Some o) tried = fate_of_item t kind o

-- the reason for the status of a whole request is reported with its first item
abbrev pub reason_at : ℕ → Option (List ℕ) → Option (List ℕ)
reason_at zero reason = reason
reason_at (suc place) reason = None

-- the fate by the answer to the whole request: a lost reply and one that does not match are treated alike, 413 halves
-- two or more items, and 429, 502, 503 and 504 are retried; the entry of an item is the one at its place
abbrev pub fate : Tries → List Write → ℕ → ActionKind → Answer → Fate
fate t ws place kind Unanswered = Flies
fate t ws place kind (Items os) =
    if matches os ws then fate_of_entry t kind (slice_get os place) no_entry else tried_again t no_entry
fate t ws place kind (Whole status reason) =
    if is_halved (length ws) status then Halved (length ws / 2)
    else if is_retried_whole status then tried_again t (last.Whole status)
    else Reported (cause.Request status (reason_at place reason))
fate t ws place kind (Lost why) = tried_again t (last.Lost why)

-- ---- what an answer says

-- the entries match the writes, and this is the one for the item at a place
pub record HasEntry (ws : List Write) (place : ℕ) (a : Answer) (o : Outcome) : Type 0 where
  pub entries : List Outcome
  pub answer : a ≡ Items entries
  pub matching : matches entries ws ≡ true
  pub entry : slice_get entries place ≡ Some o

-- the entry is of a kind that is retried, whether or not tries are left
abbrev pub is_retried_entry : Option Outcome → Bool
is_retried_entry None = true
is_retried_entry (Some o) = is_retried_item o.status

abbrev pub IsRetried : List Write → ℕ → Answer → Type 0
IsRetried ws place Unanswered = ⊥
IsRetried ws place (Items os) = matches os ws ≡ true → is_retried_entry (slice_get os place) ≡ true
IsRetried ws place (Whole status reason) = is_sent_again (length ws) status ≡ true
IsRetried ws place (Lost why) = Unit {0}

-- the request was too large, so it does not count as a try
abbrev pub says_too_large : Answer → Bool
says_too_large Unanswered = false
says_too_large (Items os) = false
says_too_large (Whole status reason) = is_too_large status
says_too_large (Lost why) = false
