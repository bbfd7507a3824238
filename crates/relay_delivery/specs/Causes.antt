-- When the cause of a report is true.
use Rattle.std.specs.Prelude.{◌≡◌, ◌⊎◌, ℕ, ◌+◌, ◌<◌, ◌≤◌, List, [], length, Option, Some, is_some, slice_get, Bool, true, false, ◌&&◌, not}
use Rattle.std.specs.List.{list_any}
use Rattle.relay_action.specs.Actions.{kind_of}
use Rattle.relay_action.specs.declared.write.Write.{Write}
use Rattle.relay_action.specs.declared.operation.Op.{Op}
use Rattle.relay_results.specs.declared.cause.Cause.{Cause}
use Rattle.relay_results.specs.declared.cause.Cause.TheVariants as cause
use Rattle.relay_results.specs.declared.outcome.Outcome.{Outcome}
use Rattle.relay_results.specs.Words.{count}
use Rattle.relay_results.specs.Documents.{document_of, same_write, same_op, write_for}
use Rattle.relay_results.specs.Verdicts.{may_be_own, IsRefused, is_conflict, is_sent_again}
use Rattle.relay_results.specs.Outside.{Whole, Request, stored_in, Outside, WasRun}
use Rattle.relay_results.specs.Fates.{kind_in, reason_in, reason_at, HasEntry, IsRetried, says_too_large}

-- ---- the version assignment

-- Operations are assigned versions, or none, and no two operations of the same document the same version.
abbrev pub IsAssignment : (Op → Option ℕ) → Type 0
IsAssignment versions =
    (a b : Op) (v : ℕ) → versions a ≡ Some v → versions b ≡ Some v → document_of a.key ≡ document_of b.key
    → same_op a b ≡ true

-- ---- what was carried and answered

-- a request carried the write: the same document, version and action
abbrev pub carries : Write → Request → Bool
carries w q = list_any (same_write w) q.writes

-- a request carried the write and was not answered as too large: it counts as a try
abbrev pub is_try : Write → Request → Bool
is_try w q = carries w q && not (says_too_large q.answer)

-- the request with this number carried the write at this place
pub record CarriedAt (requests : List Request) (w : Write) (number place : ℕ) (q : Request) : Type 0 where
  pub write : Write
  pub sent : slice_get requests number ≡ Some q
  pub stands : slice_get q.writes place ≡ Some write
  pub same : same_write w write ≡ true

-- a request that carried the write was answered with matching entries; this is the entry for the write, and one of the
-- item's runs gave it
pub record IsAnswered (s : Outside) (w : Write) (o : Outcome) : Type 0 where
  pub number : ℕ
  pub place : ℕ
  pub request : Request
  pub carried : CarriedAt s.requests w number place request
  pub says : HasEntry request.writes place request.answer o
  pub ran : WasRun s.runs number place o

-- a request that carried the write was answered as a whole with this status, which is not retried, and with this reason,
-- if one was given and the write was the first of the request
pub record IsAnsweredWhole (s : Outside) (w : Write) (status : ℕ) (reason : Option (List ℕ)) : Type 0 where
  pub number : ℕ
  pub place : ℕ
  pub request : Request
  pub carried : CarriedAt s.requests w number place request
  pub given : Option (List ℕ)
  pub answer : request.answer ≡ Whole status given
  pub reason_is : reason ≡ reason_at place given
  pub final : is_sent_again (length request.writes) status ≡ false

-- ---- true causes

-- Refused: the write was answered with this status and an error of this type, with this reason, which one of its runs
-- gave, and the verdict on them is Refused.
pub record IsTrueRefusal (s : Outside) (w : Write) (status : ℕ) (kind : List ℕ) (reason : Option (List ℕ)) : Type 0 where
  pub outcome : Outcome
  pub answered : IsAnswered s w outcome
  pub refused : IsRefused (kind_of w.action) outcome.status (is_some outcome.error)
  pub status_is : outcome.status ≡ status
  pub kind_is : kind_in outcome.error ≡ kind
  pub reason_is : reason_in outcome.error ≡ reason

-- Conflict: the write was answered with 409 and an error that states this stored version, or none, with this reason,
-- which one of its runs gave; and either exactly one request carried the write, or the version that is stated is not
-- its own.
pub record IsTrueConflict (s : Outside) (w : Write) (stored : Option ℕ) (reason : Option (List ℕ)) : Type 0 where
  pub outcome : Outcome
  pub answered : IsAnswered s w outcome
  pub conflict : is_conflict outcome.status ≡ true
  pub other : (count (carries w) s.requests ≡ 1) ⊎ (may_be_own (stored_in outcome.error) w.version ≡ false)
  pub stored_is : stored_in outcome.error ≡ stored
  pub reason_is : reason_in outcome.error ≡ reason

-- GaveUp: exactly `sends` requests carried the write; at least `max` of them were not answered as too large; and each
-- got an answer that is retried. What is said of the last of them is no part of it.
pub record GaveUpAfter (requests : List Request) (w : Write) (max sends : ℕ) : Type 0 where
  pub exactly : count (carries w) requests ≡ sends
  pub enough : max ≤ count (is_try w) requests
  pub each : (number place : ℕ) (q : Request) → CarriedAt requests w number place q → IsRetried q.writes place q.answer

-- The cause is true for a write that was assigned a version, of which `max` tries were allowed.
abbrev pub IsTrueOf : ℕ → Outside → Write → Cause → Type 0
IsTrueOf max s w (cause.Refused status kind reason) = IsTrueRefusal s w status kind reason
IsTrueOf max s w (cause.Request status reason) = IsAnsweredWhole s w status reason
IsTrueOf max s w (cause.Conflict stored reason) = IsTrueConflict s w stored reason
IsTrueOf max s w (cause.GaveUp sends tried) = GaveUpAfter s.requests w max sends
IsTrueOf max s w cause.Spent = ⊥

-- what the causes of a lane's reports are judged by, besides the outside: how many tries an operation has, how many
-- versions the lane assigns, and how many Puts it took from its queue
pub record Terms : Type 0 where
  pub max : ℕ
  pub deals : ℕ
  pub taken : ℕ

-- the operation was assigned a version, and the cause is true for its write
pub record IsTrueDealt (max : ℕ) (s : Outside) (o : Op) (dealt : Option ℕ) (c : Cause) : Type 0 where
  pub version : ℕ
  pub is_dealt : dealt ≡ Some version
  pub of_write : IsTrueOf max s (write_for o version) c

-- Spent: no request carried the operation under the version that it was assigned, if it was assigned one; and its lane
-- took more Puts than it assigns versions.
pub record IsTrueSpent (t : Terms) (s : Outside) (o : Op) (dealt : Option ℕ) (c : Cause) : Type 0 where
  pub cause_is : c ≡ cause.Spent
  pub never_sent : (v : ℕ) → dealt ≡ Some v → count (carries (write_for o v)) s.requests ≡ 0
  pub over : t.deals < t.taken

-- the cause is true for an operation that was assigned this version, or none
abbrev pub IsTrueCause : Terms → Outside → Op → Option ℕ → Cause → Type 0
IsTrueCause t s o dealt c = IsTrueDealt t.max s o dealt c ⊎ IsTrueSpent t s o dealt c
