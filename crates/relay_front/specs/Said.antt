-- What the item of an operation says of how it ended: a status, and the result and the version of a write, or the type and
-- the reason of an error (OpenSearch, bulk API).
use Rattle.std.specs.Prelude.{ℕ, Bool, true, false, List, codes, if◌then◌else◌, ◌==◌, Option, None, Some}
use Rattle.relay_results.specs.declared.cause.Cause.{Cause}
use Rattle.relay_results.specs.declared.cause.Cause.TheVariants as cause
use Rattle.relay_results.specs.declared.cause.LastTry.{LastTry}
use Rattle.relay_results.specs.declared.cause.LastTry.TheVariants as last
use Rattle.relay_front.specs.declared.operation.AskedKind.{AskedKind}
use Rattle.relay_front.specs.declared.operation.AskedKind.TheVariants as kind
use Rattle.relay_front.specs.declared.ending.End.{End}
use Rattle.relay_front.specs.declared.ending.End.TheVariants as end
use Rattle.relay_front.specs.declared.said.Said.{Said}
use Rattle.relay_front.specs.declared.said.Said.TheVariants as said

pub data Words : Type 0 where
  Written : (status : ℕ) (outcome : List ℕ) (version : ℕ) → Words
  Failed : (status : ℕ) (type_name reason : List ℕ) → Words

abbrev pub words_of : Said → Words
words_of (said.Written status outcome version) = Written status outcome.now version
words_of (said.Failed status type_name reason) = Failed status type_name.now reason.now

-- the status of a write: that of its entry; if an earlier request had applied it, as if it had found what it wrote over,
-- unless the relay made its id, under which nothing was before
abbrev pub written_status : Bool → Option ℕ → ℕ
written_status made (Some status) = status
written_status true None = 201
written_status false None = 200

abbrev pub outcome_by : AskedKind → ℕ → List ℕ
outcome_by kind.Delete status = if status == 404 then codes "not_found" else codes "deleted"
outcome_by other status = if status == 201 then codes "created" else codes "updated"

-- the reason that the index gave, or else the relay's
abbrev pub reason_or : Option (List ℕ) → List ℕ → List ℕ
reason_or None other = other
reason_or (Some reason) other = reason

-- after 429 the client is to send again
abbrev pub busy_or_gone : ℕ → ℕ
busy_or_gone status = if status == 429 then 429 else 503

abbrev pub given_up_status : LastTry → ℕ
given_up_status (last.Whole status) = busy_or_gone status
given_up_status (last.Item status) = busy_or_gone status
given_up_status other = 503

-- what is said of the cause of a report: the index's own words if it has some
abbrev pub cause_said : Cause → Words
cause_said (cause.Refused status type_name reason) =
    Failed status type_name (reason_or reason (codes "the index refused the write"))
cause_said (cause.Request status reason) =
    Failed status (codes "relay_request_refused") (reason_or reason (codes "the index refused the request as a whole"))
cause_said (cause.Conflict stored reason) =
    Failed 409 (codes "version_conflict_engine_exception")
    (reason_or reason (codes "the index has a version that is not below that of the write"))
cause_said (cause.GaveUp sends tried) =
    Failed (given_up_status tried) (codes "relay_gave_up")
    (codes "no answer of the index settled the write; it may have been applied")
cause_said cause.Spent =
    Failed 503 (codes "relay_versions_spent") (codes "no version is left in this epoch; the write was not sent")

-- what is said of how an operation ended, of which the relay made the id or not: it was written exactly if it was applied
abbrev pub said_by : AskedKind → Bool → End → Words
said_by k made (end.Applied version status) =
    Written (written_status made status) (outcome_by k (written_status made status)) version
said_by k made (end.Reported reported) = cause_said reported
said_by k made end.Late =
    Failed 503 (codes "relay_timeout") (codes "the write did not end within the time of the request; it may still be applied")
said_by k made end.Unput =
    Failed 503 (codes "relay_timeout") (codes "the time of the request was over before the write was begun; it is not sent")
said_by k made end.Gone =
    Failed 503 (codes "relay_lane_ended") (codes "the relay is ending; the write may have been applied")
