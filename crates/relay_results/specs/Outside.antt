-- What is outside a lane: the requests that were sent, what the index has and does with them, and the answers.
use Rattle.std.specs.Prelude.{◌≡◌, ◌≢◌, ◌⊎◌, ℕ, suc, ◌≤◌, List, [], ◌∷◌, ◌++◌, slice_get, Option, Some, None, is_some, option_and_then, IsSome, IsTrue, Bool, true, false, nat_lt, if◌then◌else◌}
use Rattle.relay_action.specs.Actions.{kind_of}
use Rattle.relay_action.specs.declared.write.Write.{Write}
use Rattle.relay_results.specs.declared.cause.Loss.{Loss}
use Rattle.relay_results.specs.declared.outcome.ErrorDetail.{ErrorDetail}
use Rattle.relay_results.specs.declared.outcome.Outcome.{Outcome}
use Rattle.relay_results.specs.Words.{Mem, update}
use Rattle.relay_results.specs.Documents.{Document, document_of, same_document}
use Rattle.relay_results.specs.Verdicts.{is_success}
use Rattle.relay_results.specs.Matching.{matches}

-- ---- the sent requests

-- The answer to a request: none yet; the entries of a readable reply of status 200; another status for the request as
-- a whole, and the reason that is given for it, if one is; or notice that no reply came, and why.
pub data Answer : Type 0 where
  Unanswered : Answer
  Items : List Outcome → Answer
  Whole : ℕ → Option (List ℕ) → Answer
  Lost : Loss → Answer

-- A sent request: its writes, and its answer. A send that failed counts as sent.
pub record Request : Type 0 where
  pub writes : List Write
  pub answer : Answer

-- the writes of a request, if it was sent; requests and places are counted from 0
abbrev pub writes_of : Request → List Write
writes_of q = q.writes

abbrev pub write_at : List Request → ℕ → ℕ → Option Write
write_at requests request place = option_and_then (λ q. slice_get (writes_of q) place) (slice_get requests request)

-- ---- a versioned run

-- the outcome of a run: its status, and its error if it had one, as a reply states it
pub record RunOutcome : Type 0 where
  pub status : ℕ
  pub error : Option ErrorDetail

-- the stored version that an error states
abbrev pub stored_in : Option ErrorDetail → Option ℕ
stored_in error = option_and_then (λ (e : ErrorDetail). e.stored) error

-- no version of the document is stored, or one below this
abbrev pub is_above : Option ℕ → ℕ → Bool
is_above None version = true
is_above (Some stored) version = nat_lt stored version

-- the run applied the write
abbrev pub is_applied : Write → RunOutcome → Bool
is_applied w o = is_success (kind_of w.action) o.status (is_some o.error)

-- the index refused to run the write, at its own discretion: a status from 400 to 599 other than 409, and an error
pub record IsRefusal (o : RunOutcome) : Type 0 where
  pub least : 400 ≤ o.status
  pub most : o.status ≤ 599
  pub no_conflict : o.status ≢ 409
  pub has_error : IsSome o.error

-- the version is not above the stored one: 409, and an error that states no other stored version than that
pub record IsConflict (stored : Option ℕ) (o : RunOutcome) : Type 0 where
  pub status : o.status ≡ 409
  pub has_error : IsSome o.error
  pub stated : (version : ℕ) → stored_in o.error ≡ Some version → stored ≡ Some version

-- The possible outcomes of running a write, given the stored version of its document (OpenSearch, index document API,
-- version_type external: a write is applied if its version is strictly greater than the stored one or nothing is
-- stored; otherwise it is a conflict). A deleted document keeps its version.
abbrev pub IsOutcomeOf : Option ℕ → Write → RunOutcome → Type 0
IsOutcomeOf stored w o =
    IsRefusal o
    ⊎ (IsTrue (is_above stored w.version) × IsTrue (is_applied w o))
    ⊎ ((is_above stored w.version ≡ false) × IsConflict stored o)

-- ---- the outside

-- one run: the item at a place of a request, and the outcome
pub record Ran : Type 0 where
  pub request : ℕ
  pub place : ℕ
  pub outcome : RunOutcome

-- The requests in the order in which they were sent, all runs in their order, and for each document the stored
-- version, the writes in its list at the start, and those applied since, in order.
pub record Outside : Type 0 where
  pub requests : List Request
  pub runs : List Ran
  pub stored : Document → Option ℕ
  pub before : Document → List Write
  pub applied : Document → List Write

-- the list that the index has of a document
abbrev pub list_of : Outside → Document → List Write
list_of s k = s.before k ++ s.applied k

-- the write was applied: it is at the end of its document's list, and its version is stored
abbrev pub with_applied : Outside → Write → Outside
with_applied s w = record s {
  stored = λ k. if same_document k (document_of w.key) then Some w.version else s.stored k;
  applied = λ k. s.applied k ++ (if same_document k (document_of w.key) then w ∷ [] else []);
}

-- a run is recorded; if its outcome says so, the write was applied; nothing else changes
abbrev pub with_run : Outside → Ran → Outside
with_run s r = record s { runs = s.runs ++ r ∷ [] }

abbrev pub ran_of : Outside → Ran → Option Write → Outside
ran_of s r None = s
ran_of s r (Some w) = if is_applied w r.outcome then with_run (with_applied s w) r else with_run s r

-- ---- honest answers

-- one of the runs of this item had the status and the error of this entry
pub record WasRun (runs : List Ran) (request place : ℕ) (o : Outcome) : Type 0 where
  pub run : Ran
  pub among : Mem run runs
  pub of_request : run.request ≡ request
  pub of_place : run.place ≡ place
  pub status : run.outcome.status ≡ o.status
  pub error : run.outcome.error ≡ o.error

-- this holds for each entry from this place on
abbrev pub EachWasRun : List Ran → ℕ → ℕ → List Outcome → Type 0
EachWasRun runs request place [] = Unit {0}
EachWasRun runs request place (o ∷ os) = WasRun runs request place o × EachWasRun runs request (suc place) os

-- Entries that match the request have, item by item, the status and the error of a run of that item. Entries that do
-- not match, a status of the whole request other than 200, and the loss of the reply are possible whatever was run.
abbrev pub IsHonest : List Ran → ℕ → List Write → Answer → Type 0
IsHonest runs request ws Unanswered = ⊥
IsHonest runs request ws (Items os) = IsTrue (matches os ws) → EachWasRun runs request 0 os
IsHonest runs request ws (Whole status reason) = status ≢ 200
IsHonest runs request ws (Lost why) = Unit {0}

-- ---- what may happen

-- a request is sent, an item of a request is run, or a request is answered
pub data Event : Type 0 where
  Sends : List Write → Event
  Runs : Ran → Event
  Answers : ℕ → Answer → Event

-- the outside after an event
abbrev pub after : Event → Outside → Outside
after (Sends ws) s = record s { requests = s.requests ++ record { writes = ws; answer = Unanswered } ∷ [] }
after (Runs r) s = ran_of s r (write_at s.requests r.request r.place)
after (Answers request a) s = record s {
  requests = update request (λ q. record { writes = writes_of q; answer = a }) s.requests;
}

-- Any item of any sent request may be run, at any time and any number of times, with an outcome that is possible for
-- the stored version.
pub record MayRun (s : Outside) (r : Ran) : Type 0 where
  pub write : Write
  pub sent : write_at s.requests r.request r.place ≡ Some write
  pub outcome : IsOutcomeOf (s.stored (document_of write.key)) write r.outcome

-- A request that was sent and not answered may get an honest answer.
pub record MayAnswer (s : Outside) (number : ℕ) (a : Answer) : Type 0 where
  pub request : Request
  pub sent : slice_get s.requests number ≡ Some request
  pub open_yet : request.answer ≡ Unanswered
  pub honest : IsHonest s.runs number request.writes a

abbrev pub MayHappen : Event → Outside → Type 0
MayHappen (Sends ws) s = Unit {0}
MayHappen (Runs r) s = MayRun s r
MayHappen (Answers number a) s = MayAnswer s number a

-- a step of the outside: an item is run
pub record IsStep (old new : Outside) : Type 0 where
  pub run : Ran
  pub may : MayRun old run
  pub reached : new ≡ after (Runs run) old

-- after a sequence of events
abbrev pub after_all : List Event → Outside → Outside
after_all [] s = s
after_all (e ∷ es) s = after_all es (after e s)

abbrev pub AllMayHappen : List Event → Outside → Type 0
AllMayHappen [] s = Unit {0}
AllMayHappen (e ∷ es) s = MayHappen e s × AllMayHappen es (after e s)

-- the outside came about from this one by events that may happen
pub record Continues (old new : Outside) : Type 0 where
  pub events : List Event
  pub may : AllMayHappen events old
  pub reached : new ≡ after_all events old

-- nothing was sent, so nothing was run or applied; the index may have versions and lists from before
pub record IsOpening (s : Outside) : Type 0 where
  pub requests : s.requests ≡ []
  pub runs : s.runs ≡ []
  pub applied : (k : Document) → s.applied k ≡ []
