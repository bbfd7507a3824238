-- What the definitions rule out, and what follows from them.
use Rattle.std.specs.Prelude.{◌⊎◌, ◌++◌, ◌≡◌, ◌≢◌, ℕ, ◌<◌, ◌≤◌, ◌/◌, List, [], ◌∷◌, length, Option, Some, Bool, true, false, is_some}
use Rattle.relay_action.specs.Lanes.{lane_of_document}
use Rattle.relay_action.specs.declared.action.ActionKind.{ActionKind}
use Rattle.relay_action.specs.declared.key.DocKey.{DocKey}
use Rattle.relay_action.specs.declared.operation.OpName.{OpName}
use Rattle.relay_action.specs.declared.write.Write.{Write}
use Rattle.relay_results.specs.declared.cause.Cause.TheVariants as cause
use Rattle.relay_results.specs.declared.outcome.Outcome.{Outcome}
use Rattle.relay_results.specs.declared.reading.ReplyFault.{ReplyFault}
use Rattle.relay_results.specs.declared.reading.ReplyFault.TheVariants as fault
use Rattle.relay_results.specs.declared.decide.ItemVerdict.TheVariants as verdict
use Rattle.relay_results.specs.Verdicts.{verdict_of, may_be_own, IsRefused, is_conflict, is_sent_again, is_success}
use Rattle.relay_results.specs.Replies.{IsBulkReply, IsFaultOf}
use Rattle.relay_results.specs.Words.{Mem}
use Rattle.relay_results.specs.Documents.{Document, document_of, lane_of, same_name}
use Rattle.relay_results.specs.Matching.{matches}
use Rattle.relay_results.specs.Numbers.{from_one, from_zero}
use Rattle.relay_results.specs.Outside.{Answer, Unanswered, Items, Whole, Ran, RunOutcome, stored_in, Outside, WasRun, IsHonest, write_at, MayRun, IsRefusal, IsOutcomeOf, is_applied, is_above, Event, MayHappen, after, IsStep, Continues}
use Rattle.relay_results.specs.Fates.{Fate, Flies, Applied, Already, Retried, Halved, Reported, Tries, fate, kind_in, reason_in, reason_at, HasEntry, IsRetried, says_too_large}

-- ---- answers

-- a matching entry whose status no run had
abbrev pub NotHonestWithoutRun : Type 0
NotHonestWithoutRun =
    (runs : List Ran) (request : ℕ) (w : Write) (o : Outcome) → matches (o ∷ []) (w ∷ []) ≡ true →
    ((r : Ran) → Mem r runs → r.outcome.status ≢ o.status) → IsHonest runs request (w ∷ []) (Items (o ∷ [])) → ⊥

-- each matching entry of an honest answer comes from a run of the item at its place
abbrev pub HonestEntryWasRun : Type 0
HonestEntryWasRun =
    (runs : List Ran) (request place : ℕ) (ws : List Write) (a : Answer) (o : Outcome) →
    IsHonest runs request ws a → HasEntry ws place a o → WasRun runs request place o

-- a conflict that states a stored version states the one that is stored
abbrev pub StatesWhatIsStored : Type 0
StatesWhatIsStored =
    (stored : Option ℕ) (w : Write) (o : RunOutcome) → IsOutcomeOf stored w o → o.status ≡ 409 →
    (version : ℕ) → stored_in o.error ≡ Some version → stored ≡ Some version

-- ---- fates

-- a stated version that may be the operation's own is its own
abbrev pub OwnIsSame : Type 0
OwnIsSame = (stored own : ℕ) → may_be_own (Some stored) own ≡ true → stored ≡ own

-- the conflict is with a version that is not the operation's own: no earlier request can have stored it, or it is stated
abbrev pub IsWithOther : Tries → Outcome → Type 0
IsWithOther t o = (t.sends < 2) ⊎ (may_be_own (stored_in o.error) t.version ≡ false)

-- what each fate says of the answer that it comes from
abbrev pub Says : Tries → List Write → ℕ → ActionKind → Answer → Fate → Type 0
Says t ws place kind a Flies = a ≡ Unanswered
Says t ws place kind a Applied =
    (o : Outcome) × HasEntry ws place a o × (is_success kind o.status (is_some o.error) ≡ true)
Says t ws place kind a Already =
    (2 ≤ t.sends)
    × ((o : Outcome) × HasEntry ws place a o × (is_conflict o.status ≡ true) × (may_be_own (stored_in o.error) t.version ≡ true))
Says t ws place kind a Retried = (t.attempts < t.max) × IsRetried ws place a × (says_too_large a ≡ false)
Says t ws place kind a (Halved cap) =
    ((reason : Option (List ℕ)) × (a ≡ Whole 413 reason)) × (2 ≤ length ws) × (cap ≡ length ws / 2)
Says t ws place kind a (Reported (cause.Refused status error reason)) =
    (o : Outcome) × HasEntry ws place a o
    × IsRefused kind o.status (is_some o.error) × (o.status ≡ status) × (kind_in o.error ≡ error) × (reason_in o.error ≡ reason)
Says t ws place kind a (Reported (cause.Request status reason)) =
    ((given : Option (List ℕ)) × (a ≡ Whole status given) × (reason ≡ reason_at place given))
    × (is_sent_again (length ws) status ≡ false)
Says t ws place kind a (Reported (cause.Conflict stored reason)) =
    (o : Outcome) × HasEntry ws place a o
    × (is_conflict o.status ≡ true) × IsWithOther t o × (stored_in o.error ≡ stored) × (reason_in o.error ≡ reason)
Says t ws place kind a (Reported (cause.GaveUp sends tried)) =
    (sends ≡ t.sends) × (t.max ≤ t.attempts) × IsRetried ws place a × (says_too_large a ≡ false)
Says t ws place kind a (Reported cause.Spent) = ⊥

abbrev pub FateSays : Type 0
FateSays =
    (t : Tries) (ws : List Write) (place : ℕ) (kind : ActionKind) (a : Answer) →
    Says t ws place kind a (fate t ws place kind a)

-- an operation whose request is answered is no longer in flight
abbrev pub AnswersEndFlight : Type 0
AnswersEndFlight =
    (t : Tries) (ws : List Write) (place : ℕ) (kind : ActionKind) (a : Answer) → a ≢ Unanswered →
    fate t ws place kind a ≢ Flies

-- what is retried without halving has tries left
abbrev pub RetriedHasTries : Type 0
RetriedHasTries =
    (t : Tries) (ws : List Write) (place : ℕ) (kind : ActionKind) (a : Answer) →
    fate t ws place kind a ≡ Retried → t.attempts < t.max

-- whether the verdict is Refused does not depend on what was sent before
abbrev pub RefusedWhateverSent : Type 0
RefusedWhateverSent = (kind : ActionKind) (status : ℕ) (has_error own : Bool) (sends attempts max : ℕ) →
    verdict_of kind status has_error own sends attempts max ≡ verdict.Refused → IsRefused kind status has_error

-- ---- replies

-- a text has at most one list of outcomes
abbrev pub OneReply : Type 0
OneReply = (text : List ℕ) (os ps : List Outcome) → IsBulkReply text os → IsBulkReply text ps → os ≡ ps

-- a reply has no fault other than a failed allocation
abbrev pub NoFaultOfReply : Type 0
NoFaultOfReply =
    (text : List ℕ) (os : List Outcome) (e : ReplyFault) → IsBulkReply text os → IsFaultOf text e → e ≡ fault.Memory

-- a text has at most one fault, apart from a failed allocation
abbrev pub OneFault : Type 0
OneFault =
    (text : List ℕ) (e f : ReplyFault) → e ≢ fault.Memory → f ≢ fault.Memory →
    IsFaultOf text e → IsFaultOf text f → e ≡ f

-- ---- runs

-- any item of any sent request may be run at any time, and need not be refused
abbrev pub MayAlwaysRun : Type 0
MayAlwaysRun = (s : Outside) (number place : ℕ) (w : Write) → write_at s.requests number place ≡ Some w →
    (o : RunOutcome) × MayRun s (record { request = number; place = place; outcome = o }) × (IsRefusal o → ⊥)

-- no run applies a write while the stored version is not below its version, as is the case once it was applied
abbrev pub NotAppliedAgain : Type 0
NotAppliedAgain =
    (w : Write) (stored : ℕ) (o : RunOutcome) → w.version ≤ stored → IsOutcomeOf (Some stored) w o →
    is_applied w o ≡ false

-- one write of the document was added at the end of its list; its version was above the stored one, and is now stored
pub record GrowsBy (old new : Outside) (k : Document) (w : Write) : Type 0 where
  pub applied : new.applied k ≡ old.applied k ++ w ∷ []
  pub of_document : document_of w.key ≡ k
  pub above : is_above (old.stored k) w.version ≡ true
  pub stored : new.stored k ≡ Some w.version

pub record StaysAt (old new : Outside) (k : Document) : Type 0 where
  pub applied : new.applied k ≡ old.applied k
  pub stored : new.stored k ≡ old.stored k

-- A step of the outside runs one item: nothing is sent or answered, the run is recorded, and only the item's own
-- write may be added, to its own document, if the outcome says that it was applied.
pub record RunsItem (old new : Outside) (run : Ran) (w : Write) : Type 0 where
  pub item : write_at old.requests run.request run.place ≡ Some w
  pub requests : new.requests ≡ old.requests
  pub runs : new.runs ≡ old.runs ++ run ∷ []
  pub before : new.before ≡ old.before
  pub documents : (k : Document) → StaysAt old new k ⊎ ((is_applied w run.outcome ≡ true) × GrowsBy old new k w)
  pub grows : is_applied w run.outcome ≡ true → GrowsBy old new (document_of w.key) w

abbrev pub StepRunsItem : Type 0
StepRunsItem = (old new : Outside) (s : IsStep old new) → RunsItem old new s.run s.may.write

-- ---- events one after another

abbrev pub ContinuesItself : Type 0
ContinuesItself = (s : Outside) → Continues s s

abbrev pub ContinuesOn : Type 0
ContinuesOn = (a b c : Outside) → Continues a b → Continues b c → Continues a c

abbrev pub EventContinues : Type 0
EventContinues = (e : Event) (s : Outside) → MayHappen e s → Continues s (after e s)

-- ---- words

-- the lane of a document is that of its key
abbrev pub LaneOfKey : Type 0
LaneOfKey = (key : DocKey) (lanes : ℕ) → lane_of_document key lanes ≡ lane_of lanes (document_of key)

-- names are equal exactly if the test says so
abbrev pub NamesEqual : Type 0
NamesEqual = (a b : OpName) → (same_name a b ≡ true → a ≡ b) × (a ≡ b → same_name a b ≡ true)

-- numbers from 1 and counts from 0 correspond
abbrev pub NumbersFromOne : Type 0
NumbersFromOne =
    ((count : ℕ) → (1 ≤ from_one count) × (from_zero (from_one count) ≡ count))
    × ((number : ℕ) → 1 ≤ number → from_one (from_zero number) ≡ number)
