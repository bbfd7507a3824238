-- What the definitions of attribution, true causes and soundness rule out.
use Rattle.std.specs.Prelude.{◌⊎◌, ◌≡◌, ◌≢◌, ℕ, ◌≤◌, List, [], ◌∷◌, length, slice_get, Option, Some, None, false, if◌then◌else◌, true}
use Rattle.relay_action.specs.declared.write.Write.{Write}
use Rattle.relay_action.specs.declared.operation.Op.{Op}
use Rattle.relay_results.specs.declared.cause.Cause.{Cause}
use Rattle.relay_results.specs.declared.cause.Cause.TheVariants as cause
use Rattle.relay_results.specs.declared.cause.LastTry.{LastTry}
use Rattle.relay_results.specs.declared.cause.Loss.{Loss}
use Rattle.relay_results.specs.Words.{Mem, count}
use Rattle.relay_results.specs.Documents.{Document, document_of, write_for, source_of, name_of, same_op}
use Rattle.relay_results.specs.Verdicts.{may_be_own, is_conflict, is_retried_item, is_retried_whole}
use Rattle.relay_results.specs.Fates.{kind_in, reason_in}
use Rattle.relay_results.specs.Outside.{Answer, Items, Whole, Lost, Request, Ran, stored_in, Outside, Event, Continues, IsOpening}
use Rattle.relay_delivery.specs.Attribution.{IsAttribution, IsInProducerOrder}
use Rattle.relay_delivery.specs.Machine.{Config, Report}
use Rattle.relay_delivery.specs.Delivery.{IsSound}
use Rattle.relay_delivery.specs.Causes.{Terms, carries, IsTrueCause, IsAssignment}
use Rattle.relay_delivery.specs.Schedules.{entry, terms, nothing, end_of, Plays}

-- one operation is attributed to two applied writes
abbrev pub NoneTwice : Type 0
NoneTwice =
    (accepted : ℕ → List Op) (k : Document) (w x : Write) (o : Op) →
    IsAttribution accepted k (w ∷ x ∷ []) (o ∷ o ∷ []) → ⊥

-- an applied write is attributed to an operation with another action, of another document, or not accepted; or to none
abbrev pub NoneOfOtherAction : Type 0
NoneOfOtherAction =
    (accepted : ℕ → List Op) (k : Document) (w : Write) (o : Op) → source_of o.action ≢ source_of w.action →
    IsAttribution accepted k (w ∷ []) (o ∷ []) → ⊥

abbrev pub NoneOfOtherDocument : Type 0
NoneOfOtherDocument =
    (accepted : ℕ → List Op) (k : Document) (w : Write) (o : Op) → document_of o.key ≢ k →
    IsAttribution accepted k (w ∷ []) (o ∷ []) → ⊥

abbrev pub NoneUnaccepted : Type 0
NoneUnaccepted =
    (accepted : ℕ → List Op) (k : Document) (w : Write) (o : Op) → ((p : ℕ) → Mem o (accepted p) → ⊥) →
    IsAttribution accepted k (w ∷ []) (o ∷ []) → ⊥

abbrev pub NoneLeftOut : Type 0
NoneLeftOut = (accepted : ℕ → List Op) (k : Document) (w : Write) → IsAttribution accepted k (w ∷ []) [] → ⊥

-- of two operations of one producer, the one put later comes first
abbrev pub NoneOutOfOrder : Type 0
NoneOutOfOrder =
    (accepted : ℕ → List Op) (a b : Op) → a.producer ≡ b.producer → accepted a.producer ≡ a ∷ b ∷ [] →
    name_of a ≢ name_of b → IsInProducerOrder accepted (b ∷ a ∷ []) → ⊥

-- the requests that were sent, if nothing else of the outside matters
abbrev pub outside_with : List Request → List Ran → Outside
outside_with requests runs = record {
  requests = requests;
  runs = runs;
  stored = λ k. None;
  before = λ k. [];
  applied = λ k. [];
}

abbrev pub request : List Write → Answer → Request
request ws answer = record { writes = ws; answer = answer }

-- one reply was lost, and the operation may have three tries
abbrev pub NotGivenUpAfterOne : Type 0
NotGivenUpAfterOne = (o : Op) (v deals taken sends : ℕ) (why : Loss) (tried : LastTry) (runs : List Ran) →
    let requests = request (write_for o v ∷ []) (Lost why) ∷ [] in
    IsTrueCause (terms 3 deals taken) (outside_with requests runs) o (Some v) (cause.GaveUp sends tried) → ⊥

-- the last of three answers settled it
abbrev pub NotGivenUpWhenSettled : Type 0
NotGivenUpWhenSettled = (o : Op) (v sends : ℕ) (t : Terms) (why : Loss) (tried : LastTry) (runs : List Ran) →
    let ws = write_for o v ∷ [] in
    let applied = Items (entry (write_for o v) 200 ∷ []) in
    IsTrueCause t (outside_with (request ws (Lost why) ∷ request ws (Lost why) ∷ request ws applied ∷ []) runs) o (Some v) (cause.GaveUp sends tried) → ⊥

-- two requests carried it, and no stored version is stated, or its own
abbrev pub NoConflictAfterTwo : Type 0
NoConflictAfterTwo = (o : Op) (v : ℕ) (t : Terms) (first second : Answer) (runs : List Ran) (stored : Option ℕ) (reason : Option (List ℕ)) →
    let ws = write_for o v ∷ [] in
    may_be_own stored v ≡ true →
    IsTrueCause t (outside_with (request ws first ∷ request ws second ∷ []) runs) o (Some v) (cause.Conflict stored reason) → ⊥

-- no run had this status; none had an error of this type; none had an error with this reason
abbrev pub NotRefusedWithoutStatus : Type 0
NotRefusedWithoutStatus =
    (o : Op) (dealt : Option ℕ) (t : Terms) (s : Outside) (status : ℕ) (kind : List ℕ) (reason : Option (List ℕ)) →
    ((r : Ran) → Mem r s.runs → r.outcome.status ≢ status) → IsTrueCause t s o dealt (cause.Refused status kind reason) → ⊥

abbrev pub NotRefusedWithoutError : Type 0
NotRefusedWithoutError =
    (o : Op) (dealt : Option ℕ) (t : Terms) (s : Outside) (status : ℕ) (kind : List ℕ) (reason : Option (List ℕ)) →
    ((r : Ran) → Mem r s.runs → kind_in r.outcome.error ≢ kind) → IsTrueCause t s o dealt (cause.Refused status kind reason) → ⊥

abbrev pub NotRefusedWithoutReason : Type 0
NotRefusedWithoutReason =
    (o : Op) (dealt : Option ℕ) (t : Terms) (s : Outside) (status : ℕ) (kind : List ℕ) (reason : Option (List ℕ)) →
    ((r : Ran) → Mem r s.runs → reason_in r.outcome.error ≢ reason) → IsTrueCause t s o dealt (cause.Refused status kind reason) → ⊥

-- a conflict is not a refusal, and neither is an index that is too busy
abbrev pub NotRefusedWhenBusy : Type 0
NotRefusedWhenBusy =
    (o : Op) (dealt : Option ℕ) (t : Terms) (s : Outside) (status : ℕ) (kind : List ℕ) (reason : Option (List ℕ)) →
    (is_conflict status ≡ true) ⊎ (is_retried_item status ≡ true) → IsTrueCause t s o dealt (cause.Refused status kind reason) → ⊥

-- no request carried it, and it had at least one try
abbrev pub NotReportedUnsent : Type 0
NotReportedUnsent =
    (o : Op) (v : ℕ) (t : Terms) (s : Outside) (c : Cause) → 1 ≤ t.max → count (carries (write_for o v)) s.requests ≡ 0 →
    IsTrueCause t s o (Some v) c → c ≡ cause.Spent

-- no request was answered with this status, or none with this reason; requests answered with this status are retried
abbrev pub NotRejectedWithoutAnswer : Type 0
NotRejectedWithoutAnswer =
    (o : Op) (dealt : Option ℕ) (t : Terms) (s : Outside) (status : ℕ) (reason : Option (List ℕ)) →
    ((number : ℕ) (q : Request) (given : Option (List ℕ)) → slice_get s.requests number ≡ Some q → q.answer ≢ Whole status given) →
    IsTrueCause t s o dealt (cause.Request status reason) → ⊥

abbrev pub NotRejectedWithoutReason : Type 0
NotRejectedWithoutReason =
    (o : Op) (dealt : Option ℕ) (t : Terms) (s : Outside) (status : ℕ) (reason : List ℕ) →
    ((number : ℕ) (q : Request) → slice_get s.requests number ≡ Some q → q.answer ≢ Whole status (Some reason)) →
    IsTrueCause t s o dealt (cause.Request status (Some reason)) → ⊥

abbrev pub NotRejectedWhenRetried : Type 0
NotRejectedWhenRetried =
    (o : Op) (dealt : Option ℕ) (t : Terms) (s : Outside) (status : ℕ) (reason : Option (List ℕ)) → is_retried_whole status ≡ true →
    IsTrueCause t s o dealt (cause.Request status reason) → ⊥

-- of three requests that carried it, two were too large: only one counts as a try
abbrev pub NotGivenUpForHalves : Type 0
NotGivenUpForHalves = (o : Op) (v deals taken sends : ℕ) (x y : Write) (said : Option (List ℕ)) (why : Loss) (tried : LastTry) (runs : List Ran) →
    let w = write_for o v in
    let requests = request (w ∷ x ∷ y ∷ []) (Whole 413 said) ∷ request (w ∷ x ∷ []) (Whole 413 said) ∷ request (w ∷ []) (Lost why) ∷ [] in
    IsTrueCause (terms 2 deals taken) (outside_with requests runs) o (Some v) (cause.GaveUp sends tried) → ⊥

-- no request carried it alone
abbrev pub NotRejectedWhenHalved : Type 0
NotRejectedWhenHalved =
    (o : Op) (dealt : Option ℕ) (t : Terms) (s : Outside) (reason : Option (List ℕ)) →
    ((number : ℕ) (q : Request) → slice_get s.requests number ≡ Some q → 2 ≤ length q.writes) →
    IsTrueCause t s o dealt (cause.Request 413 reason) → ⊥

-- no run met a conflict; none stated this version, or none
abbrev pub NoConflictWithoutRun : Type 0
NoConflictWithoutRun =
    (o : Op) (dealt : Option ℕ) (t : Terms) (s : Outside) (stored : Option ℕ) (reason : Option (List ℕ)) →
    ((r : Ran) → Mem r s.runs → r.outcome.status ≢ 409) → IsTrueCause t s o dealt (cause.Conflict stored reason) → ⊥

abbrev pub NoConflictWithUnstated : Type 0
NoConflictWithUnstated =
    (o : Op) (dealt : Option ℕ) (t : Terms) (s : Outside) (stored : Option ℕ) (reason : Option (List ℕ)) →
    ((r : Ran) → Mem r s.runs → stored_in r.outcome.error ≢ stored) → IsTrueCause t s o dealt (cause.Conflict stored reason) → ⊥

-- its lane took no more Puts than it assigns versions
abbrev pub NotSpentWithinLimit : Type 0
NotSpentWithinLimit =
    (o : Op) (dealt : Option ℕ) (t : Terms) (s : Outside) → t.taken ≤ t.deals → IsTrueCause t s o dealt cause.Spent → ⊥

-- ---- reports

-- one report occurs twice
abbrev pub NoneReportedTwice : Type 0
NoneReportedTwice =
    (g : Config) (taken : List Op) (r : Report) (s : Outside) (ops : Document → List Op) →
    IsSound g taken (r ∷ r ∷ []) s ops → ⊥

-- a report is on an operation that was not taken
abbrev pub NoneReportedUntaken : Type 0
NoneReportedUntaken =
    (g : Config) (taken : List Op) (reports : List Report) (r : Report) (s : Outside) (ops : Document → List Op) →
    Mem r reports → ((o : Op) → Mem o taken → name_of o ≢ r.name) → IsSound g taken reports s ops → ⊥

-- ---- the version assignment

-- two operations of one document have the same version
abbrev pub NotAssignedTwice : Type 0
NotAssignedTwice =
    (versions : Op → Option ℕ) (a b : Op) (v : ℕ) → document_of a.key ≡ document_of b.key → a.number ≢ b.number →
    versions a ≡ Some v → versions b ≡ Some v → IsAssignment versions → ⊥

-- the first operation is assigned 1, the second 2, and no other one any version
abbrev pub first_two : Op → Op → Op → Option ℕ
first_two a b o = if same_op o a then Some 1 else if same_op o b then Some 2 else None

-- this is an assignment
abbrev pub AssignsTwo : Type 0
AssignsTwo =
    (a b : Op) → same_op b a ≡ false →
    IsAssignment (first_two a b) × (first_two a b a ≡ Some 1) × (first_two a b b ≡ Some 2)

-- ---- schedules

-- before a schedule nothing was sent, and the outside at its end continues the one before
abbrev pub PlaysFromOpening : Type 0
PlaysFromOpening =
    (accepted : List Op) (events : List Event) (k : Document) (ws : List Write) (ops : List Op) →
    Plays accepted events k ws ops → IsOpening nothing × Continues nothing (end_of events)
