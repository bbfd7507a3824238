-- Worked schedules, for any document and any source: what is sent, run and answered, what is applied then, and the
-- fate of the operations.
use Rattle.std.specs.Prelude.{◌≡◌, ℕ, List, [], ◌∷◌, Some, None, false, codes, filter}
use Rattle.relay_action.specs.Actions.{kind_of}
use Rattle.relay_action.specs.declared.key.DocKey.{DocKey}
use Rattle.relay_action.specs.declared.action.Source.{Source}
use Rattle.relay_action.specs.declared.action.Action.{Action}
use Rattle.relay_action.specs.declared.action.Action.TheVariants.{Index, Delete}
use Rattle.relay_action.specs.declared.write.Write.{Write}
use Rattle.relay_action.specs.declared.operation.Op.{Op}
use Rattle.relay_results.specs.declared.cause.Cause.TheVariants as cause
use Rattle.relay_results.specs.declared.cause.LastTry.TheVariants as last
use Rattle.relay_results.specs.declared.cause.Loss.TheVariants.{Closed}
use Rattle.relay_results.specs.declared.outcome.Outcome.{Outcome}
use Rattle.relay_results.specs.Documents.{Document, document_of, same_document, write_for}
use Rattle.relay_results.specs.Done.{bare_error}
use Rattle.relay_results.specs.Outside.{Answer, Items, Whole, Lost, Ran, Outside, Event, Sends, Runs, Answers, after_all, AllMayHappen}
use Rattle.relay_results.specs.Fates.{Fate, Tries, fate}
use Rattle.relay_results.specs.Fates as of
use Rattle.relay_delivery.specs.Attribution.{IsAttribution, IsInProducerOrder, is_from}
use Rattle.relay_delivery.specs.Causes.{Terms, IsTrueCause}

-- ---- the words of a schedule

-- nothing was sent, and the index has nothing
abbrev pub nothing : Outside
nothing = record { requests = []; runs = []; stored = λ k. None; before = λ k. []; applied = λ k. [] }

-- the outside after these events
abbrev pub end_of : List Event → Outside
end_of events = after_all events nothing

-- an operation of producer 0 with this number
abbrev pub op : ℕ → DocKey → Action → Op
op number key action = record { epoch = 0; producer = 0; number = number; key = key; action = action }

-- the accepted lists, if these operations were accepted in this order
abbrev pub accepted_of : List Op → ℕ → List Op
accepted_of ops p = filter (is_from p) ops

-- a run without an error, and with one of this type; requests and places are counted from 0
abbrev pub ran : ℕ → ℕ → ℕ → Ran
ran request place status = record { request = request; place = place; outcome = record { status = status; error = None } }

abbrev pub failed_run : ℕ → ℕ → ℕ → List ℕ → Ran
failed_run request place status error = record {
  request = request;
  place = place;
  outcome = record { status = status; error = Some (bare_error error) };
}

-- the entry of a reply for a write, without an error and with one of this type
abbrev pub entry : Write → ℕ → Outcome
entry w status = record { kind = kind_of w.action; id = w.key.id; status = status; error = None }

abbrev pub failed_entry : Write → ℕ → List ℕ → Outcome
failed_entry w status error = record { kind = kind_of w.action; id = w.key.id; status = status; error = Some (bare_error error) }

abbrev pub conflict : List ℕ
conflict = codes "version_conflict_engine_exception"

abbrev pub busy : List ℕ
busy = codes "rejected_execution_exception"

abbrev pub refusal : List ℕ
refusal = codes "mapper_parsing_exception"

-- an operation with version 1 that this many requests carried, all of them tries, and the number of tries that it may have
abbrev pub tries_after : ℕ → ℕ → Tries
tries_after sends max = record { version = 1; sends = sends; attempts = sends; max = max }

-- this many tries, this many versions that the lane assigns, and this many Puts that it took
abbrev pub terms : ℕ → ℕ → ℕ → Terms
terms max deals taken = record { max = max; deals = deals; taken = taken }

-- Each of the events may happen, starting from nothing; at the end these writes are applied to the document, and they
-- are those of these operations, each producer's in order.
pub record Plays (accepted : List Op) (events : List Event) (k : Document) (writes : List Write) (ops : List Op) : Type 0 where
  pub may : AllMayHappen events nothing
  pub applied : (end_of events).applied k ≡ writes
  pub attribution : IsAttribution (accepted_of accepted) k writes ops
  pub in_order : IsInProducerOrder (accepted_of accepted) ops

-- the fate of the item at a place, by the answer to its request
abbrev pub becomes : Tries → List Write → ℕ → Action → Answer → Fate → Type 0
becomes t ws place action answer f = fate t ws place (kind_of action) answer ≡ f

-- ---- one operation

-- applied by the first request, whose reply is lost; the repeat meets its own version
abbrev pub lost_then_conflict : Write → List Event
lost_then_conflict w =
    Sends (w ∷ []) ∷ Runs (ran 0 0 201) ∷ Answers 0 (Lost Closed)
    ∷ Sends (w ∷ []) ∷ Runs (failed_run 1 0 409 conflict) ∷ Answers 1 (Items (failed_entry w 409 conflict ∷ []))
    ∷ []

abbrev pub LostThenAlready : Type 0
LostThenAlready = (key : DocKey) (source : Source) →
    let o = op 1 key (Index source) in let w = write_for o 1 in
    Plays (o ∷ []) (lost_then_conflict w) (document_of key) (w ∷ []) (o ∷ [])
    × becomes (tries_after 1 3) (w ∷ []) 0 (Index source) (Lost Closed) of.Retried
    × becomes (tries_after 2 3) (w ∷ []) 0 (Index source) (Items (failed_entry w 409 conflict ∷ [])) of.Already

-- the first request is lost before it is run; the second is applied, and then the first is run late
abbrev pub lost_then_late : Write → List Event
lost_then_late w =
    Sends (w ∷ []) ∷ Answers 0 (Lost Closed) ∷ Sends (w ∷ []) ∷ Runs (ran 1 0 201) ∷ Runs (failed_run 0 0 409 conflict)
    ∷ Answers 1 (Items (entry w 201 ∷ []))
    ∷ []

abbrev pub LateRunChangesNothing : Type 0
LateRunChangesNothing = (key : DocKey) (source : Source) →
    let o = op 1 key (Index source) in let w = write_for o 1 in
    Plays (o ∷ []) (lost_then_late w) (document_of key) (w ∷ []) (o ∷ [])
    × becomes (tries_after 2 3) (w ∷ []) 0 (Index source) (Items (entry w 201 ∷ [])) of.Applied

-- one request is run twice: its answer decides which of the runs counts
abbrev pub run_twice : Write → Answer → List Event
run_twice w answer = Sends (w ∷ []) ∷ Runs (ran 0 0 404) ∷ Runs (failed_run 0 0 409 conflict) ∷ Answers 0 answer ∷ []

abbrev pub RunTwice : Type 0
RunTwice = (key : DocKey) →
    let o = op 1 key Delete in let w = write_for o 1 in
    let second = Items (failed_entry w 409 conflict ∷ []) in let first = Items (entry w 404 ∷ []) in
    Plays (o ∷ []) (run_twice w second) (document_of key) (w ∷ []) (o ∷ [])
    × becomes (tries_after 1 3) (w ∷ []) 0 Delete second (of.Reported (cause.Conflict None None))
    × IsTrueCause (terms 3 1000 1) (end_of (run_twice w second)) o (Some 1) (cause.Conflict None None)
    × Plays (o ∷ []) (run_twice w first) (document_of key) (w ∷ []) (o ∷ [])
    × becomes (tries_after 1 3) (w ∷ []) 0 Delete first of.Applied

-- a request whose item the index refuses, and one that is answered as a whole
abbrev pub item_refusal : Write → List Event
item_refusal w = Sends (w ∷ []) ∷ Runs (failed_run 0 0 400 refusal) ∷ Answers 0 (Items (failed_entry w 400 refusal ∷ [])) ∷ []

abbrev pub answered_whole : Write → ℕ → List Event
answered_whole w status = Sends (w ∷ []) ∷ Answers 0 (Whole status None) ∷ []

abbrev pub RefusedOrRejected : Type 0
RefusedOrRejected = (key : DocKey) (source : Source) →
    let o = op 1 key (Index source) in let w = write_for o 1 in
    Plays (o ∷ []) (item_refusal w) (document_of key) [] []
    × becomes (tries_after 1 3) (w ∷ []) 0 (Index source) (Items (failed_entry w 400 refusal ∷ [])) (of.Reported (cause.Refused 400 refusal None))
    × IsTrueCause (terms 3 1000 1) (end_of (item_refusal w)) o (Some 1) (cause.Refused 400 refusal None)
    × Plays (o ∷ []) (answered_whole w 401) (document_of key) [] []
    × becomes (tries_after 1 3) (w ∷ []) 0 (Index source) (Whole 401 None) (of.Reported (cause.Request 401 None))
    × IsTrueCause (terms 3 1000 1) (end_of (answered_whole w 401)) o (Some 1) (cause.Request 401 None)
    × Plays (o ∷ []) (answered_whole w 503) (document_of key) [] []
    × becomes (tries_after 1 3) (w ∷ []) 0 (Index source) (Whole 503 None) of.Retried

-- no version was left for it, and it was never sent
abbrev pub NoVersionLeft : Type 0
NoVersionLeft = (key : DocKey) →
    IsTrueCause (terms 3 1 2) nothing (op 2 key Delete) None cause.Spent

-- ---- two operations of one document

-- the first is refused once, since the index is busy, and sent again; the second is sent after it
abbrev pub busy_then_next : Write → Write → List Event
busy_then_next w x =
    Sends (w ∷ []) ∷ Runs (failed_run 0 0 429 busy) ∷ Answers 0 (Items (failed_entry w 429 busy ∷ []))
    ∷ Sends (w ∷ []) ∷ Runs (ran 1 0 201) ∷ Answers 1 (Items (entry w 201 ∷ []))
    ∷ Sends (x ∷ []) ∷ Runs (ran 2 0 200) ∷ Answers 2 (Items (entry x 200 ∷ []))
    ∷ []

abbrev pub BusyThenNext : Type 0
BusyThenNext = (key : DocKey) (source other : Source) →
    let o = op 1 key (Index source) in let p = op 2 key (Index other) in
    let w = write_for o 1 in let x = write_for p 2 in
    Plays (o ∷ p ∷ []) (busy_then_next w x) (document_of key) (w ∷ x ∷ []) (o ∷ p ∷ [])
    × becomes (tries_after 1 3) (w ∷ []) 0 (Index source) (Items (failed_entry w 429 busy ∷ [])) of.Retried
    × becomes (tries_after 2 3) (w ∷ []) 0 (Index source) (Items (entry w 201 ∷ [])) of.Applied
    × becomes (tries_after 1 3) (x ∷ []) 0 (Index other) (Items (entry x 200 ∷ [])) of.Applied

-- both replies to the first are lost, and it is given up after two tries; its first request is run late, before the
-- second operation, and its second request after it
abbrev pub given_up_then_next : Write → Write → List Event
given_up_then_next w x =
    Sends (w ∷ []) ∷ Answers 0 (Lost Closed) ∷ Sends (w ∷ []) ∷ Answers 1 (Lost Closed)
    ∷ Runs (ran 0 0 201)
    ∷ Sends (x ∷ []) ∷ Runs (ran 2 0 200) ∷ Runs (failed_run 1 0 409 conflict) ∷ Answers 2 (Items (entry x 200 ∷ []))
    ∷ []

abbrev pub GivenUpAndApplied : Type 0
GivenUpAndApplied = (key : DocKey) (source : Source) →
    let o = op 1 key (Index source) in let p = op 2 key Delete in
    let w = write_for o 1 in let x = write_for p 2 in
    Plays (o ∷ p ∷ []) (given_up_then_next w x) (document_of key) (w ∷ x ∷ []) (o ∷ p ∷ [])
    × becomes (tries_after 1 2) (w ∷ []) 0 (Index source) (Lost Closed) of.Retried
    × becomes (tries_after 2 2) (w ∷ []) 0 (Index source) (Lost Closed) (of.Reported (cause.GaveUp 2 (last.Lost Closed)))
    × IsTrueCause (terms 2 1000 2) (end_of (given_up_then_next w x)) o (Some 1) (cause.GaveUp 2 (last.Lost Closed))
    × becomes (tries_after 1 2) (x ∷ []) 0 Delete (Items (entry x 200 ∷ [])) of.Applied

-- ---- three documents

-- of three items one is applied, one is refused since the index is busy, and one finds no document to delete; the
-- refused one is sent again
abbrev pub three_then_one : Write → Write → Write → List Event
three_then_one w x y =
    Sends (w ∷ x ∷ y ∷ []) ∷ Runs (ran 0 0 201) ∷ Runs (failed_run 0 1 429 busy) ∷ Runs (ran 0 2 404)
    ∷ Answers 0 (Items (entry w 201 ∷ failed_entry x 429 busy ∷ entry y 404 ∷ []))
    ∷ Sends (x ∷ []) ∷ Runs (ran 1 0 201) ∷ Answers 1 (Items (entry x 201 ∷ []))
    ∷ []

abbrev pub ThreeThenOne : Type 0
ThreeThenOne = (k l m : DocKey) (source other : Source) →
    same_document (document_of k) (document_of l) ≡ false →
    same_document (document_of l) (document_of m) ≡ false →
    same_document (document_of k) (document_of m) ≡ false →
    let o = op 1 k (Index source) in let p = op 2 l (Index other) in let q = op 3 m Delete in
    let w = write_for o 1 in let x = write_for p 2 in let y = write_for q 3 in
    let three = Items (entry w 201 ∷ failed_entry x 429 busy ∷ entry y 404 ∷ []) in
    Plays (o ∷ p ∷ q ∷ []) (three_then_one w x y) (document_of k) (w ∷ []) (o ∷ [])
    × becomes (tries_after 1 3) (w ∷ x ∷ y ∷ []) 0 (Index source) three of.Applied
    × becomes (tries_after 1 3) (w ∷ x ∷ y ∷ []) 1 (Index other) three of.Retried
    × becomes (tries_after 1 3) (w ∷ x ∷ y ∷ []) 2 Delete three of.Applied
    × becomes (tries_after 2 3) (x ∷ []) 0 (Index other) (Items (entry x 201 ∷ [])) of.Applied

-- ---- a request that is too large

-- a request of two items is too large and is halved; alone, one is still too large and is reported, and the reply to
-- the other, its only try, is lost
abbrev pub halved_then_alone : Write → Write → List Event
halved_then_alone w x =
    Sends (w ∷ x ∷ []) ∷ Answers 0 (Whole 413 None)
    ∷ Sends (w ∷ []) ∷ Answers 1 (Whole 413 None)
    ∷ Sends (x ∷ []) ∷ Answers 2 (Lost Closed)
    ∷ []

abbrev pub HalvedThenAlone : Type 0
HalvedThenAlone = (k l : DocKey) →
    let o = op 1 k Delete in let p = op 2 l Delete in
    let w = write_for o 1 in let x = write_for p 2 in
    let second : Tries = record { version = 1; sends = 2; attempts = 1; max = 1 } in
    Plays (o ∷ p ∷ []) (halved_then_alone w x) (document_of k) [] []
    × becomes (tries_after 1 1) (w ∷ x ∷ []) 0 Delete (Whole 413 None) (of.Halved 1)
    × becomes (tries_after 1 1) (w ∷ x ∷ []) 1 Delete (Whole 413 None) (of.Halved 1)
    × becomes second (w ∷ []) 0 Delete (Whole 413 None) (of.Reported (cause.Request 413 None))
    × becomes second (x ∷ []) 0 Delete (Lost Closed) (of.Reported (cause.GaveUp 2 (last.Lost Closed)))
    × IsTrueCause (terms 1 1000 2) (end_of (halved_then_alone w x)) o (Some 1) (cause.Request 413 None)
    × IsTrueCause (terms 1 1000 2) (end_of (halved_then_alone w x)) p (Some 2) (cause.GaveUp 2 (last.Lost Closed))
