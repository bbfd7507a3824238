-- A lane as its callers see it, what each call does, and the outside that it fits: the form in which the calls of
-- real code are tied to delivery.
use Rattle.std.specs.Prelude.{◌≡◌, ◌≢◌, ◌⊎◌, ◌≤◌, ℕ, ◌+◌, ◌-◌, ◌<◌, ◌^◌, min, List, [], ◌∷◌, ◌++◌, Option, Some, None, slice_get, Bool, true, false, ◌==◌, ◌&&◌, not, nat_lt, nat_le, map, filter, length, if◌then◌else◌}
use Rattle.std.specs.List.{list_any}
use Rattle.relay_action.specs.declared.write.Write.{Write}
use Rattle.relay_action.specs.declared.operation.Op.{Op}
use Rattle.relay_results.specs.Words.{Mem, IsSubsequence}
use Rattle.relay_results.specs.Numbers.{from_one, from_zero}
use Rattle.relay_results.specs.Documents.{Document, document_of, same_document}
use Rattle.relay_results.specs.Outside.{Answer, Unanswered, Request, Ran, Outside, Sends, Runs, Answers, IsOpening, MayRun, MayAnswer, after}
use Rattle.relay_results.specs.Fates.{Fate, Flies, Applied, Already, Retried, Halved, Reported}
use Rattle.relay_delivery.specs.Machine.{Config, Core, Held, Place, Report, write_of, held_at, spent_if, place_of, tries_for, after_launch, back_to_wait, with_cap, KeepsCaps, fate_of, reports_from, how_many, is_applied_fate, is_already_fate, IsFresh, CameAboutFrom}
use Rattle.relay_delivery.specs.Delivery.{HasDistinctNames, IsSound, IsComplete, applied_ops, IsDealtWrite}
use Rattle.relay_delivery.specs.Bound.{tries_left}

-- a held operation, the length of its lines, the clock when it was taken, the clock when it was first sent, or taken if
-- it was not, and the first tick at which it may be sent
pub record Entry : Type 0 where
  pub held : Held
  pub bytes : ℕ
  pub taken_at : ℕ
  pub since : ℕ
  pub due : ℕ

-- a request in flight, counted from 0, and its writes
pub record Flying : Type 0 where
  pub request : ℕ
  pub writes : List Write

-- the clock, how many Puts were taken and how many requests were sent, what is held and what is in flight, the
-- reports, and how many operations ended as applied
pub record State : Type 0 where
  pub config : Config
  pub clock : ℕ
  pub taken : ℕ
  pub requests : ℕ
  pub held : List Entry
  pub flying : List Flying
  pub reports : List Report
  pub applied : ℕ
  pub already : ℕ

abbrev pub held_of : List Entry → List Held
held_of es = map (λ (e : Entry). e.held) es

-- ---- take

abbrev pub entry_at : State → Op → ℕ → Entry
entry_at s o bytes = record { held = held_at s.config s.taken o; bytes = bytes; taken_at = s.clock; since = s.clock; due = s.clock }

abbrev pub entry_if : Bool → State → Op → ℕ → List Entry
entry_if true s o bytes = entry_at s o bytes ∷ []
entry_if false s o bytes = []

abbrev pub taken_op : State → Op → ℕ → State
taken_op s o bytes = record s {
  taken = s.taken + 1;
  held = s.held ++ entry_if (nat_lt s.taken s.config.deals) s o bytes;
  reports = s.reports ++ spent_if (nat_lt s.taken s.config.deals) o;
}

-- ---- request

abbrev pub waits : Option Place → Bool
waits None = true
waits (Some f) = false

-- a held operation of its document has a lower version
abbrev pub is_later : List Held → Held → Bool
is_later hs h = list_any (λ (j : Held). same_document (document_of j.op.key) (document_of h.op.key) && nat_lt j.version h.version) hs

-- the operation is eligible and due
abbrev pub is_candidate : State → Entry → Bool
is_candidate s e = waits e.held.flies && (nat_le e.due s.clock && not (is_later (held_of s.held) e.held))

abbrev pub candidates : State → List Entry
candidates s = filter (is_candidate s) s.held

-- the clock when an operation was first sent, if it is sent now, at a place
abbrev pub since_sent : ℕ → Entry → Option ℕ → ℕ
since_sent clock e None = e.since
since_sent clock e (Some place) = if e.held.sends == 0 then clock else e.since

abbrev pub launched_entry : ℕ → ℕ → List Held → Entry → Entry
launched_entry clock request chosen e = record { held = after_launch request chosen e.held; bytes = e.bytes; taken_at = e.taken_at; since = since_sent clock e (place_of e.held.version chosen); due = e.due }

abbrev pub writes_of_all : List Entry → List Write
writes_of_all es = map write_of (held_of es)

-- these entries are sent as one request
abbrev pub after_request_of : State → List Entry → State
after_request_of s chosen = record s {
  requests = s.requests + 1;
  held = map (launched_entry s.clock s.requests (held_of chosen)) s.held;
  flying = s.flying ++ record { request = s.requests; writes = writes_of_all chosen } ∷ [];
}

-- ---- reply, whole, lost

-- the pause after `tries` tries: 1, 2, 4 and so on, at most 64 ticks
abbrev pub backoff : ℕ → ℕ → ℕ
backoff clock attempts = min (clock + min (2 ^ (attempts - 1)) 64) 18446744073709551615

abbrev pub kept_entry : ℕ → Fate → Entry → List Entry
kept_entry clock Flies e = e ∷ []
kept_entry clock Applied e = []
kept_entry clock Already e = []
kept_entry clock Retried e = record { held = back_to_wait e.held; bytes = e.bytes; taken_at = e.taken_at; since = e.since; due = backoff clock e.held.attempts } ∷ []
kept_entry clock (Halved cap) e = record { held = with_cap cap e.held; bytes = e.bytes; taken_at = e.taken_at; since = e.since; due = clock } ∷ []
kept_entry clock (Reported cause) e = []

abbrev pub kept_entries : (ℕ → ℕ) → ℕ → ℕ → List Write → Answer → List Entry → List Entry
kept_entries allowed clock request ws a [] = []
kept_entries allowed clock request ws a (e ∷ es) = kept_entry clock (fate_of allowed request ws a e.held e.held.flies) e ++ kept_entries allowed clock request ws a es

-- at this clock, an operation that was first sent then has the age
abbrev pub has_age : Option ℕ → ℕ → ℕ → Bool
has_age None clock since = false
has_age (Some age) clock since = nat_le (since + age) clock

-- an operation of this version is held, and is old
abbrev pub old_in : State → ℕ → Bool
old_in s version = list_any (λ (e : Entry). (e.held.version == version) && has_age s.config.age s.clock e.since) s.held

-- the tries that an operation has, by its version
abbrev pub tries_in : State → ℕ → ℕ
tries_in s = tries_for s.config (old_in s)

abbrev pub is_other : ℕ → Flying → Bool
is_other request f = not (f.request == request)

-- an answer to a request, counted from 0, that carried these writes
abbrev pub after_settling : State → ℕ → List Write → Answer → State
after_settling s request ws a = record s {
  held = kept_entries (tries_in s) s.clock request ws a s.held;
  flying = filter (is_other request) s.flying;
  reports = s.reports ++ reports_from (tries_in s) request ws a (held_of s.held);
  applied = s.applied + how_many is_applied_fate (tries_in s) request ws a (held_of s.held);
  already = s.already + how_many is_already_fate (tries_in s) request ws a (held_of s.held);
}

-- a request with this number, from 1, is in flight
abbrev pub is_flying : ℕ → State → Bool
is_flying number s = list_any (λ (f : Flying). from_one f.request == number) s.flying

-- the writes of a request in flight
abbrev pub writes_at : ℕ → List Flying → List Write
writes_at request [] = []
writes_at request (f ∷ fs) = if f.request == request then f.writes else writes_at request fs

-- an answer to the request with this number
abbrev pub after_answer_to : State → ℕ → Answer → State
after_answer_to s number a = after_settling s (from_zero number) (writes_at (from_zero number) s.flying) a

-- ---- the outside that a lane fits

-- the core that the state represents
pub record IsOf (s : State) (c : Core) : Type 0 where
  pub taken : s.taken ≡ length c.taken
  pub held : held_of s.held ≡ c.held
  pub reports : s.reports ≡ c.reports
  pub applied : s.applied ≡ c.applied
  pub already : s.already ≡ c.already
  pub requests : s.requests ≡ length c.outside.requests
  pub flying : (f : Flying) → Mem f s.flying → slice_get c.outside.requests f.request ≡ Some (record { writes = f.writes; answer = Unanswered })

-- the lane took these operations, its requests are those that were sent, in order, and it was settled by their answers
-- alone: the lane and the outside came about by the same steps, from a start of this kind
pub record FitsFrom (begin : Config → Core → Type 0) (s : State) (taken : List Op) (out : Outside) : Type 0 where
  pub core : Core
  pub came_about : CameAboutFrom begin s.config core
  pub is_of : IsOf s core
  pub took : core.taken ≡ taken
  pub outside : core.outside ≡ out

-- and starting from a fresh lane and an opening
abbrev pub Fits : State → List Op → Outside → Type 0
Fits = FitsFrom IsFresh

-- ---- each call keeps the lane fitting

abbrev pub fresh_state : Config → State
fresh_state g = record { config = g; clock = 0; taken = 0; requests = 0; held = []; flying = []; reports = []; applied = 0; already = 0 }

-- a lane that took nothing fits an outside in which nothing was sent and every stored version is below its first
abbrev pub FreshFits : Type 0
FreshFits =
    (g : Config) (out : Outside) → IsOpening out → ((k : Document) (u : ℕ) → out.stored k ≡ Some u → u < g.first) →
    Fits (fresh_state g) [] out

-- a tick changes only the clock
abbrev pub ClockFits : Type 0
ClockFits = (s : State) (clock : ℕ) (taken : List Op) (out : Outside) → Fits s taken out → Fits (record s { clock = clock }) taken out

abbrev pub TakeFits : Type 0
TakeFits = (s : State) (o : Op) (bytes : ℕ) (taken : List Op) (out : Outside) → Fits s taken out → Fits (taken_op s o bytes) (taken ++ o ∷ []) out

-- some of the candidates, which keep their caps, are sent
abbrev pub SendFits : Type 0
SendFits =
    (s : State) (chosen : List Entry) (taken : List Op) (out : Outside) → IsSubsequence chosen (candidates s) →
    KeepsCaps (held_of chosen) → Fits s taken out →
    Fits (after_request_of s chosen) taken (after (Sends (writes_of_all chosen)) out)

-- an item is run meanwhile
abbrev pub RunFits : Type 0
RunFits = (s : State) (r : Ran) (taken : List Op) (out : Outside) → MayRun out r → Fits s taken out → Fits s taken (after (Runs r) out)

abbrev pub AnswerFits : Type 0
AnswerFits =
    (s : State) (number : ℕ) (a : Answer) (taken : List Op) (out : Outside) → is_flying number s ≡ true →
    MayAnswer out (from_zero number) a → Fits s taken out →
    Fits (after_answer_to s number a) taken (after (Answers (from_zero number) a) out)

-- ---- what is promised of a lane and an outside that it fits

abbrev pub SoundWhereItFits : Type 0
SoundWhereItFits =
    (s : State) (taken : List Op) (out : Outside) → Fits s taken out → HasDistinctNames taken →
    IsSound s.config taken s.reports out (applied_ops s.config taken out)

abbrev pub CompleteWhereItFits : Type 0
CompleteWhereItFits =
    (s : State) (taken : List Op) (out : Outside) → Fits s taken out → HasDistinctNames taken → s.held ≡ [] →
    IsComplete taken s.reports (applied_ops s.config taken out)

-- each operation is held, done or reported, and the counts are those of what was taken and sent
abbrev pub TotalWhereItFits : Type 0
TotalWhereItFits =
    (s : State) (taken : List Op) (out : Outside) → Fits s taken out →
    (s.taken ≡ length taken) × (s.requests ≡ length out.requests)
    × (length s.held + (s.applied + s.already) + length s.reports ≡ s.taken)

-- each write that was sent is that of an operation that the lane took, with the version assigned when it was taken
abbrev pub WritesWhereItFits : Type 0
WritesWhereItFits =
    (s : State) (taken : List Op) (out : Outside) → Fits s taken out → (q : Request) → Mem q out.requests → (w : Write) →
    Mem w q.writes → IsDealtWrite s.config taken w

-- at most one operation of a document is in flight at a time, the earliest that is held
abbrev pub EarliestWhereItFits : Type 0
EarliestWhereItFits =
    (s : State) (taken : List Op) (out : Outside) → Fits s taken out → (e d : Entry) (f : Place) → Mem e s.held → Mem d s.held →
    e.held.flies ≡ Some f → document_of d.held.op.key ≡ document_of e.held.op.key → e.held.version ≤ d.held.version

abbrev pub OneFliesWhereItFits : Type 0
OneFliesWhereItFits =
    (s : State) (taken : List Op) (out : Outside) → Fits s taken out → (e d : Entry) (f g : Place) → Mem e s.held →
    Mem d s.held → e.held.flies ≡ Some f → d.held.flies ≡ Some g →
    document_of d.held.op.key ≡ document_of e.held.op.key → e.held ≡ d.held

-- ---- how many requests it sends

-- the tries and halvings that are left to what it holds
abbrev pub tries_of : State → ℕ
tries_of s = tries_left s.config.max (held_of s.held)

-- a request uses up at least one of them, and no answer gives one back
abbrev pub SendTakesTry : Type 0
SendTakesTry =
    (s : State) (chosen : List Entry) (taken : List Op) (out : Outside) → 0 < s.config.max → chosen ≢ [] →
    IsSubsequence chosen (candidates s) → KeepsCaps (held_of chosen) → Fits s taken out → tries_of (after_request_of s chosen) + 1 ≤ tries_of s

abbrev pub AnswerGivesNoTry : Type 0
AnswerGivesNoTry =
    (s : State) (number : ℕ) (a : Answer) (taken : List Op) (out : Outside) → 0 < s.config.max → is_flying number s ≡ true →
    Fits s taken out → tries_of (after_answer_to s number a) ≤ tries_of s

-- an operation that an honest answer ends as applied, by the answered request or by an earlier one, was applied: the
-- index has its write
abbrev pub EndedIsApplied : Type 0
EndedIsApplied =
    (s : State) (number : ℕ) (a : Answer) (taken : List Op) (out : Outside) → is_flying number s ≡ true →
    MayAnswer out (from_zero number) a → Fits s taken out → (h : Held) → Mem h (held_of s.held) →
    (fate_of (tries_in s) (from_zero number) (writes_at (from_zero number) s.flying) a h h.flies ≡ Applied)
    ⊎ (fate_of (tries_in s) (from_zero number) (writes_at (from_zero number) s.flying) a h h.flies ≡ Already) →
    Mem (write_of h) (out.applied (document_of h.op.key))
