-- A lane that starts afresh after a restart numbers its requests from the beginning again, while its outside counts on
-- from those that it had sent before. Renumbered in the same way, the lane is the one beside that outside, and each of
-- its calls is the same call there.
use Rattle.std.specs.Prelude.{◌≡◌, true, ℕ, ◌+◌, List, Option, Some, None, map}
use Rattle.relay_action.specs.declared.operation.Op.{Op}
use Rattle.relay_action.specs.declared.write.Write.{Write}
use Rattle.relay_results.specs.Outside.{Answer}
use Rattle.relay_delivery.specs.Machine.{Held, Place}
use Rattle.relay_delivery.specs.Lane.{Entry, Flying, State, taken_op, candidates, after_request_of, after_settling, writes_at, is_flying, after_answer_to}

abbrev pub place_on : ℕ → Option Place → Option Place
place_on n None = None
place_on n (Some f) = Some (record { request = n + f.request; place = f.place })

abbrev pub held_on : ℕ → Held → Held
held_on n h = record { op = h.op; version = h.version; sends = h.sends; attempts = h.attempts; cap = h.cap; flies = place_on n h.flies }

abbrev pub entry_on : ℕ → Entry → Entry
entry_on n e = record { held = held_on n e.held; bytes = e.bytes; taken_at = e.taken_at; since = e.since; due = e.due }

abbrev pub flying_on : ℕ → Flying → Flying
flying_on n f = record { request = n + f.request; writes = f.writes }

-- a lane whose requests are numbered on from this many
abbrev pub numbered_on : ℕ → State → State
numbered_on n s = record s { requests = n + s.requests; held = map (entry_on n) s.held; flying = map (flying_on n) s.flying }

abbrev pub TakesOn : Type 0
TakesOn = (n : ℕ) (s : State) (o : Op) (bytes : ℕ) → taken_op (numbered_on n s) o bytes ≡ numbered_on n (taken_op s o bytes)

abbrev pub CandidatesOn : Type 0
CandidatesOn = (n : ℕ) (s : State) → candidates (numbered_on n s) ≡ map (entry_on n) (candidates s)

abbrev pub SendsOn : Type 0
SendsOn = (n : ℕ) (s : State) (chosen : List Entry) → after_request_of (numbered_on n s) (map (entry_on n) chosen) ≡ numbered_on n (after_request_of s chosen)

abbrev pub WritesOn : Type 0
WritesOn = (n request : ℕ) (fs : List Flying) → writes_at (n + request) (map (flying_on n) fs) ≡ writes_at request fs

abbrev pub SettlesOn : Type 0
SettlesOn =
    (n : ℕ) (s : State) (request : ℕ) (ws : List Write) (a : Answer) →
    after_settling (numbered_on n s) (n + request) ws a ≡ numbered_on n (after_settling s request ws a)

abbrev pub FliesOn : Type 0
FliesOn = (n number : ℕ) (s : State) → is_flying (n + number) (numbered_on n s) ≡ is_flying number s

abbrev pub AnswersOn : Type 0
AnswersOn =
    (n : ℕ) (s : State) (number : ℕ) (a : Answer) → is_flying number s ≡ true →
    after_answer_to (numbered_on n s) (n + number) a ≡ numbered_on n (after_answer_to s number a)
