-- What a lane reaches by its calls, whatever the answers: they need not be honest, and there need not be an index.
use Rattle.std.specs.Prelude.{◌≡◌, ◌≢◌, ℕ, ◌+◌, ◌<◌, List, [], ◌∷◌, ◌++◌, Some, slice_get, true, map, length}
use Rattle.relay_action.specs.declared.write.Write.{Write}
use Rattle.relay_action.specs.declared.operation.Op.{Op}
use Rattle.relay_results.specs.Words.{Mem, IsSubsequence, AllDistinct}
use Rattle.relay_results.specs.Documents.{Document, document_of}
use Rattle.relay_results.specs.Outside.{Answer, Unanswered}
use Rattle.relay_delivery.specs.Machine.{Config, Held, Place, version_at, write_of, KeepsCaps}
use Rattle.relay_delivery.specs.Delivery.{IsDealtWrite}
use Rattle.relay_delivery.specs.Lane.{Entry, Flying, State, held_of, taken_op, candidates, after_request_of, is_flying, after_answer_to, fresh_state}

-- ---- calls

-- an operation is taken, with the length of its lines; the clock is set; entries are sent as one request; or the
-- request with this number, from 1, is answered
pub data Call : Type 0 where
  Takes : Op → ℕ → Call
  Ticks : ℕ → Call
  Sends : List Entry → Call
  Answers : ℕ → Answer → Call

abbrev pub call : Call → State → State
call (Takes o bytes) s = taken_op s o bytes
call (Ticks clock) s = record s { clock = clock }
call (Sends chosen) s = after_request_of s chosen
call (Answers number a) s = after_answer_to s number a

-- Any operation may be taken, and the clock set, at any time; candidates that keep their caps may be sent; and a
-- request in flight may get any answer.
abbrev pub MayCall : Call → State → Type 0
MayCall (Takes o bytes) s = Unit {0}
MayCall (Ticks clock) s = Unit {0}
MayCall (Sends chosen) s = IsSubsequence chosen (candidates s) × KeepsCaps (held_of chosen)
MayCall (Answers number a) s = (is_flying number s ≡ true) × (a ≢ Unanswered)

-- after a sequence of calls
abbrev pub calls_of : List Call → State → State
calls_of [] s = s
calls_of (c ∷ cs) s = calls_of cs (call c s)

abbrev pub AllMayCall : List Call → State → Type 0
AllMayCall [] s = Unit {0}
AllMayCall (c ∷ cs) s = MayCall c s × AllMayCall cs (call c s)

-- the operation that a call takes
abbrev pub taken_by : Call → List Op
taken_by (Takes o bytes) = o ∷ []
taken_by (Ticks clock) = []
taken_by (Sends chosen) = []
taken_by (Answers number a) = []

-- the operations that the calls take, in order
abbrev pub taken_in : List Call → List Op
taken_in [] = []
taken_in (c ∷ cs) = taken_by c ++ taken_in cs

-- a lane reaches this state by calls that may be made, starting from a fresh lane, and they took these operations
pub record Reached (s : State) (taken : List Op) : Type 0 where
  pub calls : List Call
  pub may : AllMayCall calls (fresh_state s.config)
  pub took : taken_in calls ≡ taken
  pub reached : calls_of calls (fresh_state s.config) ≡ s

-- ---- what holds then

-- the held operation was taken, and it has the version assigned for its place
pub record IsOfTaken (g : Config) (taken : List Op) (h : Held) : Type 0 where
  pub place : ℕ
  pub was_taken : slice_get taken place ≡ Some h.op
  pub within : place < g.deals
  pub version : h.version ≡ version_at g place

-- the write is that of a held operation that is in flight at this place
pub record IsHeldAtPlace (held : List Entry) (w : Write) (p : Place) : Type 0 where
  pub entry : Entry
  pub is_held : Mem entry held
  pub flies : entry.held.flies ≡ Some p
  pub write : w ≡ write_of entry.held

abbrev pub place_at : ℕ → ℕ → Place
place_at request place = record { request = request; place = place }

-- one of the requests in flight has the write at this place
pub record IsInFlight (flying : List Flying) (w : Write) (p : Place) : Type 0 where
  pub of : Flying
  pub is_in : Mem of flying
  pub request : of.request ≡ p.request
  pub stands : slice_get of.writes p.place ≡ Some w

-- the documents of the writes in flight, request by request
abbrev pub documents_of : List Flying → List Document
documents_of [] = []
documents_of (f ∷ fs) = map (λ (w : Write). document_of w.key) f.writes ++ documents_of fs

-- Held operations have ascending versions. Each of them, and the operation of each write in flight, was taken, and has
-- the version assigned for its place; a write in flight is that of a held operation that is in flight there, and vice
-- versa. No document is in flight twice, in one request or in two. Each operation that was taken is held, ended as
-- applied, or was reported.
pub record IsOrderly (s : State) (taken : List Op) : Type 0 where
  pub rising : (i j : ℕ) (e d : Entry) → i < j → slice_get s.held i ≡ Some e → slice_get s.held j ≡ Some d → e.held.version < d.held.version
  pub held : (e : Entry) → Mem e s.held → IsOfTaken s.config taken e.held
  pub flying : (f : Flying) (w : Write) → Mem f s.flying → Mem w f.writes → IsDealtWrite s.config taken w
  pub at_place : (f : Flying) (place : ℕ) (w : Write) → Mem f s.flying → slice_get f.writes place ≡ Some w → IsHeldAtPlace s.held w (place_at f.request place)
  pub in_flight : (e : Entry) (p : Place) → Mem e s.held → e.held.flies ≡ Some p → IsInFlight s.flying (write_of e.held) p
  pub once : AllDistinct (documents_of s.flying)
  pub count : s.taken ≡ length taken
  pub totals : length s.held + (s.applied + s.already) + length s.reports ≡ s.taken

-- whatever the answers
abbrev pub ReachedHolds : Type 0
ReachedHolds = (s : State) (taken : List Op) → Reached s taken → IsOrderly s taken

-- ---- what is reached

abbrev pub FreshReached : Type 0
FreshReached = (g : Config) → Reached (fresh_state g) []

abbrev pub CallReached : Type 0
CallReached = (s : State) (c : Call) (taken : List Op) → Reached s taken → MayCall c s → Reached (call c s) (taken ++ taken_by c)
