-- The calls of clients that workers answer, one after another, and what is settled for them.
use Rattle.std.specs.Prelude.{◌≡◌, ◌⊎◌, ℕ, ◌+◌, ◌<◌, List, [], ◌∷◌, ◌++◌, flat_map, map, Option, option_map, String, string_bytes}
use Rattle.std.specs.declared.alloc.Global.{Global}
use Rattle.http_server.specs.declared.connection.Connection.{Connection}
use Rattle.http_server.specs.Connection.{history}
use Rattle.http_server.specs.Exchange.{Call}
use Rattle.relay_producer.specs.Ends.{ClosesAll}
use Rattle.relay_producer.specs.States.{ClosedProducerState}
use Rattle.relay_queue.specs.Ends.{Queue}
use Rattle.relay_results.specs.Words.{Mem}
use Rattle.relay_receipts.specs.Ends.{TakeEnd}
use Rattle.relay_receipts.specs.Windows.{WindowState}
use Rattle.relay_telling.specs.declared.ending.Ending.{Ending}
use Rattle.relay_threads.specs.Relay.{new_producer}
use Rattle.relay_common.specs.Identities.{identity_of, identity_of_closed}
use Rattle.relay_front.specs.declared.face.Face.{Face}
use Rattle.relay_front.specs.Again.{asking}
use Rattle.relay_front.specs.Fields.{HasFields}
use Rattle.relay_front.specs.Service.{Answers, just, nothing, target_asked}
use Rattle.relay_serve.specs.declared.entry.Entry.{Entry}
use Rattle.relay_serve.specs.declared.entry.Spoken.{Spoken}
use Rattle.relay_serve.specs.Remembering.{Reached, entry_of}
use Rattle.relay_serve.specs.Serving.{Request, taken_by}
use Rattle.relay_serve.specs.Settling.{Settles, puts_in, heard_in}

-- A call of the service: a client's request and the response to it, as `http_server` shows them. Nothing was settled for it, or
-- the writes of a request were; or it was answered as another call was, which asked for the same.
pub data Answering : Type 0 where
  Plain : Call → Answering
  Settling : Call → Request → Answering
  Repeated : Call → Answering

abbrev pub call_of : Answering → Call
call_of (Plain c) = c
call_of (Settling c r) = c
call_of (Repeated c) = c

-- those requests, in order
abbrev pub requests_of : List Answering → List Request
requests_of [] = []
requests_of (Plain c ∷ xs) = requests_of xs
requests_of (Settling c r ∷ xs) = r ∷ requests_of xs
requests_of (Repeated c ∷ xs) = requests_of xs

-- what was answered to those that were answered as others were, in order
abbrev pub repeats_of : List Answering → List Entry
repeats_of [] = []
repeats_of (Plain c ∷ xs) = repeats_of xs
repeats_of (Settling c r ∷ xs) = repeats_of xs
repeats_of (Repeated c ∷ xs) = entry_of c.0 c.1 ∷ repeats_of xs

-- From the first state of its producer on a worker whose front has this face and this index answered these calls, one after
-- another: each response is the one to its request where nothing is settled, or where just these writes are, and end so; or it has
-- the fields of a response to it, and the status and the text of another one (`IsRemembered`).
abbrev pub AreAnswered : Face → Option (List ℕ) → List Answering → WindowState Ending → WindowState Ending → Type 0
AreAnswered face index [] old new = new ≡ old
AreAnswered face index (Plain c ∷ xs) old new = Answers nothing face index old c.0 c.1 old × AreAnswered face index xs old new
AreAnswered face index (Settling c r ∷ xs) old new =
    (mid : WindowState Ending) × (settled : Settles old r.writes r.ends mid) × (puts_in settled.events ≡ r.put) × (heard_in settled.events ≡ r.heard)
    × Answers (just old r.writes r.ends mid) face index old c.0 c.1 mid × AreAnswered face index xs mid new
AreAnswered face index (Repeated c ∷ xs) old new = HasFields face (target_asked c.0) c.1 × AreAnswered face index xs old new

-- for one of these calls writes were settled, and this was asked by it and answered to it
abbrev pub WasSettled : List Answering → Entry → Type 0
WasSettled answers e = (c : Call) × (r : Request) × Mem (Settling c r) answers × (e ≡ entry_of c.0 c.1)

-- ---- connections

-- While a worker served a connection, it made these calls. What `http_server` says of every connection (`IsServed`) says of the
-- second one which bytes have gone out on it, and wait, for all of its calls.
pub record Visit : Type 0 where
  pub before : Connection
  pub after : Connection
  pub calls : List Call
  pub added : (history after).calls ≡ (history before).calls ++ calls

-- all calls that were made, in order
abbrev pub calls_in : List Visit → List Call
calls_in visits = flat_map (λ v. v.calls) visits

-- Some connections were served, one after another, and their calls led from the one state to the other. What was given to the
-- memory was settled for one of them; and just what was answered from it is noted, in order.
pub record GoesOn (face : Face) (index : Option (List ℕ)) (old new : Reached) : Type 0 where
  pub visits : List Visit
  pub answers : List Answering
  pub shown : map call_of answers ≡ calls_in visits
  pub answered : AreAnswered face index answers old.producer new.producer
  pub given : (e : Entry) → Mem e new.given → Mem e old.given ⊎ WasSettled answers e
  pub repeated : new.repeated ≡ old.repeated ++ repeats_of answers

-- ---- workers

-- the index of operations that name none, if there is one
abbrev pub index_in : Option (String Global) → Option (List ℕ)
index_in index = option_map string_bytes index

-- what a worker is given: its producer, the face of its front, and the index of operations that name none
pub record Given : Type 0 where
  pub producer : WindowState Ending
  pub face : Face
  pub index : Option (List ℕ)

abbrev pub given_by : Face → Option (List ℕ) → WindowState Ending → Given
given_by face index producer = record { producer = producer; face = face; index = index }

-- it begins: it has neither given anything to the memory nor answered from it
abbrev pub begun : WindowState Ending → Reached
begun producer = record { producer = producer; given = []; repeated = [] }

-- A worker that was given this has served some connections, and its producer is closed; from the end of the channel that it was
-- given, the notices were taken that were taken for their requests, and no others. It tells what it gave to the memory and what it
-- answered from it.
pub record HasServed (given : Given) (closed : ClosedProducerState) (receipts : TakeEnd Ending) (spoken : Spoken) : Type 0 where
  pub last : Reached
  pub served : GoesOn given.face given.index (begun given.producer) last
  pub closes : ClosesAll last.producer.producer.ends closed.ends
  pub same : (closed.producer ≡ last.producer.producer.producer) × (closed.put ≡ last.producer.producer.put)
  pub identity : identity_of_closed closed ≡ identity_of given.producer.producer
  pub took : receipts ≡ record given.producer.receipts { taken = given.producer.receipts.taken ++ taken_by (requests_of served.answers) }
  pub says : (spoken.given.items ≡ last.given) × (spoken.repeated.items ≡ last.repeated)

-- each worker that was given one of these has, in order
abbrev pub HaveServed : List Given → List ClosedProducerState → List (TakeEnd Ending) → List Spoken → Type 0
HaveServed [] [] [] [] = Unit {0}
HaveServed [] [] [] (s ∷ ss) = ⊥
HaveServed [] [] (t ∷ ts) ss = ⊥
HaveServed [] (c ∷ cs) ts ss = ⊥
HaveServed (w ∷ ws) [] ts ss = ⊥
HaveServed (w ∷ ws) (c ∷ cs) [] ss = ⊥
HaveServed (w ∷ ws) (c ∷ cs) (t ∷ ts) [] = ⊥
HaveServed (w ∷ ws) (c ∷ cs) (t ∷ ts) (s ∷ ss) = HasServed w c t s × HaveServed ws cs ts ss

-- The worker with this number served these connections and answered their calls, one after another, with a producer of its own,
-- which had put nothing; and exactly what was taken for them was taken from this end of its channel.
pub record HasAnswered (face : Face) (index : Option (List ℕ)) (queues : List Queue) (epoch p : ℕ) (visits : List Visit) (answers : List Answering) (receipts : TakeEnd Ending) : Type 0 where
  pub start : WindowState Ending
  pub last : WindowState Ending
  pub new : start.producer ≡ new_producer queues epoch p
  pub shown : map call_of answers ≡ calls_in visits
  pub answered : AreAnswered face index answers start last
  pub took : receipts.taken ≡ taken_by (requests_of answers)

-- the workers numbered p, p + 1 and so on, each with one of these ends, did so
abbrev pub WorkersAnswered : Face → Option (List ℕ) → List Queue → ℕ → (ℕ → List Visit) → (ℕ → List Answering) → ℕ → List (TakeEnd Ending) → Type 0
WorkersAnswered face index queues epoch visits answers p [] = Unit {0}
WorkersAnswered face index queues epoch visits answers p (t ∷ ts) =
    HasAnswered face index queues epoch p (visits p) (answers p) t × WorkersAnswered face index queues epoch visits answers (p + 1) ts

-- ---- answers that were repeated

-- One of so many workers settled writes for a call that asked for the same, byte for byte, and answered it with the same status and
-- the same text.
pub record IsRemembered (count : ℕ) (answers : ℕ → List Answering) (c : Call) : Type 0 where
  pub worker : ℕ
  pub within : worker < count
  pub first : Call
  pub request : Request
  pub settled : Mem (Settling first request) (answers worker)
  pub asked : asking c.0 ≡ asking first.0
  pub status : c.1.status ≡ first.1.status
  pub text : c.1.body.items ≡ first.1.body.items

-- this holds of each call of each of them that was answered as another was
abbrev pub AreRemembered : ℕ → (ℕ → List Answering) → Type 0
AreRemembered count answers = (p : ℕ) → p < count → (c : Call) → Mem (Repeated c) (answers p) → IsRemembered count answers c
