-- What is done with a connection, and with one connection after another.
use Rattle.std.specs.Prelude.{◌≡◌, ◌⊎◌, ℕ, suc, zero, ◌<◌, ◌≤◌, List, [], codes, length, Option, Some, None, Result, Ok, Err, MatchResult, OnOk, IsTrue, IsFalse, false}
use Rattle.relay_index.specs.Serving.{Server, answer_of, Answers, StopsAfter}
use Rattle.relay_index.specs.declared.serving.ServeFault.{ServeFault}
use Rattle.relay_http.specs.Forms.{Begins, Fails, IsOutside, IsThatOrOutside}
use Rattle.relay_http.specs.Framing.{reply_limit}
use Rattle.relay_http.specs.Connection.{Connection, ahead, fresh, failed_reading, failed_writing}
use Rattle.relay_http.specs.Request.{IsRequest, RequestPasses, RequestStates, TookRequest, IsFound}
use Rattle.relay_http.specs.RequestLine.{HeadAt, put_target}
use Rattle.relay_http.specs.WrittenAnswer.{answer}
use Rattle.relay_http.specs.WrittenRequest.{WritesText}
use Rattle.relay_http.specs.declared.fault.HttpFault.{HttpFault}
use Rattle.relay_http.specs.declared.fault.HttpFault.TheVariants as fault
use Rattle.relay_http.specs.declared.request.HttpRequest.{HttpRequest}
use Rattle.relay_target.specs.Targets.{Names, NamesNone}
use Rattle.relay_results.specs.Documents.{Document}
use Rattle.relay_stub.specs.Documents.{IsNoSource, Puts, StopsPut}
use Rattle.relay_http.specs.Listening.{Shown, shown_by, Listening, HandsOut, after_failure, with_done}
use Rattle.relay_stub.specs.declared.stub.ServeError.{ServeError}
use Rattle.relay_stub.specs.declared.stub.ServeError.TheVariants as error

-- ---- what is read

-- a connection over a stream that shows this, before its first call
abbrev pub fresh_connection : Shown → Connection
fresh_connection s = fresh s.left s.written s.failed

-- what the stream of a connection shows
abbrev pub stream_of : Connection → Shown
stream_of c = shown_by c.left c.written c.failed

-- the result of reading a request from a connection, and the connection afterwards
pub record ReadsRequest (c d : Connection) (r : Result (Option HttpRequest) HttpFault) : Type 0 where
  pub answer : MatchResult r (TookRequest (ahead c) (ahead d)) (Fails IsRequest (ahead c) d.left)
  pub found : (stream : List ℕ) (there : Begins IsRequest stream) → ahead c ≡ Some stream → MatchResult r (IsFound there (ahead d)) IsOutside
  pub stated : (stream : List ℕ) (f : HttpFault) → RequestStates stream f → ahead c ≡ Some stream → MatchResult r (λ request. ⊥) (IsThatOrOutside f)
  pub long : (stream : List ℕ) → RequestPasses stream → ahead c ≡ Some stream → MatchResult r (λ request. ⊥) (IsThatOrOutside fault.BodyLong)
  pub none : ahead c ≡ Some [] → MatchResult r (λ request. request ≡ None) IsOutside
  pub failed : d.failed ≡ failed_reading r c.failed
  pub written : d.written ≡ c.written

-- the target of the request at the front, if its method is PUT, and the connection afterwards, from which nothing is
-- taken
pub record PeeksPut (c d : Connection) (r : Result (Option (List ℕ)) HttpFault) : Type 0 where
  pub stays : OnOk r (ahead d ≡ ahead c)
  pub found : (stream : List ℕ) (there : HeadAt stream) → ahead c ≡ Some stream → MatchResult r (λ put. put ≡ put_target there.head) IsOutside
  pub failed : d.failed ≡ failed_reading r c.failed
  pub written : d.written ≡ c.written

-- ---- what is written

-- the text of the answer to a request that is not a POST to /_bulk
abbrev pub not_bulk : List ℕ
not_bulk = codes "{\"error\":{\"type\":\"NotBulk\"},\"status\":400}"

-- An answer that fits was written, and says close: all of it, or part of it if a write failed, or nothing if an
-- allocation for it failed.
pub record Goes (status : ℕ) (text : List ℕ) (c d : Connection) : Type 0 where
  pub fits : length text ≤ reply_limit
  pub outcome : Result (Unit {0}) HttpFault
  pub message : WritesText (answer status text false) c.written d.written outcome
  pub failed : d.failed ≡ failed_writing outcome c.failed

-- an answer that is longer than a reply may be was not written
pub record IsTooLong (text : List ℕ) (c d : Connection) : Type 0 where
  pub passes : reply_limit < length text
  pub written : d.written ≡ c.written
  pub failed : d.failed ≡ c.failed

-- this answer was given, and nothing was read for it
pub record IsAnswered (status : ℕ) (text : List ℕ) (c d : Connection) : Type 0 where
  pub goes : Goes status text c d ⊎ IsTooLong text c d
  pub left : d.left ≡ c.left

-- ---- one connection

-- The body of a bulk request was served once, and answered. Or an allocation failed after its first items, and
-- nothing was written.
abbrev pub MeetsBulk : List ℕ → Server → Server → Connection → Connection → Result (Unit {0}) ServeFault → Type 0
MeetsBulk body old new c d (Ok u) =
    (status : ℕ) × (text : List ℕ) × Answers body old (answer_of status text) new × IsAnswered status text c d
MeetsBulk body old new c d (Err e) = StopsAfter e.ran body old new × (d ≡ c)

-- another request was answered with NotBulk, and nothing was run
abbrev pub MeetsOther : Server → Server → Connection → Connection → Result (Unit {0}) ServeFault → Type 0
MeetsOther old new c d (Ok u) = (new ≡ old) × IsAnswered 400 not_bulk c d
MeetsOther old new c d (Err e) = ⊥

-- the document that the target names
abbrev pub document : List ℕ → List ℕ → Document
document index id = record { index = index; id = id }

-- a PUT of a document was stored and answered
pub record StoresPut (target body : List ℕ) (old new : Server) (c d : Connection) : Type 0 where
  pub index : List ℕ
  pub id : List ℕ
  pub names : Names target index id
  pub status : ℕ
  pub text : List ℕ
  pub puts : Puts (document index id) body old.index status text new.index
  pub script : new.script ≡ old.script
  pub answered : IsAnswered status text c d

-- the target names no document, or the body may not be a source: it was answered with NotBulk, and nothing was run
pub record RefusesPut (target body : List ℕ) (old new : Server) (c d : Connection) : Type 0 where
  pub cause : NamesNone target ⊎ IsNoSource body
  pub stays : new ≡ old
  pub answered : IsAnswered 400 not_bulk c d

-- an allocation failed: before the document was stored, or after it; nothing was written
pub record BreaksPut (target body : List ℕ) (ran : ℕ) (old new : Server) (c d : Connection) : Type 0 where
  pub stops : ((ran ≡ 0) × (new ≡ old))
      ⊎ ((index : List ℕ) × (id : List ℕ) × Names target index id × StopsPut (document index id) body ran old.index new.index × (new.script ≡ old.script))
  pub stays : d ≡ c

abbrev pub MeetsPut : List ℕ → List ℕ → Server → Server → Connection → Connection → Result (Unit {0}) ServeFault → Type 0
MeetsPut target body old new c d (Ok u) = StoresPut target body old new c d ⊎ RefusesPut target body old new c d
MeetsPut target body old new c d (Err e) = BreaksPut target body e.ran old new c d

-- a request that is not a bulk request, by its target if its method is PUT
abbrev pub MeetsSingle : Option (List ℕ) → List ℕ → Server → Server → Connection → Connection → Result (Unit {0}) ServeFault → Type 0
MeetsSingle None body old new c d result = MeetsOther old new c d result
MeetsSingle (Some target) body old new c d result = MeetsPut target body old new c d result

pub record Meets (r : HttpRequest) (put : Option (List ℕ)) (old new : Server) (c d : Connection) (result : Result (Unit {0}) ServeFault) : Type 0 where
  pub bulk : IsTrue r.bulk → MeetsBulk r.body.items old new c d result
  pub other : IsFalse r.bulk → MeetsSingle put r.body.items old new c d result

-- the connection was dropped: nothing was written, and nothing was run
abbrev pub Drops : Server → Server → Connection → Connection → Result (Unit {0}) ServeFault → Type 0
Drops old new c d (Ok u) = (new ≡ old) × (d ≡ c)
Drops old new c d (Err e) = ⊥

-- what is done with a connection, by what was read
abbrev pub Handles : Option (List ℕ) → Result (Option HttpRequest) HttpFault → Server → Server → Connection → Connection → Result (Unit {0}) ServeFault → Type 0
Handles put (Ok (Some request)) old new c d result = Meets request put old new c d result
Handles put (Ok None) old new c d result = Drops old new c d result
Handles put (Err f) old new c d result = Drops old new c d result

-- a request was read from a connection, and handled
pub record Receives (put : Option (List ℕ)) (c d : Connection) (old new : Server) (result : Result (Unit {0}) ServeFault) : Type 0 where
  pub between : Connection
  pub read : Result (Option HttpRequest) HttpFault
  pub reads : ReadsRequest c between read
  pub handles : Handles put read old new between d result

-- the request is read, unless its head could not be
abbrev pub GoesOn : Result (Option (List ℕ)) HttpFault → Connection → Connection → Server → Server → Result (Unit {0}) ServeFault → Type 0
GoesOn (Ok put) c d old new result = Receives put c d old new result
GoesOn (Err f) c d old new result = Drops old new c d result

-- the target of a PUT was looked at, and the request was read and handled
pub record Exchanges (c d : Connection) (old new : Server) (result : Result (Unit {0}) ServeFault) : Type 0 where
  pub at : Connection
  pub put : Result (Option (List ℕ)) HttpFault
  pub peeks : PeeksPut c at put
  pub goes_on : GoesOn put at d old new result

-- allocating a connection over the stream failed: nothing was read, written or run
abbrev pub HasNoRoom : Shown → Shown → Server → Server → Result (Unit {0}) ServeFault → Type 0
HasNoRoom before after old new (Ok u) = ⊥
HasNoRoom before after old new (Err e) = (e.ran ≡ 0) × (after ≡ before) × (new ≡ old)

-- The stream was served one request, and showed this afterwards.
abbrev pub IsServed : Shown → Shown → Server → Server → Result (Unit {0}) ServeFault → Type 0
IsServed before after old new result =
    ((d : Connection) × Exchanges (fresh_connection before) d old new result × (after ≡ stream_of d)) ⊎ HasNoRoom before after old new result

-- ---- one after another

-- one connection was provided, served, and taken back
pub record Visits (from : Listening) (old : Server) (to : Listening) (new : Server) (result : Result (Unit {0}) ServeFault) : Type 0 where
  pub before : Shown
  pub after : Shown
  pub at : Listening
  pub hands_out : HandsOut from before at
  pub serves : IsServed before after old new result
  pub back : to ≡ with_done at after

-- this many connections were served, one after the other
abbrev pub VisitsAll : ℕ → Listening → Server → Listening → Server → Type 0
VisitsAll zero from old to new = (to ≡ from) × (new ≡ old)
VisitsAll (suc n) from old to new =
    (at : Listening) × (later : Server) × VisitsAll n from old at later × Visits at later to new (Ok tt)

-- What was served, by how it ended: all connections; or fewer, and then a call of the listener failed, or an
-- allocation did at the next one.
abbrev pub Serves : ℕ → Listening → Server → Listening → Server → Result (Unit {0}) ServeError → Type 0
Serves n from old to new (Ok u) = VisitsAll n from old to new
Serves n from old to new (Err error.Accept) =
    (k : ℕ) × (k < n) × ((at : Listening) × VisitsAll k from old at new × (to ≡ after_failure at))
Serves n from old to new (Err error.Memory) =
    (k : ℕ) × (k < n) × ((at : Listening) × (later : Server) × (e : ServeFault) × VisitsAll k from old at later × Visits at later to new (Err e))

-- the next connection was served; or a call of the listener or an allocation failed
abbrev pub ServesNext : Listening → Server → Listening → Server → Result (Unit {0}) ServeError → Type 0
ServesNext from old to new (Ok u) = Visits from old to new (Ok tt)
ServesNext from old to new (Err error.Accept) = (to ≡ after_failure from) × (new ≡ old)
ServesNext from old to new (Err error.Memory) = (e : ServeFault) × Visits from old to new (Err e)
