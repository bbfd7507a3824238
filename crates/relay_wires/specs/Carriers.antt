-- A wire over HTTP connections.
use Rattle.std.specs.Prelude.{◌≡◌, ◌==◌, Bool, false, ◌&&◌, ◌⊎◌, ℕ, ◌+◌, ◌≤◌, true, List, [], ◌∷◌, ◌++◌, length, Option, Some, None, IsTrue, Result, Ok, Err, MatchResult, if◌then◌else◌}
use Rattle.relay_action.specs.Streams.{one_more}
use Rattle.relay_action.specs.declared.write.Write.{Write}
use Rattle.relay_http.specs.Connection.{Connection, IsQuiet, HasNone, ahead, fresh, is_open, after_reply, after_write, failed_reading, failed_writing}
use Rattle.relay_http.specs.Forms.{Begins, Took, Fails, IsOutside, IsThatOrOutside}
use Rattle.relay_http.specs.Reply.{IsReplyMessage, ReplyStates, ReplyPasses, reply_view}
use Rattle.relay_http.specs.WrittenRequest.{is_host, SendsRequest}
use Rattle.relay_http.specs.declared.dial.DialFault.{DialFault}
use Rattle.relay_http.specs.declared.dial.DialFault.TheVariants as dial
use Rattle.relay_http.specs.declared.fault.HttpFault.{HttpFault}
use Rattle.relay_http.specs.declared.fault.HttpFault.TheVariants as http
use Rattle.relay_http.specs.declared.reply.HttpReply.{HttpReply}
use Rattle.relay_lane.specs.Exchanges.{Exchange, Receives}
use Rattle.relay_lane.specs.Exchanges as passed
use Rattle.relay_lane.specs.Wires.{answer_of}
use Rattle.relay_lane.specs.declared.wire.WireReply.{WireReply}
use Rattle.relay_results.specs.declared.cause.Loss.{Loss}
use Rattle.relay_results.specs.declared.cause.Loss.TheVariants as loss
use Rattle.relay_wires.specs.Numbers.{entry_of, besides}
use Rattle.relay_wires.specs.Meaning.{Tells}

-- ---- the wire

-- The host in requests, and the maximum number of outstanding requests; the connections of outstanding requests, the
-- newest first; the free ones, with the one freed last at the end; how many dials failed, and how many were made; and
-- what is at the far end.
pub record Carrier (P : Type 0) : Type 0 where
  pub host : List ℕ
  pub most : ℕ
  pub out : List (ℕ × Connection)
  pub free : List Connection
  pub failed : ℕ
  pub dialled : ℕ
  pub peer : P

-- no request is outstanding and no connection is free
abbrev pub idle : {P : Type 0} → List ℕ → ℕ → ℕ → ℕ → P → Carrier P
idle host most failed dialled peer = record { host = host; most = most; out = []; free = []; failed = failed; dialled = dialled; peer = peer }

-- a free connection may carry further messages, and no byte was read beyond its last reply
pub record IsFree (c : Connection) : Type 0 where
  pub lasts : IsTrue (is_open c.phase)
  pub clear : c.held ≡ []

abbrev pub AllFree : List Connection → Type 0
AllFree [] = Unit {0}
AllFree (c ∷ cs) = IsFree c × AllFree cs

-- and so may that of an outstanding request, on which no byte of the reply was read yet
abbrev pub AllOutFree : List (ℕ × Connection) → Type 0
AllOutFree [] = Unit {0}
AllOutFree (e ∷ es) = IsFree e.1 × AllOutFree es

-- what always holds of a wire that has room for this many outstanding requests, and as many free connections
pub record IsCarrier {P : Type 0} (c : Carrier P) (for_out for_free : ℕ) : Type 0 where
  pub host : IsTrue (is_host c.host)
  pub out : AllOutFree c.out
  pub free : AllFree c.free
  pub few : length c.out + length c.free ≤ c.most
  pub places : c.most ≤ for_out
  pub spare : c.most ≤ for_free

-- ---- a request is sent

-- The quiet free connection that was freed last is taken. Those freed after it are dropped: unrequested bytes, or the
-- end of the stream, arrived on them.
pub record TakesFree (old new : List Connection) (c : Connection) : Type 0 where
  pub dropped : List Connection
  pub free : old ≡ new ++ (c ∷ dropped)
  pub quiet : IsQuiet c

-- a connection over a stream on which nothing was written
abbrev pub IsFresh : Connection → Type 0
IsFresh c = (left : Option (List ℕ)) × (written : Option (List ℕ)) × (failed : ℕ) × (c ≡ fresh left written failed) × HasNone written

-- So either a free connection is picked and nothing is dialled, or no free one is left and a fresh one is dialled.
abbrev pub Picks : List Connection → List Connection → ℕ → ℕ → Connection → Type 0
Picks old new before after c = (TakesFree old new c × (after ≡ before)) ⊎ ((new ≡ []) × IsFresh c × (after ≡ one_more before))

-- the result of writing the request with these writes to this host on a connection, and the connection afterwards
pub record Writes (host : List ℕ) (ws : List Write) (c d : Connection) (r : Result (Unit {0}) HttpFault) : Type 0 where
  pub lasts : IsTrue (is_open c.phase)
  pub sent : SendsRequest host ws c.written d.written r
  pub phase : d.phase ≡ after_write true r
  pub failed : d.failed ≡ failed_writing r c.failed
  pub left : d.left ≡ c.left
  pub held : d.held ≡ c.held

-- a failed call of a stream may have run out of time
abbrev pub loss_of_call : Bool → Loss
loss_of_call late = if late then loss.TimedOut else loss.Closed

-- what a fault of a connection means to the lane
abbrev pub loss_by : Bool → HttpFault → Loss
loss_by late http.Malformed = loss.Unreadable
loss_by late http.HeadLong = loss.Unreadable
loss_by late http.BodyLong = loss.Unreadable
loss_by late http.CodedBody = loss.Unreadable
loss_by late http.BothLengths = loss.Unreadable
loss_by late http.Ended = loss.Closed
loss_by late http.Read = loss_of_call late
loss_by late http.Write = loss_of_call late
loss_by late http.TooManyInterim = loss.Unreadable
loss_by late http.Memory = loss.Memory
loss_by late http.Broken = loss.Closed

-- what the result of writing means to the lane
abbrev pub IsToldWritten : Bool → Result (Unit {0}) HttpFault → Result (Unit {0}) Loss → Type 0
IsToldWritten late (Ok u) result = result ≡ Ok u
IsToldWritten late (Err f) result = result ≡ Err (loss_by late f)

-- the request with these writes was written on a connection as far as it could be, and the lane gets the result
pub record WritesOn (host : List ℕ) (ws : List Write) (c d : Connection) (result : Result (Unit {0}) Loss) : Type 0 where
  pub write : Result (Unit {0}) HttpFault
  pub writes : Writes host ws c d write
  pub late : Bool
  pub told : IsToldWritten late write result

-- the request is then outstanding on that connection; after a fault the connection is dropped
abbrev pub out_after : ℕ → Result (Unit {0}) Loss → Connection → List (ℕ × Connection) → List (ℕ × Connection)
out_after number (Ok u) d out = (number, d) ∷ out
out_after number (Err f) d out = out

-- sending a request on the connection that was picked
pub record SendsOn {P : Type 0} (number : ℕ) (ws : List Write) (old new : Carrier P) (result : Result (Unit {0}) Loss) : Type 0 where
  pub connection : Connection
  pub picks : Picks old.free new.free old.dialled new.dialled connection
  pub left : Connection
  pub carried : WritesOn old.host ws connection left result
  pub after : new ≡ record old { out = out_after number result left old.out; free = new.free; dialled = new.dialled }

-- no free connection is quiet, and the dial failed
abbrev pub DialFails : {P : Type 0} → Carrier P → Carrier P → Type 0
DialFails old new = new ≡ record old { free = []; failed = one_more old.failed; dialled = one_more old.dialled }

-- No connection was picked: the maximum number of requests is outstanding, or the dial failed, or allocating the window
-- of a fresh connection did.
abbrev pub PicksNone : {P : Type 0} → Carrier P → Carrier P → Result (Unit {0}) Loss → Type 0
PicksNone old new (Ok u) = ⊥
PicksNone old new (Err loss.Refused) = DialFails old new
PicksNone old new (Err loss.Unreachable) = ((old.most ≤ length old.out) × (new ≡ old)) ⊎ DialFails old new
PicksNone old new (Err loss.TimedOut) = DialFails old new
PicksNone old new (Err loss.Closed) = ⊥
PicksNone old new (Err loss.Unreadable) = ⊥
PicksNone old new (Err loss.Memory) = new ≡ record old { free = []; dialled = one_more old.dialled }

-- Sending a request with these writes: it is written on the connection that was picked, if one was.
abbrev pub Sends : {P : Type 0} → ℕ → List Write → Carrier P → Carrier P → Result (Unit {0}) Loss → Type 0
Sends number ws old new result = SendsOn number ws old new result ⊎ PicksNone old new result

-- ---- a reply is received

-- the result of reading a reply from a connection, and the connection afterwards
pub record Reads (c d : Connection) (r : Result HttpReply HttpFault) : Type 0 where
  pub lasts : IsTrue (is_open c.phase)
  pub answer : MatchResult r (λ reply. Took IsReplyMessage (ahead c) (ahead d) (reply_view reply)) (Fails IsReplyMessage (ahead c) d.left)
  pub found : (stream : List ℕ) (there : Begins IsReplyMessage stream) → ahead c ≡ Some stream
      → MatchResult r (λ reply. (reply_view reply ≡ there.value) × (ahead d ≡ Some there.rest)) IsOutside
  pub stated : (stream : List ℕ) (f : HttpFault) → ReplyStates stream f → ahead c ≡ Some stream → MatchResult r (λ reply. ⊥) (IsThatOrOutside f)
  pub long : (stream : List ℕ) → ReplyPasses stream → ahead c ≡ Some stream → MatchResult r (λ reply. ⊥) (IsThatOrOutside http.BodyLong)
  pub phase : d.phase ≡ after_reply r
  pub failed : d.failed ≡ failed_reading r c.failed
  pub written : d.written ≡ c.written

-- what the reply that was read means to the lane
abbrev pub IsTold : Bool → Result HttpReply HttpFault → Result WireReply Loss → Type 0
IsTold late (Ok reply) result = Tells (reply_view reply) result
IsTold late (Err f) result = result ≡ Err (loss_by late f)

-- a connection that may carry further messages is then free, unless bytes beyond the reply were read with it
abbrev pub free_after : Result HttpReply HttpFault → Connection → List Connection → List Connection
free_after (Ok reply) d free = if reply.keep && (length d.held == 0) then free ++ d ∷ [] else free
free_after (Err f) d free = free

-- The far end had the request on a connection before its reply is read, and left the rest of the connection as it was;
-- one that is not described left all of it.
pub record Heard (describes : Bool) (c d : Connection) : Type 0 where
  pub silent : describes ≡ false → d ≡ c
  pub held : d.held ≡ c.held
  pub phase : d.phase ≡ c.phase

-- the reply is read from the connection of the request, and what is returned follows from it by the table of statuses
pub record BringsOn {P : Type 0} (describes : P → Bool) (does : P → P → ℕ → Option (List ℕ) → Option (Option (List ℕ)) → Type 0) (number : ℕ) (old new : Carrier P) (result : Result WireReply Loss) : Type 0 where
  pub connection : Connection
  pub out_on : entry_of number old.out ≡ Some connection
  pub heard : Connection
  pub hears : Heard (describes old.peer) connection heard
  pub done : does old.peer new.peer number connection.written (Some heard.left)
  pub left : Connection
  pub read : Result HttpReply HttpFault
  pub reads : Reads heard left read
  pub late : Bool
  pub told : IsTold late read result
  pub after : new ≡ record old { out = besides number old.out; free = free_after read left old.free; peer = new.peer }

-- an allocation failed at the far end, and the connection is dropped; this is no far end of another process
pub record BringsNone {P : Type 0} (describes : P → Bool) (does : P → P → ℕ → Option (List ℕ) → Option (Option (List ℕ)) → Type 0) (number : ℕ) (old new : Carrier P) (result : Result WireReply Loss) : Type 0 where
  pub described : describes old.peer ≡ true
  pub connection : Connection
  pub out_on : entry_of number old.out ≡ Some connection
  pub done : does old.peer new.peer number connection.written None
  pub memory : result ≡ Err loss.Memory
  pub after : new ≡ record old { out = besides number old.out; peer = new.peer }

-- Receiving the reply to the request with a number.
abbrev pub Brings : {P : Type 0} → (P → Bool) → (P → P → ℕ → Option (List ℕ) → Option (Option (List ℕ)) → Type 0) → ℕ → Carrier P → Carrier P → Result WireReply Loss → Type 0
Brings describes does number old new result = BringsOn describes does number old new result ⊎ BringsNone describes does number old new result

-- ---- what passes over it

-- the result of sending: an error, if the request could not be sent
abbrev pub sent_as : Option Loss → Result (Unit {0}) Loss
sent_as None = Ok tt
sent_as (Some why) = Err why

-- One exchange over the wire: a request that it is given is written, or is not, as `Sends` says, and an answer is what it
-- returned for the reply that it read, as `Brings` says.
abbrev pub Carried : {P : Type 0} → (P → Bool) → (P → P → ℕ → Option (List ℕ) → Option (Option (List ℕ)) → Type 0) → Carrier P → Exchange → Carrier P → Type 0
Carried describes does old (passed.Sends number ws fault) new = Sends number ws old new (sent_as fault)
Carried describes does old (Receives number answer) new = (result : Result WireReply Loss) × (answer ≡ answer_of result) × Brings describes does number old new result

-- ---- the results of private steps

-- a free connection that is quiet, if there is one
abbrev pub FindsFree : List Connection → List Connection → Option Connection → Type 0
FindsFree old new (Some c) = TakesFree old new c × IsTrue (is_open c.phase)
FindsFree old new None = new ≡ []

-- what a dial that failed means to the lane
abbrev pub loss_dialled : DialFault → Loss
loss_dialled dial.Refused = loss.Refused
loss_dialled dial.TimedOut = loss.TimedOut
loss_dialled dial.Unreachable = loss.Unreachable

-- none is free, and the dial failed
abbrev pub DialsNone : List Connection → ℕ → ℕ → ℕ → ℕ → Type 0
DialsNone new failed later before after = (new ≡ []) × (later ≡ one_more failed) × (after ≡ one_more before)

-- a connection is picked, unless the dial failed or allocating a fresh one's window did
abbrev pub PicksOne : List Connection → List Connection → ℕ → ℕ → ℕ → ℕ → Result Connection Loss → Type 0
PicksOne old new failed later before after (Ok c) = Picks old new before after c × IsTrue (is_open c.phase) × (later ≡ failed)
PicksOne old new failed later before after (Err loss.Refused) = DialsNone new failed later before after
PicksOne old new failed later before after (Err loss.Unreachable) = DialsNone new failed later before after
PicksOne old new failed later before after (Err loss.TimedOut) = DialsNone new failed later before after
PicksOne old new failed later before after (Err loss.Closed) = ⊥
PicksOne old new failed later before after (Err loss.Unreadable) = ⊥
PicksOne old new failed later before after (Err loss.Memory) = (new ≡ []) × (later ≡ failed) × (after ≡ one_more before)

-- a reply was read from a connection, which is then free if it may be used again
pub record BringsFrom (connection : Connection) (old new : List Connection) (result : Result WireReply Loss) : Type 0 where
  pub left : Connection
  pub read : Result HttpReply HttpFault
  pub reads : Reads connection left read
  pub late : Bool
  pub told : IsTold late read result
  pub free : new ≡ free_after read left old
