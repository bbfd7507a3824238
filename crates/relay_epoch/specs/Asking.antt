-- One request for an epoch on a stream, and repeated ones.
use Rattle.std.specs.Prelude.{◌≡◌, ◌⊎◌, ℕ, zero, suc, ◌<◌, List, [], ◌∷◌, length, take, Option, Some, Result, Ok, Err, MatchResult, IsTrue}
use Rattle.std.specs.Io.KnownBytes.{append_known}
use Rattle.relay_action.specs.Streams.{one_more}
use Rattle.relay_http.specs.Forms.{Begins, IsOutside, Took}
use Rattle.relay_http.specs.Forms as forms
use Rattle.relay_http.specs.Connection.{Connection, ahead, fresh, HasNone, failed_reading}
use Rattle.relay_http.specs.Listening.{Shown, shown_by}
use Rattle.relay_http.specs.Reply.{IsReplyMessage, reply_view}
use Rattle.relay_http.specs.declared.fault.HttpFault.{HttpFault}
use Rattle.relay_http.specs.declared.fault.HttpFault.TheVariants as http
use Rattle.relay_http.specs.declared.reply.HttpReply.{HttpReply}
use Rattle.relay_epoch.specs.Answers.{Tells}
use Rattle.relay_epoch.specs.Faults.{is_passing}
use Rattle.relay_epoch.specs.declared.fault.EpochFault.{EpochFault}
use Rattle.relay_epoch.specs.declared.fault.EpochFault.TheVariants as fault

-- the result of reading a reply from a connection, and the connection afterwards
pub record ReadsReply (c d : Connection) (r : Result HttpReply HttpFault) : Type 0 where
  pub answer : MatchResult r (λ reply. Took IsReplyMessage (ahead c) (ahead d) (reply_view reply)) (forms.Fails IsReplyMessage (ahead c) d.left)
  pub found : (stream : List ℕ) (there : Begins IsReplyMessage stream) → ahead c ≡ Some stream → MatchResult r (λ reply. reply_view reply ≡ there.value) IsOutside
  pub failed : d.failed ≡ failed_reading r c.failed
  pub written : d.written ≡ c.written

-- what a fault of reading the reply means: an allocation failed, or there is no whole reply
abbrev pub heard_fault : HttpFault → EpochFault
heard_fault http.Malformed = fault.Unreachable
heard_fault http.HeadLong = fault.Unreachable
heard_fault http.BodyLong = fault.Unreachable
heard_fault http.CodedBody = fault.Unreachable
heard_fault http.BothLengths = fault.Unreachable
heard_fault http.Ended = fault.Unreachable
heard_fault http.Read = fault.Unreachable
heard_fault http.Write = fault.Unreachable
heard_fault http.TooManyInterim = fault.Unreachable
heard_fault http.Memory = fault.Memory
heard_fault http.Broken = fault.Unreachable

-- the epoch by what was read: what the reply says, or why there is none
abbrev pub Hears : Result HttpReply HttpFault → Result ℕ EpochFault → Type 0
Hears (Ok reply) r = Tells reply.status reply.body.items r
Hears (Err f) r = r ≡ Err (heard_fault f)

-- a reply was read, and heard
pub record HearsFrom (c d : Connection) (r : Result ℕ EpochFault) : Type 0 where
  pub read : Result HttpReply HttpFault
  pub reads : ReadsReply c d read
  pub hears : Hears read r

-- the reply on a stream was heard; or a connection over it could not be allocated
abbrev pub HearsOn : Shown → Shown → Result ℕ EpochFault → Type 0
HearsOn before after r =
    ((d : Connection) × HearsFrom (fresh before.left before.written before.failed) d r × (after ≡ shown_by d.left d.written d.failed))
    ⊎ ((r ≡ Err fault.Memory) × (after ≡ before))

-- a stream to which this was written
abbrev pub and_written : List ℕ → Shown → Shown
and_written text s = record s { written = append_known s.written text }

-- a write failed, and a part of the message was written, less than all of it
pub record IsCut (message : List ℕ) (before after : Shown) (r : Result ℕ EpochFault) : Type 0 where
  pub is : r ≡ Err fault.Unreachable
  pub sent : ℕ
  pub part : sent < length message
  pub left : after.left ≡ before.left
  pub written : after.written ≡ append_known before.written (take sent message)
  pub failed : after.failed ≡ one_more before.failed

-- one request on a stream: the message was written and the reply to it heard, or it was cut
abbrev pub Asks : List ℕ → Shown → Shown → Result ℕ EpochFault → Type 0
Asks message before after r = HearsOn (and_written message before) after r ⊎ IsCut message before after r

-- ---- repeated requests

-- one request on some fresh stream
abbrev pub AskedOn : {S : Type 0} → (S → Option (List ℕ)) → (S → Option (List ℕ)) → (S → ℕ) → List ℕ → Result ℕ EpochFault → Type 0
AskedOn {S} left written failed message r =
    (s : S) × (t : S) × HasNone (written s)
    × Asks message (shown_by (left s) (written s) (failed s)) (shown_by (left t) (written t) (failed t)) r

-- one try: a request on a fresh stream, or no stream could be opened
abbrev pub Tried : {S : Type 0} → (S → Option (List ℕ)) → (S → Option (List ℕ)) → (S → ℕ) → List ℕ → Result ℕ EpochFault → Type 0
Tried left written failed message r = AskedOn left written failed message r ⊎ (r ≡ Err fault.Unreachable)

-- each of these tries had a fault that may pass
abbrev pub AllPassing : {S : Type 0} → (S → Option (List ℕ)) → (S → Option (List ℕ)) → (S → ℕ) → List ℕ → List EpochFault → Type 0
AllPassing left written failed message [] = Unit {0}
AllPassing left written failed message (f ∷ fs) = IsTrue (is_passing f) × Tried left written failed message (Err f) × AllPassing left written failed message fs

-- so many calls more; the count saturates at 2^64 - 1
abbrev pub more_by : ℕ → ℕ → ℕ
more_by zero n = n
more_by (suc k) n = one_more (more_by k n)

-- The result of the last of several tries. Those before it had faults that may pass, and each was one call of the dial.
pub record Leases {S : Type 0} (left written : S → Option (List ℕ)) (failed : S → ℕ) (message : List ℕ) (before after : ℕ) (r : Result ℕ EpochFault) : Type 0 where
  pub earlier : List EpochFault
  pub passed : AllPassing left written failed message earlier
  pub last : Tried left written failed message r
  pub calls : after ≡ one_more (more_by (length earlier) before)
