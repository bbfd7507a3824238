-- A connection, as its callers see it.
use Rattle.std.specs.Prelude.{◌≡◌, ℕ, List, [], Bool, true, false, Option, Some, None, Result, Ok, Err, if◌then◌else◌}
use Rattle.std.specs.Io.KnownBytes.{prepend_known}
use Rattle.relay_action.specs.Streams.{one_more}
use Rattle.relay_http.specs.declared.fault.HttpFault.{HttpFault}
use Rattle.relay_http.specs.declared.fault.HttpFault.TheVariants as fault
use Rattle.relay_http.specs.declared.phase.Phase.{Phase}
use Rattle.relay_http.specs.declared.phase.Phase.TheVariants as phase
use Rattle.relay_http.specs.declared.reply.HttpReply.{HttpReply}
use Rattle.relay_http.specs.declared.request.HttpRequest.{HttpRequest}

-- the bytes that were read ahead; what the stream has left, what was written to it, and how many of its calls failed;
-- and what the connection may still carry
pub record Connection : Type 0 where
  pub held : List ℕ
  pub left : Option (List ℕ)
  pub written : Option (List ℕ)
  pub failed : ℕ
  pub phase : Phase

-- the bytes to come: those that were read ahead, and those that the stream has left
abbrev pub ahead : Connection → Option (List ℕ)
ahead c = prepend_known c.held c.left

-- no bytes, as far as they are shown
abbrev pub HasNone : Option (List ℕ) → Type 0
HasNone None = Unit {0}
HasNone (Some bytes) = bytes ≡ []

-- nothing unrequested has arrived: no byte was read beyond the messages so far, and the stream shows none that is left
pub record IsQuiet (c : Connection) : Type 0 where
  pub held : c.held ≡ []
  pub left : HasNone c.left

-- what a connection has beside its stream: the bytes that were read ahead, and what it may still carry
pub record Rest : Type 0 where
  pub held : List ℕ
  pub phase : Phase

-- a connection before its first call
abbrev pub fresh : Option (List ℕ) → Option (List ℕ) → ℕ → Connection
fresh left written failed = record { held = []; left = left; written = written; failed = failed; phase = phase.Open }

abbrev pub is_open : Phase → Bool
is_open phase.Open = true
is_open phase.Closing = false
is_open phase.Broken = false

abbrev pub is_broken : Phase → Bool
is_broken phase.Open = false
is_broken phase.Closing = false
is_broken phase.Broken = true

-- The phase after a message that does or does not keep the connection, and the phase after such a request, to which an
-- answer may still be written.
abbrev pub phase_of : Bool → Phase
phase_of keep = if keep then phase.Open else phase.Broken

abbrev pub phase_with : Bool → Phase
phase_with keep = if keep then phase.Open else phase.Closing

-- the phase after reading a reply, after reading a request, and after writing a message
abbrev pub after_reply : Result HttpReply HttpFault → Phase
after_reply (Ok reply) = phase_of reply.keep
after_reply (Err f) = phase.Broken

abbrev pub after_request : Result (Option HttpRequest) HttpFault → Phase
after_request (Ok None) = phase.Open
after_request (Ok (Some request)) = phase_with request.keep
after_request (Err f) = phase.Broken

abbrev pub after_write : Bool → Result (Unit {0}) HttpFault → Phase
after_write keep (Ok _) = phase_of keep
after_write keep (Err f) = phase.Broken

-- whether a read failed
abbrev pub is_read : {A : Type 0} → Result A HttpFault → Bool
is_read (Ok a) = false
is_read (Err fault.Malformed) = false
is_read (Err fault.HeadLong) = false
is_read (Err fault.BodyLong) = false
is_read (Err fault.CodedBody) = false
is_read (Err fault.BothLengths) = false
is_read (Err fault.Ended) = false
is_read (Err fault.Read) = true
is_read (Err fault.Write) = false
is_read (Err fault.TooManyInterim) = false
is_read (Err fault.Memory) = false
is_read (Err fault.Broken) = false

-- whether a write failed
abbrev pub is_write : {A : Type 0} → Result A HttpFault → Bool
is_write (Ok a) = false
is_write (Err fault.Malformed) = false
is_write (Err fault.HeadLong) = false
is_write (Err fault.BodyLong) = false
is_write (Err fault.CodedBody) = false
is_write (Err fault.BothLengths) = false
is_write (Err fault.Ended) = false
is_write (Err fault.Read) = false
is_write (Err fault.Write) = true
is_write (Err fault.TooManyInterim) = false
is_write (Err fault.Memory) = false
is_write (Err fault.Broken) = false

-- the number of failed calls after a call that reads, and after one that writes
abbrev pub failed_reading : {A : Type 0} → Result A HttpFault → ℕ → ℕ
failed_reading result failed = if is_read result then one_more failed else failed

abbrev pub failed_writing : {A : Type 0} → Result A HttpFault → ℕ → ℕ
failed_writing result failed = if is_write result then one_more failed else failed
