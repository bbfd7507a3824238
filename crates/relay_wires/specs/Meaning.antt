-- What an HTTP reply means to a lane.
use Rattle.std.specs.Prelude.{◌≡◌, ◌≢◌, Result, Ok, Err}
use Rattle.relay_lane.specs.declared.wire.WireReply.{WireReply}
use Rattle.relay_lane.specs.declared.wire.WireReply.TheVariants as reply
use Rattle.relay_results.specs.declared.cause.Loss.{Loss}
use Rattle.relay_results.specs.declared.cause.Loss.TheVariants as loss
use Rattle.relay_http.specs.Reply.{Reply}
use Rattle.relay_results.specs.declared.reading.ReplyFault.{ReplyFault}
use Rattle.relay_results.specs.declared.reading.ReplyFault.TheVariants as unread
use Rattle.relay_results.specs.Replies.{IsBulkReply, IsFaultOf, KeepsGiven}

-- The table of statuses: 200 with a readable body means the entries of the body, 200 with any other body means that it
-- could not be read, and any other status means that status, with the reason that the body gives. Reading a body may fail
-- for want of memory.
abbrev pub Tells : Reply → Result WireReply Loss → Type 0
Tells r (Ok (reply.Items outcomes)) = (r.status ≡ 200) × IsBulkReply r.body outcomes.items
Tells r (Ok (reply.Whole status reason)) = (r.status ≢ 200) × (status ≡ r.status) × KeepsGiven r.body reason
Tells r (Err loss.Refused) = ⊥
Tells r (Err loss.Unreachable) = ⊥
Tells r (Err loss.TimedOut) = ⊥
Tells r (Err loss.Closed) = ⊥
Tells r (Err loss.Unreadable) = (r.status ≡ 200) × ((f : ReplyFault) × (f ≢ unread.Memory) × IsFaultOf r.body f)
Tells r (Err loss.Memory) = Unit {0}
