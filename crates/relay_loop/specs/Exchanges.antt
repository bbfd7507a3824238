-- What a wire over HTTP to the stand-in index makes of a request.
use Rattle.std.specs.Prelude.{◌≡◌, ◌⊎◌, ℕ, ◌≤◌, List, [], length, Some, Bool, true, false, IsTrue, Result, Ok, Err}
use Rattle.relay_action.specs.declared.write.Write.{Write}
use Rattle.relay_ndjson.specs.Bulk.{text_of}
use Rattle.relay_results.specs.declared.done.ItemDone.{ItemDone}
use Rattle.relay_results.specs.Done.{outcomes_of, reply_text}
use Rattle.relay_index.specs.Serving.{Server, RunsAll}
use Rattle.relay_http.specs.Connection.{Connection}
use Rattle.relay_http.specs.Framing.{reply_limit}
use Rattle.relay_http.specs.WrittenRequest.{is_host, request}
use Rattle.relay_lane.specs.declared.wire.WireReply.{WireReply}
use Rattle.relay_lane.specs.declared.wire.WireReply.TheVariants as reply
use Rattle.relay_results.specs.declared.cause.Loss.{Loss}
use Rattle.relay_results.specs.declared.cause.Loss.TheVariants as loss
use Rattle.relay_wires.specs.Numbers.{entry_of}
use Rattle.relay_wires.specs.Peers.{MayGo}
use Rattle.relay_wires.specs.Carriers.{Carrier, Brings}
use Rattle.relay_loop.specs.Loops.{Loop, server, is_lost, IsOver, Stops, DoesLoop}

-- no reply came that can be used: all items were run, or the body was too long and nothing was
abbrev pub IsLoss : List Write → Server → Server → Type 0
IsLoss ws old new = ((items : List ItemDone) × RunsAll old ws items new) ⊎ (IsOver ws old × (new ≡ old))

-- The result of a request with these writes. Its entries: all items were run, once each and in order, and these are their
-- outcomes; its answer was not to be lost, and is not too long. 413: the body was too long, and nothing was run. A reply
-- that is lost or cannot be read: either of the two. A failed allocation: exactly the first few items, perhaps none or all, were run. There are no
-- other results.
abbrev pub IsExchange : Bool → List Write → Server → Server → Result WireReply Loss → Type 0
IsExchange lost ws old new (Ok (reply.Items outcomes)) =
    (items : List ItemDone) × RunsAll old ws items new × (outcomes.items ≡ outcomes_of items)
    × (lost ≡ false) × (length (reply_text 0 items) ≤ reply_limit)
IsExchange lost ws old new (Ok (reply.Whole status reason)) = (status ≡ 413) × IsOver ws old × (new ≡ old) × (lost ≡ false)
IsExchange lost ws old new (Err loss.Refused) = ⊥
IsExchange lost ws old new (Err loss.Unreachable) = ⊥
IsExchange lost ws old new (Err loss.TimedOut) = IsLoss ws old new
IsExchange lost ws old new (Err loss.Closed) = IsLoss ws old new
IsExchange lost ws old new (Err loss.Unreadable) = IsLoss ws old new
IsExchange lost ws old new (Err loss.Memory) = Stops ws old new

-- what `receive` returns for a request that was written on its connection, of which no reply was read yet, is its result
abbrev pub ReceivedIsExchange : Type 0
ReceivedIsExchange =
    (number : ℕ) (ws : List Write) (w v : Carrier Loop) (c : Connection) (result : Result WireReply Loss) →
    Brings (λ p. true) DoesLoop number w v result → entry_of number w.out ≡ Some c → c.held ≡ [] →
    IsTrue (is_host w.host) → MayGo ws → c.written ≡ Some (request w.host (text_of ws)) →
    IsExchange (is_lost number w.peer) ws (server w.peer) (server v.peer) result
