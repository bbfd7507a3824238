-- What is at the far end of streams, and what it does with a request that was written on one of them.
use Rattle.std.specs.Prelude.{◌≡◌, ℕ, ◌≤◌, List, length, slice_get, Option, Some, None, IsTrue}
use Rattle.relay_action.specs.declared.write.Write.{Write}
use Rattle.relay_ndjson.specs.Bodies.{AreDealt}
use Rattle.relay_ndjson.specs.Bulk.{text_of}
use Rattle.relay_results.specs.declared.outcome.Outcome.{Outcome}
use Rattle.relay_results.specs.Matching.{matches}
use Rattle.relay_results.specs.Numbers.{from_zero}
use Rattle.relay_results.specs.Outside.{Outside, Unanswered, EachWasRun}
use Rattle.relay_results.specs.Replies.{IsBulkReply}
use Rattle.relay_http.specs.Forms.{Took}
use Rattle.relay_http.specs.Framing.{request_limit}
use Rattle.relay_http.specs.Reply.{Reply, IsReplyMessage}
use Rattle.relay_http.specs.WrittenRequest.{is_host, request}
use Rattle.relay_lane.specs.Wires.{RunsOn}

-- ---- a request

-- writes that a request may carry
pub record MayGo (ws : List Write) : Type 0 where
  pub dealt : AreDealt ws
  pub size : length (text_of ws) ≤ request_limit

-- what was written is the request with these writes to this host, as far as the stream shows what was
abbrev pub IsWritten : List ℕ → List Write → Option (List ℕ) → Type 0
IsWritten host ws None = Unit {0}
IsWritten host ws (Some bytes) = bytes ≡ request host (text_of ws)

-- the request with this number was sent with these writes, and not answered
abbrev pub IsOpenAt : ℕ → List Write → Outside → Type 0
IsOpenAt number ws o = slice_get o.requests (from_zero number) ≡ Some (record { writes = ws; answer = Unanswered })

-- the request with this number is open, and it is what was written
pub record IsAsked (number : ℕ) (host : List ℕ) (ws : List Write) (written : Option (List ℕ)) (o : Outside) : Type 0 where
  pub sent : IsOpenAt number ws o
  pub may : MayGo ws
  pub host_is : IsTrue (is_host host)
  pub written_is : IsWritten host ws written

-- ---- its reply

-- A reply of status 200 whose entries match the request has, item by item, the status and the error of a run of that
-- item. Any other reply may come whatever was run.
abbrev pub IsHonestReply : ℕ → List Write → Outside → Reply → Type 0
IsHonestReply number ws o r =
    r.status ≡ 200 → (os : List Outcome) → IsBulkReply r.body os → IsTrue (matches os ws) → EachWasRun o.runs (from_zero number) 0 os

-- Whatever reply is read from what is left, it is honest. A reply that is cut off, or bytes that are no reply, may come
-- whatever was run.
abbrev pub IsHonestLeft : ℕ → List Write → Outside → Option (List ℕ) → Type 0
IsHonestLeft number ws o left = (r : Reply) (rest : Option (List ℕ)) → Took IsReplyMessage left rest r → IsHonestReply number ws o r

-- ---- what the far end does

module _ {P : Type 0} (fits : P → Outside → Type 0) where
  -- Each outside that fits the far end, and in which the request is what was written, leads by runs of requests that were
  -- sent to one that fits it afterwards, and for which this holds.
  abbrev pub RunsThen : P → P → ℕ → Option (List ℕ) → (List Write → Outside → Type 0) → Type 0
  RunsThen old new number written Q =
      (host : List ℕ) (ws : List Write) (o : Outside) → fits old o → IsAsked number host ws written o → (p : Outside) × fits new p × RunsOn o p × Q ws p

  -- what is left to read afterwards is honest
  abbrev pub Serves : P → P → ℕ → Option (List ℕ) → Option (List ℕ) → Type 0
  Serves old new number written left = RunsThen old new number written (λ ws p. IsHonestLeft number ws p left)

  -- some items may have been run, and the stream is gone
  abbrev pub Drops : P → P → ℕ → Option (List ℕ) → Type 0
  Drops old new number written = RunsThen old new number written (λ ws p. Unit {0})
