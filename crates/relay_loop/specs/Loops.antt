-- The stand-in index as the far end of streams in memory.
use Rattle.std.specs.Prelude.{◌≡◌, ◌⊎◌, ℕ, ◌<◌, ◌≤◌, List, [], length, Option, Some, None, Bool, true, false, ◌==◌, IsTrue}
use Rattle.std.specs.List.{list_any}
use Rattle.relay_action.specs.declared.write.Write.{Write}
use Rattle.relay_ndjson.specs.Bulk.{text_of}
use Rattle.relay_results.specs.Outside.{Outside, IsOpening}
use Rattle.relay_index.specs.States.{State}
use Rattle.relay_index.specs.Runs.{Shows}
use Rattle.relay_index.specs.Plans.{Plan, takes}
use Rattle.relay_index.specs.Serving.{Server, under, too_large_text, RunsFirst, Replies}
use Rattle.relay_http.specs.Framing.{reply_limit}
use Rattle.relay_http.specs.WrittenAnswer.{IsAnswerStatus, answer}
use Rattle.relay_http.specs.WrittenRequest.{is_host, request}
use Rattle.relay_wires.specs.Peers.{MayGo}
use Rattle.relay_wires.specs.Carriers.{Carrier}
use Rattle.relay_wires.specs.Telling.{Fits}

-- ---- a stream to it

-- what is left to read, what was written since the index took what was, and how many calls failed
pub record Line : Type 0 where
  pub left : List ℕ
  pub written : List ℕ
  pub failed : ℕ

-- ---- the far end

-- the index and the script under which it runs items, and the numbers whose replies are dropped
pub record Loop : Type 0 where
  pub index : State
  pub script : Plan
  pub lost : List ℕ

-- no reply is to be lost
abbrev pub new_loop : State → Plan → Loop
new_loop index script = record { index = index; script = script; lost = [] }

abbrev pub server : Loop → Server
server w = under w.index w.script

-- the reply to this number is to be dropped
abbrev pub is_lost : ℕ → Loop → Bool
is_lost number w = list_any (λ n. n == number) w.lost

-- an outside fits if it has the versions and the lists of the index
abbrev pub FitsLoop : Loop → Outside → Type 0
FitsLoop w o = Shows o w.index

-- the body with these writes is longer than the script accepts
abbrev pub IsOver : List Write → Server → Type 0
IsOver ws s = takes s.script (length (text_of ws)) ≡ false

-- ---- what is done with a request

-- all writes were run, and this is the answer
pub record Serves (ws : List Write) (old new : Server) (status : ℕ) (text : List ℕ) : Type 0 where
  pub success : status ≡ 200
  pub replies : Replies old ws text new

-- the body was too long, and nothing was run
pub record IsRefused (ws : List Write) (old new : Server) (status : ℕ) (text : List ℕ) : Type 0 where
  pub over : IsOver ws old
  pub failure : status ≡ 413
  pub says : text ≡ too_large_text
  pub stays : new ≡ old

abbrev pub IsServed : List Write → Server → Server → ℕ → List ℕ → Type 0
IsServed ws old new status text = Serves ws old new status text ⊎ IsRefused ws old new status text

-- exactly the first few writes, perhaps none or all, were run
abbrev pub Stops : List Write → Server → Server → Type 0
Stops ws old new = (ran : ℕ) × RunsFirst ran old ws new

-- the answer is left to be read
pub record IsAnswered (lost : Bool) (status : ℕ) (text left : List ℕ) : Type 0 where
  pub status_is : IsAnswerStatus status
  pub size : length text ≤ reply_limit
  pub kept : lost ≡ false
  pub left_is : left ≡ answer status text true

-- nothing is left to be read: the answer is to be lost, or it is too long
pub record IsUnanswered (lost : Bool) (text left : List ℕ) : Type 0 where
  pub why : (lost ≡ true) ⊎ (reply_limit < length text)
  pub left_is : left ≡ []

-- The request with these writes was served, each of them once and in order, or refused as too long and none of them; its
-- answer is left, unless it is to be lost.
pub record Leaves (lost : Bool) (ws : List Write) (old new : Server) (left : List ℕ) : Type 0 where
  pub status : ℕ
  pub text : List ℕ
  pub served : IsServed ws old new status text
  pub leaves : IsAnswered lost status text left ⊎ IsUnanswered lost text left

-- What is done with a request that was written: it is served, and this is left to read; or an allocation failed after
-- exactly the first few of its writes were run. The same replies are to be lost.
abbrev pub DoesLoop : Loop → Loop → ℕ → Option (List ℕ) → Option (Option (List ℕ)) → Type 0
DoesLoop w v number written None =
    (v.lost ≡ w.lost)
    × ((host : List ℕ) (ws : List Write) → IsTrue (is_host host) → MayGo ws → written ≡ Some (request host (text_of ws)) → Stops ws (server w) (server v))
DoesLoop w v number written (Some left) =
    (v.lost ≡ w.lost)
    × ((host : List ℕ) (ws : List Write) → IsTrue (is_host host) → MayGo ws → written ≡ Some (request host (text_of ws))
    → (bytes : List ℕ) × (left ≡ Some bytes) × Leaves (is_lost number w) ws (server w) (server v) bytes)

-- ---- at the start

-- an outside in which nothing was sent fits the wire, and so does each such outside that has the versions and the lists
-- of the index
pub record Opens (w : Carrier Loop) : Type 0 where
  pub opening : Outside
  pub opens : IsOpening opening
  pub fits : Fits FitsLoop w opening
  pub each : (o : Outside) → IsOpening o → Shows o w.peer.index → Fits FitsLoop w o
