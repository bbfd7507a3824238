-- What a wire takes and returns, and how it shows the outside.
use Rattle.std.specs.Prelude.{◌≡◌, ◌≢◌, ℕ, List, [], ◌∷◌, Bool, IsTrue, Result, Ok, Err, length, ◌==◌, if◌then◌else◌}
use Rattle.relay_action.specs.declared.write.Write.{Write}
use Rattle.relay_results.specs.Numbers.{from_one, from_zero}
use Rattle.relay_results.specs.Outside.{Answer, Items, Whole, Lost, Outside, Event, Sends, Runs, Answers, MayAnswer, after, after_all, AllMayHappen}
use Rattle.relay_lane.specs.declared.wire.WireReply.{WireReply}
use Rattle.relay_lane.specs.declared.wire.WireReply.TheVariants as reply
use Rattle.relay_results.specs.declared.cause.Loss.{Loss}

-- ---- what is answered

-- what a result means to the lane
abbrev pub answer_of : Result WireReply Loss → Answer
answer_of (Ok (reply.Items outcomes)) = Items outcomes.items
answer_of (Ok (reply.Whole status reason)) = Whole status reason
answer_of (Err why) = Lost why

-- a status of the request as a whole is not 200
abbrev pub IsWireReply : Result WireReply Loss → Type 0
IsWireReply (Ok (reply.Items outcomes)) = Unit {0}
IsWireReply (Ok (reply.Whole status reason)) = status ≢ 200
IsWireReply (Err why) = Unit {0}

-- ---- what happens outside meanwhile

-- an item of a request is run, and nothing is sent or answered
abbrev pub IsRun : Event → Type 0
IsRun (Sends ws) = ⊥
IsRun (Runs r) = Unit {0}
IsRun (Answers number a) = ⊥

abbrev pub AreRuns : List Event → Type 0
AreRuns [] = Unit {0}
AreRuns (e ∷ es) = IsRun e × AreRuns es

-- items of requests were run, any number of them, and nothing else happened
pub record RunsOn (o p : Outside) : Type 0 where
  pub events : List Event
  pub runs : AreRuns events
  pub may : AllMayHappen events o
  pub reached : p ≡ after_all events o

-- the writes were sent as one request, and then items were run
pub record SendsOn (ws : List Write) (o p : Outside) : Type 0 where
  pub runs : RunsOn (after (Sends ws) o) p

-- items were run, and then the request with this number was given this answer, an honest one
pub record AnswersOn (number : ℕ) (a : Answer) (o p : Outside) : Type 0 where
  pub before : Outside
  pub runs : RunsOn o before
  pub may : MayAnswer before (from_zero number) a
  pub reached : p ≡ after (Answers (from_zero number) a) before

-- the writes were sent as one request, and it was answered
pub record ExchangesOn (number : ℕ) (ws : List Write) (a : Answer) (o p : Outside) : Type 0 where
  pub between : Outside
  pub sends : SendsOn ws o between
  pub answers : AnswersOn number a between p

-- ---- how a wire shows it

-- this is the number of the next request
abbrev pub IsNext : ℕ → Outside → Type 0
IsNext number o = number ≡ from_one (length o.requests)

-- if the wire describes the outside: each outside that fitted before the call leads to one that fits after it
abbrev pub Shows : {S : Type 0} → Bool → (S → Outside → Type 0) → S → S → (Outside → Outside → Type 0) → Type 0
Shows describes fits old new R = IsTrue describes → (o : Outside) → fits old o → (p : Outside) × fits new p × R o p

-- the same for each outside in which this is the number of the next request
abbrev pub ShowsNext : {S : Type 0} → Bool → (S → Outside → Type 0) → S → S → ℕ → (Outside → Outside → Type 0) → Type 0
ShowsNext describes fits old new number R =
    IsTrue describes → (o : Outside) → fits old o → IsNext number o → (p : Outside) × fits new p × R o p

-- ---- which numbers are outstanding

abbrev pub without : ℕ → List ℕ → List ℕ
without n [] = []
without n (m ∷ ms) = if m == n then ms else m ∷ without n ms
