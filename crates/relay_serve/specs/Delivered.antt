-- What is promised of all that the workers of a server put, and of what they told their clients.
use Rattle.std.specs.Prelude.{◌≡◌, ℕ, Bool, List, length, Option}
use Rattle.relay_results.specs.Outside.{Outside}
use Rattle.relay_core.specs.declared.config.RelayConfig.{RelayConfig}
use Rattle.relay_lane.specs.Exchanges.{Exchange}
use Rattle.relay_producer.specs.declared.ends.ClosedEnd.{ClosedEnd}
use Rattle.relay_queue.specs.Ends.{Queue}
use Rattle.relay_receipts.specs.Ends.{TakeEnd}
use Rattle.relay_threads.specs.declared.summary.LaneSummary.{LaneSummary}
use Rattle.relay_threads.specs.DeliveryOfAll.{AllDelivered}
use Rattle.relay_threads.specs.Relay.{NoneOut}
use Rattle.relay_threads.specs.Together.{AreDeliveredTogether}
use Rattle.relay_telling.specs.declared.ending.Ending.{Ending}
use Rattle.relay_telling.specs.declared.lane_tells.LaneTells.{LaneTells}
use Rattle.relay_front.specs.declared.face.Face.{Face}
use Rattle.relay_serve.specs.Acknowledged.{AllAcknowledged}
use Rattle.relay_serve.specs.Answering.{Answering, AreRemembered, Visit, WorkersAnswered, requests_of}
use Rattle.relay_serve.specs.Serving.{Request, WorkersSettled, HaveSamePuts, ops_of}

-- Each worker served some connections and answered their calls, one after another: each response is the one to its request where
-- just the writes that were settled for it are, and end so; or it was answered, with the same status and the same text, as a call of
-- one of the workers that asked for the same, byte for byte, and for which writes were settled. It took from its channel what was taken for them, which is what these
-- ends show; and each lane delivered exactly what was put for them on its documents: lane by lane, and all lanes together. Whatever
-- requests the workers settled by which they put and took just this: how their writes ended is what the lanes told of those very
-- operations, and is true.
pub record IsDelivered {W : Type 0} (describes : W → Bool) (fits : W → Outside → Type 0) (carries : W → Exchange → W → Type 0) (out : W → List ℕ) (face : Face) (index : Option (List ℕ)) (c : RelayConfig) (receipts : List (TakeEnd Ending)) (lanes : List (LaneSummary W)) : Type 0 where
  pub queues : List Queue
  pub workers : length receipts ≡ c.producers
  pub visits : ℕ → List Visit
  pub answers : ℕ → List Answering
  pub answered : WorkersAnswered face index queues c.epoch visits answers 0 receipts
  pub remembered : AreRemembered c.producers answers
  pub settled : WorkersSettled queues c.epoch (λ p. requests_of (answers p)) 0 receipts
  pub rows : List (List ClosedEnd)
  pub wires : List W
  pub none_out : NoneOut out wires
  pub delivered : AllDelivered describes fits carries c (ops_of c.epoch (λ p. requests_of (answers p))) rows 0 wires lanes
  pub together : AreDeliveredTogether describes fits c (ops_of c.epoch (λ p. requests_of (answers p))) wires lanes
  pub first : List LaneTells
  pub last : List LaneTells
  pub acknowledged : (others : ℕ → List Request) → WorkersSettled queues c.epoch others 0 receipts → HaveSamePuts c.producers (λ p. requests_of (answers p)) others
      → AllAcknowledged describes fits carries c others rows 0 wires first last lanes
