-- What is promised of all that the producers of a relay put.
use Rattle.std.specs.Prelude.{◌≡◌, ◌+◌, ◌<◌, ◌≤◌, ℕ, Bool, IsTrue, List, [], ◌∷◌}
use Rattle.relay_action.specs.declared.operation.Op.{Op}
use Rattle.relay_results.specs.Outside.{Outside, IsOpening}
use Rattle.relay_delivery.specs.Delivery.{taken_of}
use Rattle.relay_core.specs.declared.config.RelayConfig.{RelayConfig}
use Rattle.relay_lane.specs.Exchanges.{Exchange}
use Rattle.relay_producer.specs.declared.ends.ClosedEnd.{ClosedEnd}
use Rattle.relay_producer.specs.Ends.{closed_puts}
use Rattle.relay_producer.specs.Puts.{ops_for, HasPut}
use Rattle.relay_producer.specs.States.{ClosedProducerState}
use Rattle.relay_threads.specs.declared.summary.LaneSummary.{LaneSummary}
use Rattle.relay_threads.specs.Course.{puts_of, IsBelow}
use Rattle.relay_threads.specs.Ending.{FinishedLane, IsExplained, IsExplainedIfStated, LeadsTo}
use Rattle.relay_delivery.specs.Machine.{first_in}

-- the producers numbered p, p + 1 and so on put exactly these operations
abbrev pub HavePut : (ℕ → List Op) → ℕ → List ClosedProducerState → Type 0
HavePut puts p [] = Unit {0}
HavePut puts p (c ∷ cs) = HasPut p c.put (closed_puts c.ends) (puts p) × HavePut puts (p + 1) cs

module _ {W : Type 0} (describes : W → Bool) (fits : W → Outside → Type 0) (carries : W → Exchange → W → Type 0) (c : RelayConfig) (puts : ℕ → List Op) (rows : List (List ClosedEnd)) where
  -- What a lane has delivered that has finished (`FinishedLane`): the operations of the messages that it took are exactly
  -- those on its documents that the producers put, each producer's in order. For each outside that explains the calls by
  -- which it reached its summary, delivery of these operations is sound and complete, whatever wire carried them, if the
  -- versions that were stored at the start are below those of the lane, or if the outside states the stored version in each
  -- conflict and none of them is one that the lane assigns. Each opening that fitted the wire at the start is continued to
  -- the end by an outside that explains these calls, for which delivery is sound and complete.
  pub record DeliveredLane (lane : ℕ) (start : W) (s : LaneSummary W) : Type 0 where
    pub finished : FinishedLane describes fits carries c rows lane start s
    pub own : (p : ℕ) → p < c.producers → taken_of (puts_of finished.messages) p ≡ ops_for c.lanes lane (puts p)
    pub no_other : (p : ℕ) → c.producers ≤ p → taken_of (puts_of finished.messages) p ≡ []
    pub explained : IsExplained describes fits carries c start (puts_of finished.messages) s finished.reached
    pub explained_if_stated : IsExplainedIfStated describes fits carries c start (puts_of finished.messages) s finished.reached
    pub delivers : IsTrue (describes start) → (o : Outside) → fits start o → IsOpening o → IsBelow (first_in c.epoch) o → LeadsTo describes fits carries c (puts_of finished.messages) finished.reached.reached.calls s o

  -- this holds for the lanes from this one on, each with its wire
  abbrev pub AllDelivered : ℕ → List W → List (LaneSummary W) → Type 0
  AllDelivered lane [] [] = Unit {0}
  AllDelivered lane [] (s ∷ ss) = ⊥
  AllDelivered lane (w ∷ ws) [] = ⊥
  AllDelivered lane (w ∷ ws) (s ∷ ss) = DeliveredLane lane w s × AllDelivered (lane + 1) ws ss
