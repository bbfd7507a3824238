-- What is promised of a lane that works on a wire: what passed over it, and delivery if the wire describes the outside.
use Rattle.std.specs.Prelude.{◌≡◌, List, [], Bool, true, false, IsTrue}
use Rattle.relay_action.specs.declared.operation.Op.{Op}
use Rattle.relay_results.specs.Outside.{Outside, Continues}
use Rattle.relay_delivery.specs.Counts.{applied_answers, settled_already}
use Rattle.relay_delivery.specs.Delivery.{HasDistinctNames, IsSound, IsComplete, applied_ops}
use Rattle.relay_delivery.specs.Explained.{Explains}
use Rattle.relay_delivery.specs.Reach.{Call}
use Rattle.relay_core.specs.State.{State}
use Rattle.relay_core.specs.Ties.{Fits}
use Rattle.relay_lane.specs.Turns.{Turn, Worked, after_turn, MayTurn}
use Rattle.relay_lane.specs.Calls.{called_by, called_in}
use Rattle.relay_lane.specs.Exchanges.{Exchange, Passes}

-- Delivery is sound, and complete by the same attribution if nothing is held, provided that no two operations that
-- the lane took have the same name; and what the lane counts as applied, and as already applied, is what the answers
-- to its requests say.
pub record IsDelivered (s : State) (taken : List Op) (o : Outside) : Type 0 where
  pub sound : HasDistinctNames taken → IsSound s.core.config taken s.core.reports o (applied_ops s.core.config taken o)
  pub complete : s.core.held ≡ [] → HasDistinctNames taken → IsComplete taken s.core.reports (applied_ops s.core.config taken o)
  pub applied : s.core.applied ≡ applied_answers o.requests
  pub already : s.core.already ≡ settled_already o.requests

-- There is an outside that fits the wire now, continues the one before, and explains these calls of the lane: it was
-- sent their requests, and gave their answers. It and the lane came about by the same steps, and delivery is as promised.
pub record GoesOn {S : Type 0} (fits : S → Outside → Type 0) (wire : S) (s : State) (taken : List Op) (calls : List Call) (before : Outside) : Type 0 where
  pub outside : Outside
  pub fitting : fits wire outside
  pub continues : Continues before outside
  pub explains : Explains calls before outside
  pub lane : Fits s taken outside
  pub delivered : IsDelivered s taken outside

-- this holds for each outside that fitted the wire and the lane before, if the wire describes it
abbrev pub LeadsOn : {S : Type 0} → Bool → (S → Outside → Type 0) → S → S → State → State → List Call → Type 0
LeadsOn describes fits old new s t calls =
    IsTrue describes → (taken : List Op) (o : Outside) → fits old o → Fits s taken o → GoesOn fits new t taken calls o

-- What passed over the wire meanwhile is what these calls say: what was settled is what the wire returned. And if the
-- wire describes the outside, that explains the calls.
pub record Delivers {S : Type 0} (describes : Bool) (fits : S → Outside → Type 0) (carries : S → Exchange → S → Type 0) (old new : S) (s t : State) (calls : List Call) : Type 0 where
  pub passes : Passes carries calls s.core.requests old t.core.requests new
  pub leads : LeadsOn describes fits old new s t calls

-- the lane has worked like this, and the calls of its turns are what passed over the wire
pub record WorkedOn {S : Type 0} (describes : Bool) (fits : S → Outside → Type 0) (carries : S → Exchange → S → Type 0) (going : Turn → State → Bool) (old new : S) (s t : State) : Type 0 where
  pub worked : Worked going s t
  pub delivers : Delivers describes fits carries old new s t (called_in worked.turns s)

-- the lane took one turn that passes the test, and its calls are what passed over the wire
pub record TookTurn {S : Type 0} (describes : Bool) (fits : S → Outside → Type 0) (carries : S → Exchange → S → Type 0) (going : Turn → State → Bool) (old new : S) (s t : State) : Type 0 where
  pub turn : Turn
  pub goes : going turn s ≡ true
  pub may : MayTurn turn s
  pub reached : t ≡ after_turn turn s
  pub delivers : Delivers describes fits carries old new s t (called_by turn s)

-- or it took none
abbrev pub TookTurnIf : {S : Type 0} → Bool → Bool → (S → Outside → Type 0) → (S → Exchange → S → Type 0) → (Turn → State → Bool) → S → S → State → State → Type 0
TookTurnIf true describes fits carries going old new s t = TookTurn describes fits carries going old new s t
TookTurnIf false describes fits carries going old new s t = (t ≡ s) × Delivers describes fits carries old new s t []
