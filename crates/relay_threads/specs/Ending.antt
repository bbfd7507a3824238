-- What is promised of a relay whose lanes have ended.
use Rattle.std.specs.Prelude.{◌≡◌, ◌+◌, ◌<◌, ◌≤◌, ℕ, Bool, IsTrue, List, [], ◌∷◌, map, length}
use Rattle.relay_action.specs.declared.operation.Op.{Op}
use Rattle.relay_action.specs.declared.mail.Mail.{Mail}
use Rattle.relay_results.specs.Outside.{Outside, IsOpening, Continues}
use Rattle.relay_delivery.specs.Counts.{applied_answers, settled_already}
use Rattle.relay_delivery.specs.Delivery.{HasDistinctNames, IsSound, IsComplete, applied_ops}
use Rattle.relay_delivery.specs.Explained.{Explains}
use Rattle.relay_delivery.specs.Stating.{BeginsBeside, StatesVersions}
use Rattle.relay_delivery.specs.Lane as delivery
use Rattle.relay_delivery.specs.Reach.{Call, Reached}
use Rattle.relay_queue.specs.Ends.{Queue}
use Rattle.relay_queue.specs.Messages.{mail_of, HasDone, IsWellTaken}
use Rattle.relay_core.specs.declared.config.RelayConfig.{RelayConfig}
use Rattle.relay_core.specs.State.{config_of}
use Rattle.relay_core.specs.Walk.{report_of}
use Rattle.relay_lane.specs.Exchanges.{Exchange, Passes}
use Rattle.relay_producer.specs.declared.ends.ClosedEnd.{ClosedEnd}
use Rattle.relay_threads.specs.declared.fault.FinishFault.{FinishFault}
use Rattle.relay_threads.specs.declared.lane_end.LaneEnd.{LaneEnd}
use Rattle.relay_threads.specs.declared.lane_end.LaneEndKind.TheVariants.{Finished}
use Rattle.relay_threads.specs.declared.summary.LaneSummary.{LaneSummary}
use Rattle.relay_threads.specs.Course.{puts_of, IsBelow, EndsAs}
use Rattle.relay_threads.specs.Faults.{IsFaultOf}
use Rattle.relay_threads.specs.Sums.{AreMetAt}
use Rattle.relay_delivery.specs.Machine.{first_in}

module _ {W : Type 0} (describes : W → Bool) (fits : W → Outside → Type 0) (carries : W → Exchange → W → Type 0) (c : RelayConfig) where
  -- ---- how the lanes ended

  -- this is how a lane that began with this queue and this wire has ended
  pub record EndsOn (queue : Queue) (start : W) (end : LaneEnd W) : Type 0 where
    pub of_queue : end.taken.queue ≡ queue
    pub well_taken : IsWellTaken (c.producers + 1) end.taken.taken
    pub ends : EndsAs (describes start) fits carries start end.wire c end.taken.taken end.kind end.lane.state
    pub closed : end.kind ≡ Finished → (sender : ℕ) → sender < c.producers + 1 → HasDone (mail_of sender end.taken.taken)

  -- this holds for all lanes, in order
  abbrev pub AllEndOn : List Queue → List W → List (LaneEnd W) → Type 0
  AllEndOn [] [] [] = Unit {0}
  AllEndOn [] [] (e ∷ es) = ⊥
  AllEndOn [] (w ∷ ws) es = ⊥
  AllEndOn (q ∷ qs) [] es = ⊥
  AllEndOn (q ∷ qs) (w ∷ ws) [] = ⊥
  AllEndOn (q ∷ qs) (w ∷ ws) (e ∷ es) = EndsOn q w e × AllEndOn qs ws es

  -- ---- faults

  -- the lanes have ended, with this fault
  pub record HasFault (queues : List Queue) (wires : List W) (rows : List (List ClosedEnd)) (fault : FinishFault) : Type 0 where
    pub ends : List (LaneEnd W)
    pub ended : AllEndOn queues wires ends
    pub tells : IsFaultOf ends rows fault.kind fault.lane

  -- ---- delivery

  -- An outside fits the wire of the summary, continues the one before, and explains these calls of the lane. For it
  -- delivery of these operations is sound and complete, and the summary's counts are those of the requests that were sent
  -- and of the operations that ended as applied, and as already applied, by their answers.
  pub record LeadsTo (ops : List Op) (calls : List Call) (s : LaneSummary W) (before : Outside) : Type 0 where
    pub outside : Outside
    pub fitting : fits s.wire outside
    pub continues : Continues before outside
    pub explains : Explains calls before outside
    pub requests : s.requests ≡ length outside.requests
    pub applied : s.applied ≡ applied_answers outside.requests
    pub already : s.already ≡ settled_already outside.requests
    pub sound : IsSound (config_of c) ops (map report_of s.reports.items) outside (applied_ops (config_of c) ops outside)
    pub complete : IsComplete ops (map report_of s.reports.items) (applied_ops (config_of c) ops outside)

  -- For this outside delivery of these operations is sound and complete.
  pub record IsDeliveredFor (ops : List Op) (s : LaneSummary W) (p : Outside) : Type 0 where
    pub sound : IsSound (config_of c) ops (map report_of s.reports.items) p (applied_ops (config_of c) ops p)
    pub complete : IsComplete ops (map report_of s.reports.items) (applied_ops (config_of c) ops p)

  -- The lane reached this summary by calls that it may make, which took these operations, whatever its wire returned:
  -- nothing is held, and the counts and the reports are those to which the calls led. What passed over its wire, from the
  -- one at the start to that of the summary, is exactly what these calls say: each answer is what the wire returned.
  pub record CameTo (start : W) (ops : List Op) (s : LaneSummary W) : Type 0 where
    pub state : delivery.State
    pub reached : Reached state ops
    pub passes : Passes carries reached.calls 0 start s.requests s.wire
    pub config : state.config ≡ config_of c
    pub none_held : state.held ≡ []
    pub taken : s.taken ≡ state.taken
    pub applied : s.applied ≡ state.applied
    pub already : s.already ≡ state.already
    pub requests : s.requests ≡ state.requests
    pub reports : map report_of s.reports.items ≡ state.reports

  -- For each outside that explains, from an opening on, the calls by which the lane reached its summary, delivery is
  -- sound and complete, whatever wire carried its requests and their answers.
  abbrev pub IsExplained : (start : W) (ops : List Op) (s : LaneSummary W) → CameTo start ops s → Type 0
  IsExplained start ops s came = (o p : Outside) → IsOpening o → IsBelow (first_in c.epoch) o → Explains came.reached.calls o p → IsDeliveredFor ops s p

  -- The same for an outside that states the stored version in each conflict. Then the versions that it has stored at the
  -- start may be any but those that the lane assigns, and need not be below them.
  abbrev pub IsExplainedIfStated : (start : W) (ops : List Op) (s : LaneSummary W) → CameTo start ops s → Type 0
  IsExplainedIfStated start ops s came = (o p : Outside) → BeginsBeside (config_of c) o → Explains came.reached.calls o p → StatesVersions p → IsDeliveredFor ops s p

  -- A lane that has finished took from its queue exactly what each sender sent there, each of which has closed and
  -- has not marked the lane. Each operation that it took was applied or is reported, and it reached that by calls
  -- that it may make, and that are what passed over its wire. Each outside that explains these calls is one for which
  -- delivery is sound and complete, if its stored versions were below those of the lane, or if it states them in
  -- conflicts. Each opening that fitted the wire at the start is continued to the end by an outside that explains these
  -- calls.
  pub record FinishedLane (rows : List (List ClosedEnd)) (lane : ℕ) (start : W) (s : LaneSummary W) : Type 0 where
    pub messages : List Mail
    pub met : AreMetAt lane 0 messages rows
    pub no_other : (sender : ℕ) → length rows ≤ sender → mail_of sender messages ≡ []
    pub taken : s.taken ≡ length (puts_of messages)
    pub totals : s.applied + s.already + length s.reports.items ≡ s.taken
    pub reached : CameTo start (puts_of messages) s
    pub explained : HasDistinctNames (puts_of messages) → IsExplained start (puts_of messages) s reached
    pub explained_if_stated : HasDistinctNames (puts_of messages) → IsExplainedIfStated start (puts_of messages) s reached
    pub delivers : HasDistinctNames (puts_of messages) → IsTrue (describes start) → (o : Outside) → fits start o → IsOpening o → IsBelow (first_in c.epoch) o → LeadsTo (puts_of messages) reached.reached.calls s o

  -- this holds for the lanes from this one on, each with its wire
  abbrev pub AllFinished : List (List ClosedEnd) → ℕ → List W → List (LaneSummary W) → Type 0
  AllFinished rows lane [] [] = Unit {0}
  AllFinished rows lane [] (s ∷ ss) = ⊥
  AllFinished rows lane (w ∷ ws) [] = ⊥
  AllFinished rows lane (w ∷ ws) (s ∷ ss) = FinishedLane rows lane w s × AllFinished rows (lane + 1) ws ss
