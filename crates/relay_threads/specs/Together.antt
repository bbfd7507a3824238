-- What is promised of all that the producers of a relay put: one record over all its lanes, each with its own
-- outside.
use Rattle.std.specs.Prelude.{◌≡◌, ◌≢◌, ◌⊎◌, ℕ, zero, suc, Bool, IsTrue, nat_lt, if◌then◌else◌, List, [], ◌∷◌, Option, Some, slice_get, map, length}
use Rattle.relay_action.specs.declared.operation.Op.{Op}
use Rattle.relay_results.specs.Words.{Mem, AllDistinct}
use Rattle.relay_results.specs.Documents.{Document, document_of, lane_of, name_of}
use Rattle.relay_results.specs.Outside.{Outside, IsOpening, Continues}
use Rattle.relay_delivery.specs.Attribution.{IsAttribution, IsInProducerOrder}
use Rattle.relay_delivery.specs.Causes.{IsAssignment, IsTrueCause}
use Rattle.relay_delivery.specs.Counts.{applied_answers, settled_already}
use Rattle.relay_delivery.specs.Delivery.{taken_of, terms_of, names_of, assigned_at}
use Rattle.relay_delivery.specs.Machine.{Report, first_in}
use Rattle.relay_core.specs.declared.config.RelayConfig.{RelayConfig}
use Rattle.relay_core.specs.State.{config_of}
use Rattle.relay_core.specs.Walk.{report_of}
use Rattle.relay_producer.specs.Puts.{ops_for}
use Rattle.relay_threads.specs.declared.summary.LaneSummary.{LaneSummary}
use Rattle.relay_threads.specs.Course.{IsBelow}

-- ---- what was put, and what is reported

-- what each producer put; no other sender put anything
abbrev pub ops_by : RelayConfig → (ℕ → List Op) → ℕ → List Op
ops_by c puts p = if nat_lt p c.producers then puts p else []

-- the reports of a lane; none beyond the last lane
abbrev pub reports_at : {W : Type 0} → List (LaneSummary W) → ℕ → List Report
reports_at [] l = []
reports_at (s ∷ ss) zero = map report_of s.reports.items
reports_at (s ∷ ss) (suc l) = reports_at ss l

-- a report of a lane names an operation of that lane that a producer put
pub record IsOnPut (c : RelayConfig) (puts : ℕ → List Op) (l : ℕ) (r : Report) : Type 0 where
  pub op : Op
  pub producer : ℕ
  pub was_put : Mem op (ops_by c puts producer)
  pub of_lane : lane_of c.lanes (document_of op.key) ≡ l
  pub name : r.name ≡ name_of op
  pub document : r.document ≡ document_of op.key

-- Whatever the wires returned: each report names an operation of its lane that a producer put, and no operation is
-- reported twice, by one lane or by two.
pub record AreReportedOnce {W : Type 0} (c : RelayConfig) (puts : ℕ → List Op) (lanes : List (LaneSummary W)) : Type 0 where
  pub named : (l : ℕ) (r : Report) → Mem r (reports_at lanes l) → IsOnPut c puts l r
  pub once : (l : ℕ) → AllDistinct (names_of (reports_at lanes l))
  pub in_one_lane : (l m : ℕ) (r q : Report) → Mem r (reports_at lanes l) → Mem q (reports_at lanes m) → r.name ≡ q.name → l ≡ m

-- ---- the outside of a lane

-- before its lane begins, the outside is an opening that fits the wire, and each stored version is below the first one
-- assigned
pub record BeginsBeside {W : Type 0} (describes : W → Bool) (fits : W → Outside → Type 0) (c : RelayConfig) (start : W) (before : Outside) : Type 0 where
  pub is_described : IsTrue (describes start)
  pub fitting : fits start before
  pub opening : IsOpening before
  pub below : IsBelow (first_in c.epoch) before

-- after its lane has ended, the outside fits the wire of the summary and continues what it was, and the summary's
-- counts are those of the requests that were sent and of the operations that ended as applied, and as already applied,
-- by their answers
pub record EndsBeside {W : Type 0} (fits : W → Outside → Type 0) (s : LaneSummary W) (before after : Outside) : Type 0 where
  pub fitting : fits s.wire after
  pub continues : Continues before after
  pub requests : s.requests ≡ length after.requests
  pub applied : s.applied ≡ applied_answers after.requests
  pub already : s.already ≡ settled_already after.requests

-- ---- what is promised

-- a report of a lane names an operation of that lane that a producer put, and its cause is true for the lane's
-- requests and runs
pub record IsTrueTogether (c : RelayConfig) (puts : ℕ → List Op) (taken : ℕ → List Op) (after : ℕ → Outside) (versions : Op → Option ℕ) (l : ℕ) (r : Report) : Type 0 where
  pub on_put : IsOnPut c puts l r
  pub cause : IsTrueCause (terms_of (config_of c) (taken l)) (after l) on_put.op (versions on_put.op) r.cause

-- Over all lanes the writes applied to each document are those of distinct operations that were put, each producer's
-- in order; they were sent by the document's lane, and no other lane's outside has one. Each report has a true cause,
-- by one assignment of versions, the same for all lanes.
pub record IsSoundTogether {W : Type 0} (c : RelayConfig) (puts : ℕ → List Op) (lanes : List (LaneSummary W)) (taken : ℕ → List Op) (after : ℕ → Outside) (ops : Document → List Op) : Type 0 where
  pub attribution : (k : Document) → IsAttribution (ops_by c puts) k ((after (lane_of c.lanes k)).applied k) (ops k)
  pub in_order : (k : Document) → IsInProducerOrder (ops_by c puts) (ops k)
  pub no_other_lane : (l : ℕ) (k : Document) → lane_of c.lanes k ≢ l → (after l).applied k ≡ []
  pub versions : Op → Option ℕ
  pub assignment : IsAssignment versions
  pub assigned : (l place : ℕ) (o : Op) → slice_get (taken l) place ≡ Some o → versions o ≡ assigned_at (config_of c) place
  pub true_reports : (l : ℕ) (r : Report) → Mem r (reports_at lanes l) → IsTrueTogether c puts taken after versions l r

-- each operation that was put was applied, or is reported by its lane
abbrev pub IsCompleteTogether : {W : Type 0} → RelayConfig → (ℕ → List Op) → List (LaneSummary W) → (Document → List Op) → Type 0
IsCompleteTogether c puts lanes ops =
    (p : ℕ) (o : Op) → Mem o (ops_by c puts p) →
    Mem o (ops (document_of o.key)) ⊎ Mem (name_of o) (names_of (reports_at lanes (lane_of c.lanes (document_of o.key))))

-- these outsides, one for each lane, led to others for which delivery over all lanes is sound and complete
pub record DeliversTogether {W : Type 0} (fits : W → Outside → Type 0) (c : RelayConfig) (puts : ℕ → List Op) (lanes : List (LaneSummary W)) (taken : ℕ → List Op) (before : ℕ → Outside) : Type 0 where
  pub after : ℕ → Outside
  pub ends : (l : ℕ) (s : LaneSummary W) → slice_get lanes l ≡ Some s → EndsBeside fits s (before l) (after l)
  pub ops : Document → List Op
  pub sound : IsSoundTogether c puts lanes taken after ops
  pub complete : IsCompleteTogether c puts lanes ops

-- There is a summary for each lane. The lane took exactly what the producers put for it, each producer's in order; each
-- report is on one of these operations, and no operation is reported twice. With an outside for each lane that its wire
-- describes, delivery over all lanes is sound and complete.
pub record AreDeliveredTogether {W : Type 0} (describes : W → Bool) (fits : W → Outside → Type 0) (c : RelayConfig) (puts : ℕ → List Op) (wires : List W) (lanes : List (LaneSummary W)) : Type 0 where
  pub all_lanes : length lanes ≡ c.lanes
  pub taken : ℕ → List Op
  pub own : (l p : ℕ) → taken_of (taken l) p ≡ ops_for c.lanes l (ops_by c puts p)
  pub count : (l : ℕ) (s : LaneSummary W) → slice_get lanes l ≡ Some s → s.taken ≡ length (taken l)
  pub reports : AreReportedOnce c puts lanes
  pub delivers : (before : ℕ → Outside) → ((l : ℕ) (start : W) → slice_get wires l ≡ Some start → BeginsBeside describes fits c start (before l)) → DeliversTogether fits c puts lanes taken before
