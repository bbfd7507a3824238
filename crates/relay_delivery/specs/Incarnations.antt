-- What is promised about all accepted operations, over any number of incarnations.
use Rattle.std.specs.Prelude.{◌≡◌, ◌⊎◌, ℕ, ◌+◌, ◌-◌, ◌<◌, List, [], ◌∷◌, ◌++◌, Option, Some, option_to_list, slice_get, Bool, ◌==◌, ◌&&◌, nat_lt, nat_le, filter, if◌then◌else◌}
use Rattle.relay_action.specs.declared.write.Write.{Write}
use Rattle.relay_action.specs.declared.operation.Op.{Op}
use Rattle.relay_results.specs.Words.{Mem, AllDistinct}
use Rattle.relay_results.specs.Documents.{Document, document_of, name_of}
use Rattle.relay_results.specs.Outside.{Answer, Request, RunOutcome, Outside, IsOpening, Continues, MayRun, MayAnswer}
use Rattle.relay_results.specs.Laws.{RunsItem}
use Rattle.relay_delivery.specs.Attribution.{IsAttribution, IsInProducerOrder, AreByEpoch, is_in}
use Rattle.relay_delivery.specs.Causes.{IsAssignment, IsTrueCause}
use Rattle.relay_delivery.specs.Machine.{Config, Report}
use Rattle.relay_delivery.specs.Delivery.{terms_of, names_of, assigned_at}
use Rattle.relay_delivery.specs.Lanes.{IsFinished}
use Rattle.relay_delivery.specs.Together.{Origin, Together, Act, Plain, SendsFrom, RunsAt, AnswersAt, run_at, act, MayAct, IsFreshTogether, outside_of}
use Rattle.relay_delivery.specs.Stating.{StatesVersions, StoresOthers}
use Rattle.relay_delivery.specs.Restarts.{Incarnation, with_running, after_restart, IsOfNow, IsAbove, CameAboutTogether}

-- ---- what was accepted

-- what was accepted from a producer, in all incarnations
abbrev pub accepted_over : List Incarnation → ℕ → List Op
accepted_over [] p = []
accepted_over (i ∷ is) p = i.accepted p ++ accepted_over is p

-- what was accepted from a producer in the incarnation with this epoch; nothing if there was no such incarnation
abbrev pub accepted_in : List Incarnation → ℕ → ℕ → List Op
accepted_in [] e p = []
accepted_in (i ∷ is) e p = if i.config.epoch == e then i.accepted p else accepted_in is e p

-- ---- whose writes were applied

-- an incarnation with this config may have assigned the version
abbrev pub deals_version : Config → ℕ → Bool
deals_version g v = nat_le g.first v && nat_lt v (g.first + g.deals)

-- the operation to which a lane assigned a version, in the incarnation that assigned it
abbrev pub op_dealt : List Incarnation → ℕ → ℕ → List Op
op_dealt [] l v = []
op_dealt (i ∷ is) l v = if deals_version i.config v then option_to_list (slice_get (i.taken l) (v - i.config.first)) else op_dealt is l v

-- the operations of a lane's writes
abbrev pub ops_over : List Incarnation → ℕ → List Write → List Op
ops_over is l [] = []
ops_over is l (w ∷ ws) = op_dealt is l w.version ++ ops_over is l ws

-- the operations of the writes applied to a document
abbrev pub attributed_together : Config → (Document → ℕ) → List Incarnation → Together → Document → List Op
attributed_together g lane_of ended s k = ops_over (with_running ended g s) (lane_of k) ((outside_of lane_of s).applied k)

-- ---- what is promised

abbrev pub reports_of : Together → ℕ → List Report
reports_of s l = (s.lanes.lane l).reports

-- a report of a lane names an operation of that lane that was accepted in this incarnation, and its cause is true for
-- all requests and runs
pub record IsTrueTogether (g : Config) (lane_of : Document → ℕ) (s : Together) (versions : Op → Option ℕ) (l : ℕ) (r : Report) : Type 0 where
  pub op : Op
  pub producer : ℕ
  pub was_accepted : Mem op (s.lanes.accepted producer)
  pub of_lane : lane_of (document_of op.key) ≡ l
  pub name : r.name ≡ name_of op
  pub document : r.document ≡ document_of op.key
  pub cause : IsTrueCause (terms_of g (s.lanes.lane l).taken) (outside_of lane_of s) op (versions op) r.cause

-- Over all incarnations the writes applied to each document are those of distinct accepted operations, in each
-- incarnation each producer's in order, and those of an earlier incarnation before those of every later one. In the
-- last incarnation each report has a true cause, by one assignment of versions, the same for all lanes; and no
-- operation is reported twice.
pub record IsSoundTogether (g : Config) (lane_of : Document → ℕ) (ended : List Incarnation) (s : Together) (ops : Document → List Op) : Type 0 where
  pub attribution : (k : Document) → IsAttribution (accepted_over (with_running ended g s)) k ((outside_of lane_of s).applied k) (ops k)
  pub in_order : (k : Document) (e : ℕ) → IsInProducerOrder (accepted_in (with_running ended g s) e) (filter (is_in e) (ops k))
  pub by_epoch : (k : Document) → AreByEpoch (ops k)
  pub versions : Op → Option ℕ
  pub assignment : IsAssignment versions
  pub assigned : (l place : ℕ) (o : Op) → slice_get (s.lanes.lane l).taken place ≡ Some o → versions o ≡ assigned_at g place
  pub true_reports : (l : ℕ) (r : Report) → Mem r (reports_of s l) → IsTrueTogether g lane_of s versions l r
  pub once : (l : ℕ) → AllDistinct (names_of (reports_of s l))
  pub in_one_lane : (l m : ℕ) (r q : Report) → Mem r (reports_of s l) → Mem q (reports_of s m) → r.name ≡ q.name → l ≡ m

-- each operation accepted in the last incarnation was applied, or is reported by its lane
abbrev pub IsCompleteTogether : (Document → ℕ) → Together → (Document → List Op) → Type 0
IsCompleteTogether lane_of s ops =
    (p : ℕ) (o : Op) → Mem o (s.lanes.accepted p) →
    Mem o (ops (document_of o.key)) ⊎ Mem (name_of o) (names_of (reports_of s (lane_of (document_of o.key))))

-- whatever the index had stored
abbrev pub SoundTogether : Type 0
SoundTogether =
    (stored : Document → Option ℕ) (g : Config) (lane_of : Document → ℕ) (ended : List Incarnation) (s : Together) →
    CameAboutTogether stored g lane_of ended s → IsSoundTogether g lane_of ended s (attributed_together g lane_of ended s)

-- the config of the first incarnation
abbrev pub first_of : List Incarnation → Config → Config
first_of [] g = g
first_of (i ∷ is) g = i.config

-- each version that was stored at the start is below the first one that a lane assigned
abbrev pub StoredAreBelow : (Document → Option ℕ) → List Incarnation → Config → Type 0
StoredAreBelow stored ended g = (k : Document) (version : ℕ) → stored k ≡ Some version → version < (first_of ended g).first

abbrev pub CompleteTogether : Type 0
CompleteTogether =
    (stored : Document → Option ℕ) (g : Config) (lane_of : Document → ℕ) (ended : List Incarnation) (s : Together) →
    CameAboutTogether stored g lane_of ended s → StoredAreBelow stored ended g → IsFinished s.lanes →
    IsCompleteTogether lane_of s (attributed_together g lane_of ended s)

-- or no such version is one that a lane of the last incarnation assigns, and each conflict states the stored version
abbrev pub CompleteTogetherIfStated : Type 0
CompleteTogetherIfStated =
    (stored : Document → Option ℕ) (g : Config) (lane_of : Document → ℕ) (ended : List Incarnation) (s : Together) →
    CameAboutTogether stored g lane_of ended s → StoresOthers g stored → StatesVersions (outside_of lane_of s) →
    IsFinished s.lanes → IsCompleteTogether lane_of s (attributed_together g lane_of ended s)

-- ---- what comes about

abbrev pub FreshTogether : Type 0
FreshTogether =
    (stored : Document → Option ℕ) (g : Config) (lane_of : Document → ℕ) (s : Together) → IsFreshTogether stored s →
    CameAboutTogether stored g lane_of [] s

abbrev pub ActTogether : Type 0
ActTogether =
    (stored : Document → Option ℕ) (g : Config) (lane_of : Document → ℕ) (ended : List Incarnation) (s : Together) (a : Act) →
    CameAboutTogether stored g lane_of ended s → MayAct g a s → IsOfNow ended a →
    CameAboutTogether stored g lane_of ended (act g lane_of a s)

abbrev pub RestartTogether : Type 0
RestartTogether =
    (stored : Document → Option ℕ) (g new : Config) (lane_of : Document → ℕ) (ended : List Incarnation) (s : Together) →
    CameAboutTogether stored g lane_of ended s → IsAbove g new →
    CameAboutTogether stored new lane_of (with_running ended g s) (after_restart s)

-- each request has an origin, and what may happen outside all lanes may happen in the lane of its origin
pub record HappensInLanes (g : Config) (lane_of : Document → ℕ) (s : Together) : Type 0 where
  pub origin : (i : ℕ) (q : Request) → slice_get s.sent i ≡ Some q → (from : Origin) × (slice_get s.origins i ≡ Some from)
  pub runs : (i place : ℕ) (o : RunOutcome) (from : Origin) → slice_get s.origins i ≡ Some from →
      MayRun (outside_of lane_of s) (run_at i place o) → MayAct g (RunsAt i place o from) s
  pub answers : (i : ℕ) (a : Answer) (old : ℕ → Bool) (from : Origin) → slice_get s.origins i ≡ Some from →
      MayAnswer (outside_of lane_of s) i a → MayAct g (AnswersAt i a old from) s

abbrev pub TogetherMay : Type 0
TogetherMay =
    (stored : Document → Option ℕ) (g : Config) (lane_of : Document → ℕ) (ended : List Incarnation) (s : Together) →
    CameAboutTogether stored g lane_of ended s → HappensInLanes g lane_of s

-- a run of one lane's item is one step of the common outside, and changes nothing for any other document
abbrev pub TogetherRuns : Type 0
TogetherRuns =
    (stored : Document → Option ℕ) (g : Config) (lane_of : Document → ℕ) (ended : List Incarnation) (s : Together)
    (i place : ℕ) (o : RunOutcome) (from : Origin) →
    CameAboutTogether stored g lane_of ended s → MayAct g (RunsAt i place o from) s →
    (w : Write) × RunsItem (outside_of lane_of s) (outside_of lane_of (act g lane_of (RunsAt i place o from) s)) (run_at i place o) w

-- the common outside came about, by events that may happen, from an opening with these versions stored
pub record ContinuesOpening (stored : Document → Option ℕ) (s : Outside) : Type 0 where
  pub start : Outside
  pub opening : IsOpening start
  pub found : (k : Document) → start.stored k ≡ stored k
  pub continues : Continues start s

abbrev pub TogetherContinues : Type 0
TogetherContinues =
    (stored : Document → Option ℕ) (g : Config) (lane_of : Document → ℕ) (ended : List Incarnation) (s : Together) →
    CameAboutTogether stored g lane_of ended s → ContinuesOpening stored (outside_of lane_of s)

-- ---- whose names are kept

-- the attribution of writes is changed only by a run of an item that applies its write: then the write's operation is
-- added at the end
abbrev pub RunsNone : Act → Type 0
RunsNone (Plain m) = Unit {0}
RunsNone (SendsFrom l chosen) = Unit {0}
RunsNone (RunsAt request place o from) = ⊥
RunsNone (AnswersAt request a old from) = Unit {0}

abbrev pub ActsKeepNames : Type 0
ActsKeepNames =
    (stored : Document → Option ℕ) (g : Config) (lane_of : Document → ℕ) (ended : List Incarnation) (s : Together) (a : Act)
    (k : Document) → CameAboutTogether stored g lane_of ended s → MayAct g a s → RunsNone a →
    attributed_together g lane_of ended (act g lane_of a s) k ≡ attributed_together g lane_of ended s k

abbrev pub RestartsKeepNames : Type 0
RestartsKeepNames =
    (stored : Document → Option ℕ) (g new : Config) (lane_of : Document → ℕ) (ended : List Incarnation) (s : Together)
    (k : Document) → CameAboutTogether stored g lane_of ended s →
    attributed_together new lane_of (with_running ended g s) (after_restart s) k ≡ attributed_together g lane_of ended s k
