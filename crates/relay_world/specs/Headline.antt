-- What is promised of the world after every list of events: exactly accounted delivery.
use Rattle.std.specs.Prelude.{◌≡◌, ◌≢◌, ◌⊎◌, ℕ, ◌+◌, ◌<◌, ◌≤◌, nat_lt, List, [], ◌∷◌, ◌++◌, Option, Some, None, option_and_then, slice_get, take, length, true, ◌==◌, ◌&&◌, map, filter, if◌then◌else◌}
use Rattle.relay_action.specs.declared.operation.Op.{Op}
use Rattle.relay_results.specs.Words.{Mem, AllDistinct}
use Rattle.relay_results.specs.Documents.{Document, document_of, name_of}
use Rattle.relay_results.specs.Outside.{Request, RunOutcome, Ran, stored_in, Outside}
use Rattle.relay_index.specs.States as index
use Rattle.relay_delivery.specs.Attribution.{IsAttribution, IsInProducerOrder, AreByEpoch, is_in}
use Rattle.relay_delivery.specs.Incarnations.{accepted_over, accepted_in}
use Rattle.relay_delivery.specs.Causes.{Terms, IsAssignment, IsTrueCause}
use Rattle.relay_delivery.specs.Machine.{Report, first_in, fewest}
use Rattle.relay_delivery.specs.Delivery.{names_of}
use Rattle.relay_core.specs.State.{config_of}
use Rattle.relay_world.specs.State.{Item, Sent, Past, World, opening_version, IsBelow, incarnations, incarnations_of, lane_of, taken_ops, accepted_from, applied_writes, names_at, before_at, reports, writes_of, is_closed, is_finished}

-- ---- outside the lanes

-- a sent request: its writes, and its answer
abbrev pub request_of : World → Sent → Request
request_of w s = record { writes = writes_of w s; answer = s.answer }

-- the outcomes of the runs of an item, in order; requests and places are counted from 0
abbrev pub outcomes_at : ℕ → ℕ → List Ran → List RunOutcome
outcomes_at request place [] = []
outcomes_at request place (r ∷ rs) =
    (if (r.request == request) && (r.place == place) then r.outcome ∷ [] else []) ++ outcomes_at request place rs

abbrev pub runs_of : Option Item → List RunOutcome
runs_of None = []
runs_of (Some i) = i.runs

abbrev pub runs_at : World → ℕ → ℕ → List RunOutcome
runs_at w request place = runs_of (option_and_then (λ (s : Sent). slice_get s.items place) (slice_get w.sent request))

-- all runs, one after another: for each item exactly its own
abbrev pub IsLog : World → List Ran → Type 0
IsLog w log = (request place : ℕ) → outcomes_at request place log ≡ runs_at w request place

abbrev pub outside_of : World → List Ran → Outside
outside_of w log = record {
  requests = map (request_of w) w.sent;
  runs = log;
  stored = λ k. index.stored_version w.index k;
  before = λ k. take (before_at w k) (index.applied_writes w.index k);
  applied = λ k. applied_writes w k;
}

-- ---- true reports

abbrev pub terms_at : World → ℕ → Terms
terms_at w l = record { max = fewest (config_of w.config); deals = w.config.deal; taken = length (taken_ops w l) }

-- The version of the operation at a place of what a lane took: `deal` versions of the epoch are assigned in order,
-- and then none.
abbrev pub version_at : World → ℕ → Option ℕ
version_at w place = if nat_lt place w.config.deal then Some (first_in w.config.epoch + place) else None

-- a report of a lane names an operation of that lane that was accepted since the last restart, and its cause is true
pub record IsTrueReport (w : World) (log : List Ran) (versions : Op → Option ℕ) (l : ℕ) (r : Report) : Type 0 where
  pub op : Op
  pub producer : ℕ
  pub was_accepted : Mem op (accepted_from w producer)
  pub of_lane : lane_of w (document_of op.key) ≡ l
  pub name : r.name ≡ name_of op
  pub document : r.document ≡ document_of op.key
  pub cause : IsTrueCause (terms_at w l) (outside_of w log) op (versions op) r.cause

-- ---- which versions the index may have

-- the epoch of the first incarnation
abbrev pub epoch_of_first : List Past → ℕ → ℕ
epoch_of_first [] epoch = epoch
epoch_of_first (p ∷ ps) epoch = p.epoch

abbrev pub first_epoch : World → ℕ
first_epoch w = epoch_of_first w.ended w.config.epoch

-- each version that the index had at the start is below the first one that a lane assigned
abbrev pub StartsBelow : World → Type 0
StartsBelow w = IsBelow (first_in (first_epoch w)) w.opening

-- none of them is one that a lane assigns in the current epoch
abbrev pub StartsBeside : World → Type 0
StartsBeside w =
    (k : Document) (version place : ℕ) → opening_version w k ≡ Some version → place < w.config.deal →
    version ≢ first_in w.config.epoch + place

-- each run of an item that ended in a conflict stated the stored version
abbrev pub StatesVersions : World → Type 0
StatesVersions w =
    (request place : ℕ) (o : RunOutcome) → Mem o (runs_at w request place) → o.status ≡ 409 →
    (version : ℕ) × (stored_in o.error ≡ Some version)

-- ---- the promise

-- each is above all those before it
abbrev pub AreRising : List ℕ → Type 0
AreRising [] = Unit {0}
AreRising (n ∷ ns) = ((m : ℕ) → Mem m ns → n < m) × AreRising ns

-- each accepted operation was applied, or is reported by its lane
abbrev pub AreAccountedFor : World → (Document → List Op) → Type 0
AreAccountedFor w ops =
    (p : ℕ) (o : Op) → Mem o (accepted_from w p) →
    Mem o (ops (document_of o.key)) ⊎ Mem (name_of o) (names_of (reports w (lane_of w (document_of o.key))))

-- The kept names of a document are those of operations (`named`). These are the operations whose writes the index applied
-- to it, over all incarnations: distinct accepted operations for this document, one for each write and with its action
-- (`attribution`); within each epoch each producer's in the order in which it put them (`in_order`); and those of an
-- earlier epoch before all those of a later one (`by_epoch`). Each incarnation has a higher epoch than those before it
-- (`rising`).
-- In the current incarnation: one assignment of versions, never the same to two operations of one document
-- (`assignment`), is what all lanes assigned (`assigned`); each report names an accepted operation, and its cause is
-- true by that assignment (`true_reports`); and no operation is reported twice, by one lane or by two (`once`,
-- `in_one_lane`). All this holds whatever versions the index had at the start. When the world is finished, each accepted
-- operation was applied or is reported, if the index had only lower versions (`complete`); or if it states the stored
-- version in each conflict, and had none that is assigned now (`complete_if_stated`).
pub record Delivered (w : World) : Type 0 where
  pub log : List Ran
  pub ran : IsLog w log
  pub ops : Document → List Op
  pub named : (k : Document) → map name_of (ops k) ≡ names_at w k
  pub attribution : (k : Document) → IsAttribution (accepted_over (incarnations_of w)) k (applied_writes w k) (ops k)
  pub in_order : (k : Document) (e : ℕ) → IsInProducerOrder (accepted_in (incarnations_of w) e) (filter (is_in e) (ops k))
  pub by_epoch : (k : Document) → AreByEpoch (ops k)
  pub rising : AreRising (map (λ (p : Past). p.epoch) (incarnations w))
  pub versions : Op → Option ℕ
  pub assignment : IsAssignment versions
  pub assigned : (l place : ℕ) (o : Op) → slice_get (taken_ops w l) place ≡ Some o → versions o ≡ version_at w place
  pub true_reports : (l : ℕ) (r : Report) → Mem r (reports w l) → IsTrueReport w log versions l r
  pub once : (l : ℕ) → AllDistinct (names_of (reports w l))
  pub in_one_lane : (l m : ℕ) (r q : Report) → Mem r (reports w l) → Mem q (reports w m) → r.name ≡ q.name → l ≡ m
  pub complete : StartsBelow w → is_finished w ≡ true → AreAccountedFor w ops
  pub complete_if_stated : w.opening.states ≡ true → StartsBeside w → is_finished w ≡ true → AreAccountedFor w ops

-- The epoch did not fall. If it is the same, nothing more was accepted from a producer that had closed, and it stays
-- closed.
pub record StaysClosed (old new : World) : Type 0 where
  pub epoch : old.config.epoch ≤ new.config.epoch
  pub closed : old.config.epoch ≡ new.config.epoch → (p : ℕ) → is_closed old p ≡ true
      → (accepted_from new p ≡ accepted_from old p) × (is_closed new p ≡ true)
