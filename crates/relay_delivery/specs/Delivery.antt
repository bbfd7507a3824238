-- What is promised about the operations that a lane took.
use Rattle.std.specs.Prelude.{◌≡◌, ◌⊎◌, ℕ, ◌+◌, ◌-◌, ◌<◌, ◌≤◌, List, [], ◌∷◌, ◌++◌, Option, Some, None, option_to_list, slice_get, nat_lt, if◌then◌else◌, map, filter, length}
use Rattle.relay_action.specs.declared.write.Write.{Write}
use Rattle.relay_action.specs.declared.operation.Op.{Op}
use Rattle.relay_action.specs.declared.operation.OpName.{OpName}
use Rattle.relay_results.specs.Words.{Mem, AllDistinct}
use Rattle.relay_results.specs.Documents.{Document, document_of, name_of, write_for}
use Rattle.relay_results.specs.Outside.{Request, Outside, IsOpening, Continues}
use Rattle.relay_delivery.specs.Attribution.{IsAttribution, IsInProducerOrder, is_from}
use Rattle.relay_delivery.specs.Causes.{Terms, IsAssignment, IsTrueCause}
use Rattle.relay_delivery.specs.Machine.{Config, fewest, version_at, Held, Place, Core, Report, Step, step, MayStep, IsFresh, CameAbout}

-- ---- sound

-- what the lane took from a producer, in order
abbrev pub taken_of : List Op → ℕ → List Op
taken_of taken p = filter (is_from p) taken

abbrev pub terms_of : Config → List Op → Terms
terms_of g taken = record { max = fewest g; deals = g.deals; taken = length taken }

-- a report names an operation that was taken, and its cause is true
pub record IsTrueReport (g : Config) (taken : List Op) (s : Outside) (versions : Op → Option ℕ) (r : Report) : Type 0 where
  pub op : Op
  pub was_taken : Mem op taken
  pub name : r.name ≡ name_of op
  pub document : r.document ≡ document_of op.key
  pub cause : IsTrueCause (terms_of g taken) s op (versions op) r.cause

abbrev pub names_of : List Report → List OpName
names_of reports = map (λ (r : Report). r.name) reports

-- the version of the operation at a place of what was taken, if one was left for it
abbrev pub assigned_at : Config → ℕ → Option ℕ
assigned_at g place = if nat_lt place g.deals then Some (version_at g place) else None

-- The writes applied to each document are those of distinct operations that were taken, each producer's in order;
-- each report has a true cause, by one assignment of versions, which follows the places of what was taken; and no
-- operation is reported twice.
pub record IsSound (g : Config) (taken : List Op) (reports : List Report) (s : Outside) (ops : Document → List Op) : Type 0 where
  pub attribution : (k : Document) → IsAttribution (taken_of taken) k (s.applied k) (ops k)
  pub in_order : (k : Document) → IsInProducerOrder (taken_of taken) (ops k)
  pub versions : Op → Option ℕ
  pub assignment : IsAssignment versions
  pub assigned : (place : ℕ) (o : Op) → slice_get taken place ≡ Some o → versions o ≡ assigned_at g place
  pub true_reports : (r : Report) → Mem r reports → IsTrueReport g taken s versions r
  pub once : AllDistinct (names_of reports)

-- ---- complete

-- each operation that was taken was applied, or is reported
abbrev pub IsComplete : List Op → List Report → (Document → List Op) → Type 0
IsComplete taken reports ops = (o : Op) → Mem o taken → Mem o (ops (document_of o.key)) ⊎ Mem (name_of o) (names_of reports)

-- ---- the promise

-- the operations of writes: a version gives the place at which its operation was taken
abbrev pub ops_of : ℕ → List Op → List Write → List Op
ops_of first taken [] = []
ops_of first taken (w ∷ ws) = option_to_list (slice_get taken (w.version - first)) ++ ops_of first taken ws

-- the operations of the writes applied to a document
abbrev pub applied_ops : Config → List Op → Outside → Document → List Op
applied_ops g taken s k = ops_of g.first taken (s.applied k)

-- no two operations that were taken have the same name
abbrev pub HasDistinctNames : List Op → Type 0
HasDistinctNames taken = AllDistinct (map name_of taken)

-- after any steps from a fresh lane, delivery is sound
abbrev pub SoundAlways : Type 0
SoundAlways =
    (g : Config) (c : Core) → CameAbout g c → HasDistinctNames c.taken →
    IsSound g c.taken c.reports c.outside (applied_ops g c.taken c.outside)

-- and by the same attribution delivery is complete if nothing is held
abbrev pub CompleteAtTheEnd : Type 0
CompleteAtTheEnd =
    (g : Config) (c : Core) → CameAbout g c → HasDistinctNames c.taken → c.held ≡ [] →
    IsComplete c.taken c.reports (applied_ops g c.taken c.outside)

-- each operation that was taken is held, ended as applied, or was reported
abbrev pub HasTotals : Core → Type 0
HasTotals c = length c.held + (c.applied + c.already) + length c.reports ≡ length c.taken

abbrev pub TotalAlways : Type 0
TotalAlways = (g : Config) (c : Core) → CameAbout g c → HasTotals c

-- each write that was sent is that of an operation that was taken, with the version assigned for
-- its place
pub record IsDealtWrite (g : Config) (taken : List Op) (w : Write) : Type 0 where
  pub op : Op
  pub place : ℕ
  pub was_taken : slice_get taken place ≡ Some op
  pub within : place < g.deals
  pub write : w ≡ write_for op (version_at g place)

abbrev pub WritesAreDealt : Type 0
WritesAreDealt =
    (g : Config) (c : Core) → CameAbout g c → (q : Request) → Mem q c.outside.requests → (w : Write) → Mem w q.writes →
    IsDealtWrite g c.taken w

-- a held operation in flight is the earliest that is held of its document
abbrev pub EarliestFlies : Type 0
EarliestFlies =
    (g : Config) (c : Core) → CameAbout g c → (h j : Held) (f : Place) → Mem h c.held → Mem j c.held → h.flies ≡ Some f →
    document_of j.op.key ≡ document_of h.op.key → h.version ≤ j.version

-- so two operations of the same document in flight are one and the same
abbrev pub OneFlies : Type 0
OneFlies =
    (g : Config) (c : Core) → CameAbout g c → (h j : Held) (f k : Place) → Mem h c.held → Mem j c.held →
    h.flies ≡ Some f → j.flies ≡ Some k → document_of j.op.key ≡ document_of h.op.key → h ≡ j

-- the outside came about from an opening, by events that may happen
abbrev pub ContinuesAlways : Type 0
ContinuesAlways = (g : Config) (c : Core) → CameAbout g c → (s : Outside) × IsOpening s × Continues s c.outside

-- ---- what comes about

-- a fresh lane is reachable
abbrev pub FreshCameAbout : Type 0
FreshCameAbout = (g : Config) (c : Core) → IsFresh g c → CameAbout g c

-- and so is the state after any step from a reachable one
abbrev pub StepCameAbout : Type 0
StepCameAbout = (g : Config) (c : Core) (s : Step) → CameAbout g c → MayStep s c → CameAbout g (step g s c)
