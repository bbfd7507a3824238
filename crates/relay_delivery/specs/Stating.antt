-- An index that states, in each conflict, the version that it has stored. A lane over it counts nothing that the index did
-- not apply, even if it runs in an old epoch or after another writer: of the versions that are stored at the start, none
-- need be below those that the lane assigns, as long as none is one of them.
use Rattle.std.specs.Prelude.{◌≡◌, ◌≢◌, ◌⊎◌, ℕ, ◌<◌, List, [], Option, Some}
use Rattle.relay_action.specs.declared.operation.Op.{Op}
use Rattle.relay_results.specs.Words.{Mem}
use Rattle.relay_results.specs.Documents.{Document, document_of}
use Rattle.relay_results.specs.Outside.{Ran, stored_in, Outside, IsOpening}
use Rattle.relay_delivery.specs.Machine.{Config, Core, version_at, IsNew, CameAboutFrom}
use Rattle.relay_delivery.specs.Delivery.{HasDistinctNames, IsSound, IsComplete, applied_ops}
use Rattle.relay_delivery.specs.Lane.{State}
use Rattle.relay_delivery.specs.Reach.{Reached}
use Rattle.relay_delivery.specs.Explained.{Explains}

-- each conflict states the stored version
abbrev pub StatesVersions : Outside → Type 0
StatesVersions s = (r : Ran) → Mem r s.runs → r.outcome.status ≡ 409 → (version : ℕ) × (stored_in r.outcome.error ≡ Some version)

-- no version that is stored is one that the lane assigns
abbrev pub StoresOthers : Config → (Document → Option ℕ) → Type 0
StoresOthers g stored = (k : Document) (version place : ℕ) → stored k ≡ Some version → place < g.deals → version ≢ version_at g place

-- nothing was taken and nothing sent, and the stored versions are others
pub record IsNewBeside (g : Config) (c : Core) : Type 0 where
  pub new : IsNew c
  pub others : StoresOthers g c.outside.stored

-- the core came about by steps that may happen, starting from there
abbrev pub CameAboutBeside : Config → Core → Type 0
CameAboutBeside = CameAboutFrom IsNewBeside

-- ---- the promise

-- after any steps delivery is sound, and complete if nothing is held
abbrev pub SoundIfStated : Type 0
SoundIfStated =
    (g : Config) (c : Core) → CameAboutBeside g c → StatesVersions c.outside → HasDistinctNames c.taken →
    IsSound g c.taken c.reports c.outside (applied_ops g c.taken c.outside)

abbrev pub CompleteIfStated : Type 0
CompleteIfStated =
    (g : Config) (c : Core) → CameAboutBeside g c → StatesVersions c.outside → HasDistinctNames c.taken → c.held ≡ [] →
    IsComplete c.taken c.reports (applied_ops g c.taken c.outside)

-- ---- for an outside that explains the calls of a lane

-- nothing was sent at the start, and the stored versions are others
pub record BeginsBeside (g : Config) (o : Outside) : Type 0 where
  pub opening : IsOpening o
  pub others : StoresOthers g o.stored

abbrev pub ExplainedIsSoundIfStated : Type 0
ExplainedIsSoundIfStated =
    (s : State) (taken : List Op) (r : Reached s taken) (o p : Outside) → BeginsBeside s.config o → Explains r.calls o p →
    StatesVersions p → HasDistinctNames taken → IsSound s.config taken s.reports p (applied_ops s.config taken p)

abbrev pub ExplainedIsCompleteIfStated : Type 0
ExplainedIsCompleteIfStated =
    (s : State) (taken : List Op) (r : Reached s taken) (o p : Outside) → BeginsBeside s.config o → Explains r.calls o p →
    StatesVersions p → HasDistinctNames taken → s.held ≡ [] → IsComplete taken s.reports (applied_ops s.config taken p)
