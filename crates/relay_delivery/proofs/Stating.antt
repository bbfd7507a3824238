-- Delivery over an index that states the stored version in each conflict.
use Rattle.std.proofs.Common.{◌≡◌, ◌+◌, ◌<◌, ℕ, List, refl, sym, subst, inr}
use Rattle.relay_action.specs.declared.write.Write.{Write}
use Rattle.relay_action.specs.declared.operation.Op.{Op}
use Rattle.relay_results.specs.Words.{Mem}
use Rattle.relay_results.specs.Outside.{Outside}
use Rattle.relay_delivery.specs.Machine.{Config, Core}
use Rattle.relay_delivery.specs.Lane.{State, FitsFrom}
use Rattle.relay_delivery.specs.Reach.{Reached}
use Rattle.relay_delivery.specs.Explained.{Explains}
use Rattle.relay_delivery.specs.Stating.{StatesVersions, IsNewBeside, CameAboutBeside, SoundIfStated, CompleteIfStated, BeginsBeside, ExplainedIsSoundIfStated, ExplainedIsCompleteIfStated}
use Rattle.relay_delivery.proofs.Facts.{Past, TellsOwn, CoreFacts}
use Rattle.relay_delivery.proofs.Keeps.{fresh_facts, steps_keep}
use Rattle.relay_delivery.proofs.Whole.{sound, complete}
use Rattle.relay_delivery.proofs.Fitting.{new_core, new_is_new, sound_from, complete_from}
use Rattle.relay_delivery.proofs.Explained.{explained_from}

-- no request is of the past, and the versions from before are none that the lane assigns
abbrev pub others_past : Config → Past
others_past g = record { writes = λ w. ⊥; versions = λ u. (place : ℕ) → place < g.deals → u ≡ g.first + place → ⊥ }

pub facts_beside : (g : Config) (c : Core) → CameAboutBeside g c → CoreFacts g (others_past g) c
facts_beside g c r =
    subst (λ d. CoreFacts g (others_past g) d) r.reached
    (steps_keep g (others_past g) r.steps r.start
    (fresh_facts g (others_past g) (λ w m. m) r.start r.fresh.new (λ k u e place within same. r.fresh.others k u place e within same))
    r.may)

pub tells_if_stated : (g : Config) (c : Core) → StatesVersions c.outside → TellsOwn g (others_past g) c.outside.runs
tells_if_stated g c states = inr ((λ u place other within e. other place within e), states)

pub sound_if_stated : SoundIfStated
sound_if_stated g c r states distinct = sound g (others_past g) (λ w m. m) c (facts_beside g c r) distinct

pub complete_if_stated : CompleteIfStated
complete_if_stated g c r states distinct none = complete g (others_past g) (λ w m. m) c (facts_beside g c r) distinct (tells_if_stated g c states) none

-- ---- what explains the calls of a lane

pub fits_if_stated : (s : State) (taken : List Op) (r : Reached s taken) (o p : Outside) → BeginsBeside s.config o → Explains r.calls o p → FitsFrom IsNewBeside s taken p
fits_if_stated s taken r o p begins x =
    explained_from IsNewBeside (λ g c came. (facts_beside g c came).in_rise) s taken r o p begins.opening (record { new = new_is_new o begins.opening; others = begins.others }) x

pub explained_sound_if_stated : ExplainedIsSoundIfStated
explained_sound_if_stated s taken r o p begins x states distinct =
    let f = fits_if_stated s taken r o p begins x in
    sound_from IsNewBeside others_past (λ g w m. m) s taken p f (facts_beside s.config f.core f.came_about) distinct

pub explained_complete_if_stated : ExplainedIsCompleteIfStated
explained_complete_if_stated s taken r o p begins x states distinct none =
    let f = fits_if_stated s taken r o p begins x in
    complete_from IsNewBeside others_past (λ g w m. m) s taken p f (facts_beside s.config f.core f.came_about)
    (tells_if_stated s.config f.core (subst (λ q. StatesVersions q) (sym f.outside) states)) distinct none
