-- What a lane's ends show of what it told.
use Rattle.std.specs.Prelude.{◌≡◌, ◌≢◌, ℕ, zero, suc, Bool, true, false, List, [], ◌∷◌, ◌++◌, Option, Some, None}
use Rattle.relay_threads.specs.Told.{Told, AddsNothing}
use Rattle.relay_telling.specs.declared.ending.Ending.{Ending}
use Rattle.relay_telling.specs.declared.lane_tells.ProducerTell.{ProducerTell}
use Rattle.relay_telling.specs.Destinations.{identity, identities}
use Rattle.relay_telling.specs.Endings.{told_in}

-- what was told to a producer, unless some of it was lost
abbrev pub unless_gone : Bool → List Ending → Option Told
unless_gone true told = None
unless_gone false told = Some (told_in told)

abbrev pub shown_by : ProducerTell → Option Told
shown_by end = unless_gone end.gone end.tell.told

-- what was told to the producer at this place; nothing to one that has no end
abbrev pub shown_at : List ProducerTell → ℕ → Option Told
shown_at [] p = None
shown_at (e ∷ es) zero = shown_by e
shown_at (e ∷ es) (suc p) = shown_at es p

-- unless it is lost, this was told besides, by the same end
pub record TellsOne (ending : Ending) (old new : ProducerTell) : Type 0 where
  pub gone : new.gone ≡ false → old.gone ≡ false
  pub told : new.gone ≡ false → new.tell.told ≡ old.tell.told ++ ending ∷ []
  pub same : identity new ≡ identity old

-- what is shown to be told was shown before, without this ending
abbrev pub AddsEnding : Ending → Option Told → Option Told → Type 0
AddsEnding ending old new =
    (all : Told) → new ≡ Some all → (told : List Ending) × (old ≡ Some (told_in told)) × (all ≡ told_in (told ++ ending ∷ []))

-- one producer was told of this ending, and the others of nothing, by the same ends
abbrev pub TellsTo : ℕ → Ending → List ProducerTell → List ProducerTell → Type 0
TellsTo producer ending old new =
    AddsEnding ending (shown_at old producer) (shown_at new producer)
    × ((p : ℕ) → p ≢ producer → AddsNothing (shown_at old p) (shown_at new p))
    × (identities new ≡ identities old)
