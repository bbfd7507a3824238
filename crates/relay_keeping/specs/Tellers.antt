-- What the thread of a producer and a lane tell, as contracts see them.
use Rattle.std.specs.Prelude.{◌≡◌, ◌⊎◌, ℕ, ◌+◌, Bool, true, false, List, [], ◌∷◌, ◌++◌, Option, Some, None, map}
use Rattle.relay_action.specs.declared.operation.OpName.{OpName}
use Rattle.relay_results.specs.Words.{Mem}
use Rattle.relay_core.specs.declared.success.Success.{Success}
use Rattle.relay_resume.specs.declared.mark.Mark.{Mark}
use Rattle.relay_resume.specs.declared.mark.Place.{Place}
use Rattle.relay_receipts.specs.Ends.{Channel, TellEnd, fresh}
use Rattle.relay_keeping.specs.declared.told.Told.{Told}
use Rattle.relay_keeping.specs.Histories.{names_in, places_in}

-- what was told by an end, if there is one, in order
abbrev pub said_at : Option (TellEnd Told) → List (Option Told)
said_at None = []
said_at (Some e) = map Some e.told

-- the channel of an end, and its position there
abbrev pub seat : Option (TellEnd Told) → Option (Channel Told × ℕ)
seat None = None
seat (Some e) = Some (e.channel, e.lane)

-- ---- producers

-- the end by which a producer's thread tells, if anybody keeps marks; where its input is read from; the places that it has
-- not sent yet; and whether it has told all that it was to tell
pub record InputState : Type 0 where
  pub end : Option (TellEnd Told)
  pub start : Mark
  pub batch : List Place
  pub is_whole : Bool

-- the places that it told, and those that it has not sent yet
abbrev pub places_of : InputState → List Place
places_of v = places_in (said_at v.end) ++ v.batch

-- the same end, of the same input
abbrev pub SameInput : InputState → InputState → Type 0
SameInput old new = (seat new.end ≡ seat old.end) × (new.start ≡ old.start)

-- one more place, unless something failed
abbrev pub AddsPlace : Bool → Place → List Place → List Place → Type 0
AddsPlace true place old new = new ≡ old ++ place ∷ []
AddsPlace false place old new = (new ≡ old) ⊎ (new ≡ old ++ place ∷ [])

-- This place was added to the places; after a failure none is any more.
pub record PutsPlace (place : Place) (old new : InputState) : Type 0 where
  pub adds : old.is_whole ≡ true → AddsPlace new.is_whole place (places_of old) (places_of new)
  pub stays : old.is_whole ≡ false → (places_of new ≡ places_of old) × (new.is_whole ≡ false)

-- ---- lanes

-- the end by which a lane tells, if anybody keeps marks; and the names that it was given, of operations that were
-- applied and of those whose reports were saved, each in order
pub record LaneState : Type 0 where
  pub end : Option (TellEnd Told)
  pub applied : List OpName
  pub saved : List OpName

-- the names that it told as settled
abbrev pub names_of : LaneState → List OpName
names_of v = names_in (said_at v.end)

abbrev pub name_of : Success → OpName
name_of success = success.name

-- an end told these names besides, or none
abbrev pub MaySay : List OpName → Option (TellEnd Told) → Option (TellEnd Told) → Type 0
MaySay names old new = (names_in (said_at new) ≡ names_in (said_at old)) ⊎ (names_in (said_at new) ≡ names_in (said_at old) ++ names)

abbrev pub MayTell : List OpName → LaneState → LaneState → Type 0
MayTell names old new = MaySay names old.end new.end

-- Each operation that it told as settled was given to it as applied, or as one whose report was saved.
abbrev pub TellsOnly : LaneState → Type 0
TellsOnly v = (name : OpName) → Mem name (names_of v) → Mem name v.applied ⊎ Mem name v.saved

-- after the report of an operation, given whether it could not be saved
abbrev pub after_report : Bool → OpName → List OpName → List OpName
after_report true name saved = saved
after_report false name saved = saved ++ name ∷ []

-- the names that are told after a report: none if it could not be saved
abbrev pub reported_names : Bool → OpName → List OpName
reported_names true name = []
reported_names false name = name ∷ []

-- ---- the ends of a new channel

-- a producer's end, by which nothing was told
pub record IsNewInput (channel : Channel Told) (producer : ℕ) (mark : Mark) (v : InputState) : Type 0 where
  pub end : v.end ≡ Some (fresh channel producer)
  pub start : v.start ≡ mark
  pub batch : v.batch ≡ []
  pub whole : v.is_whole ≡ true

-- those of the producers from this one on, whose inputs are read from these marks on
abbrev pub AreNewInputs : Channel Told → ℕ → List Mark → List InputState → Type 0
AreNewInputs channel producer [] [] = Unit {0}
AreNewInputs channel producer [] (v ∷ vs) = ⊥
AreNewInputs channel producer (m ∷ ms) [] = ⊥
AreNewInputs channel producer (m ∷ ms) (v ∷ vs) = IsNewInput channel producer m v × AreNewInputs channel (producer + 1) ms vs

-- a lane's end, by which nothing was told
abbrev pub new_lane : Channel Told → ℕ → LaneState
new_lane channel teller = record { end = Some (fresh channel teller); applied = []; saved = [] }

-- those of the lanes that tell by the ends from this one on
abbrev pub AreNewLanes : Channel Told → ℕ → List LaneState → Type 0
AreNewLanes channel teller [] = Unit {0}
AreNewLanes channel teller (v ∷ vs) = (v ≡ new_lane channel teller) × AreNewLanes channel (teller + 1) vs
