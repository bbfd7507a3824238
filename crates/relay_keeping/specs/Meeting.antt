-- The marks that were given, met with what the producers and the lanes told.
use Rattle.std.specs.Prelude.{◌≡◌, ◌⊎◌, ℕ, ◌+◌, ◌<◌, List, [], ◌∷◌, ◌++◌, Option, Some, None, length, map, slice_get}
use Rattle.relay_action.specs.declared.operation.OpName.{OpName}
use Rattle.relay_results.specs.Words.{Mem}
use Rattle.relay_resume.specs.declared.mark.Mark.{Mark}
use Rattle.relay_resume.specs.declared.mark.Place.{Place}
use Rattle.relay_resume.specs.Trails.{after}
use Rattle.relay_receipts.specs.declared.notice.Notice.{Notice}
use Rattle.relay_receipts.specs.Ends.{Channel, TellEnd}
use Rattle.relay_receipts.specs.Notices.{said_by, says}
use Rattle.relay_keeping.specs.declared.told.Told.{Told}
use Rattle.relay_keeping.specs.Tellers.{InputState, LaneState, places_of, seat}

-- these tell by the ends of this channel from this one on
abbrev pub AreSeated : Channel Told → ℕ → List (Option (TellEnd Told)) → Type 0
AreSeated channel teller [] = Unit {0}
AreSeated channel teller (e ∷ es) = (seat e ≡ Some (channel, teller)) × AreSeated channel (teller + 1) es

abbrev pub input_ends : List InputState → List (Option (TellEnd Told))
input_ends vs = map (λ (v : InputState). v.end) vs

-- where their inputs are read from
abbrev pub input_starts : List InputState → List Mark
input_starts vs = map (λ (v : InputState). v.start) vs

abbrev pub lane_ends : List LaneState → List (Option (TellEnd Told))
lane_ends vs = map (λ (v : LaneState). v.end) vs

-- what was taken of an end is the front of what it said
abbrev pub IsMet : List (Notice Told) → Option (TellEnd Told) → Type 0
IsMet taken None = ⊥
IsMet taken (Some e) = (rest : List (Option Told)) × (says e.told e.closed ≡ said_by e.lane taken ++ rest)

abbrev pub AllMet : List (Notice Told) → List (Option (TellEnd Told)) → Type 0
AllMet taken [] = Unit {0}
AllMet taken (e ∷ es) = IsMet taken e × AllMet taken es

-- this operation was told as settled by a lane, which was given it as applied, or as one whose report was saved
pub record IsSettledBy (producer number : ℕ) (lanes : List LaneState) : Type 0 where
  pub lane : LaneState
  pub is_lane : Mem lane lanes
  pub name : OpName
  pub is_producer : name.producer ≡ producer
  pub is_number : name.number ≡ number
  pub given : Mem name lane.applied ⊎ Mem name lane.saved

-- The mark is the place after the first operations of this producer's input, so many: their places are the first that the
-- producer put, and each of them was applied, or its report was saved, as a lane was given.
pub record IsFounded (inputs : List InputState) (lanes : List LaneState) (given : ℕ × Mark) : Type 0 where
  pub input : InputState
  pub is_input : slice_get inputs given.0 ≡ Some input
  pub done : List Place
  pub rest : List Place
  pub puts : places_of input ≡ done ++ rest
  pub settled : (n : ℕ) → n < length done → IsSettledBy given.0 (n + 1) lanes
  pub mark : given.1 ≡ after input.start done

-- each of them is
abbrev pub AllFounded : List InputState → List LaneState → List (ℕ × Mark) → Type 0
AllFounded inputs lanes given = (g : ℕ × Mark) → Mem g given → IsFounded inputs lanes g
