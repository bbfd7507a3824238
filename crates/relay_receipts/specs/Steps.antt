-- What each kind of step does to what a pass knows, and what it shows.
use Rattle.std.specs.Prelude.{◌≡◌, ℕ, ◌+◌, ◌<◌, Bool, true, false, List, [], ◌∷◌, ◌++◌, Option, Some, None}
use mathlib.Core.Option.{some}
use lib.ListN.{get_elem?}
use Rattle.relay_receipts.specs.declared.notice.Notice.{Notice}
use Rattle.relay_receipts.specs.declared.rule.ToldList.{ToldList}
use Rattle.relay_receipts.specs.declared.rule.Knowledge.{Knowledge}
use Rattle.relay_receipts.specs.declared.rule.Knowledge.TheVariants.{Lane, Taker, Met}
use Rattle.relay_receipts.specs.Notices.{said_by, says, IsWellTaken}

module _ {T : Type 0} where
  -- ---- the parts of what a pass knows

  -- the pass is a lane's
  abbrev pub IsLane : Knowledge T → Type 0
  IsLane (Lane lane told closed) = Unit {0}
  IsLane (Taker lanes taken met) = ⊥
  IsLane Met = ⊥

  -- the pass is the producer's
  abbrev pub IsTaker : Knowledge T → Type 0
  IsTaker (Lane lane told closed) = ⊥
  IsTaker (Taker lanes taken met) = Unit {0}
  IsTaker Met = ⊥

  -- a lane, what it told, and whether it has closed
  abbrev pub lane_of : Knowledge T → ℕ
  lane_of (Lane lane told closed) = lane
  lane_of (Taker lanes taken met) = 0
  lane_of Met = 0

  abbrev pub told_of : Knowledge T → List T
  told_of (Lane lane told closed) = told
  told_of (Taker lanes taken met) = []
  told_of Met = []

  abbrev pub closed_of : Knowledge T → Bool
  closed_of (Lane lane told closed) = closed
  closed_of (Taker lanes taken met) = false
  closed_of Met = false

  -- the number of lanes whose ends were made, what the producer took, and what the lanes told whose ends it met
  abbrev pub lanes_of : Knowledge T → ℕ
  lanes_of (Lane lane told closed) = 0
  lanes_of (Taker lanes taken met) = lanes
  lanes_of Met = 0

  abbrev pub taken_of : Knowledge T → List (Notice T)
  taken_of (Lane lane told closed) = []
  taken_of (Taker lanes taken met) = taken
  taken_of Met = []

  abbrev pub met_of : Knowledge T → List (ToldList T)
  met_of (Lane lane told closed) = []
  met_of (Taker lanes taken met) = met
  met_of Met = []

  -- ---- the steps

  -- one more ending was told, or that the lane tells no more
  abbrev pub with_said : Knowledge T → Option T → Knowledge T
  with_said (Lane lane told closed) None = Lane lane told true
  with_said (Lane lane told closed) (Some x) = Lane lane (told ++ x ∷ []) closed
  with_said (Taker lanes taken met) said = Taker lanes taken met
  with_said Met said = Met

  -- one more notice was taken
  abbrev pub with_taken : Knowledge T → Notice T → Knowledge T
  with_taken (Lane lane told closed) n = Lane lane told closed
  with_taken (Taker lanes taken met) n = Taker lanes (taken ++ n ∷ []) met
  with_taken Met n = Met

  -- the end of one more lane was made
  abbrev pub with_lane : Knowledge T → Knowledge T
  with_lane (Lane lane told closed) = Lane lane told closed
  with_lane (Taker lanes taken met) = Taker (lanes + 1) taken met
  with_lane Met = Met

  -- the lane whose end was made
  abbrev pub new_lane : Knowledge T → Knowledge T
  new_lane (Lane lane told closed) = Met
  new_lane (Taker lanes taken met) = Lane lanes [] false
  new_lane Met = Met

  -- the end of one more lane was met
  abbrev pub with_met : Knowledge T → Knowledge T → Knowledge T
  with_met (Lane lane told closed) w = Lane lane told closed
  with_met (Taker lanes taken met) w = Taker lanes taken (record { lane = lane_of w; told = told_of w; closed = closed_of w } ∷ met)
  with_met Met w = Met

  -- ---- what the steps show

  -- the lane said what the notice says
  abbrev pub SaysNext : Knowledge T → Notice T → Knowledge T → Type 0
  SaysNext v n w = w ≡ with_said v n.told

  -- the notice was added to what was taken; its lane is one of those whose ends were made, and what was taken is well
  -- taken
  abbrev pub Receives : Knowledge T → Notice T → Knowledge T → Type 0
  Receives v n w = (w ≡ with_taken v n) × (n.lane < lanes_of v) × IsWellTaken (lanes_of w) (taken_of w)

  -- what each lane told whose end was met is all that the log, what was taken and then what is queued, has of it
  abbrev pub Learns : Knowledge T → List (Notice T) → Type 0
  Learns v queued =
      (i : ℕ) (m : ToldList T) → get_elem? (met_of v) i ≡ some m
      → (m.lane < lanes_of v) × (said_by m.lane (taken_of v ++ queued) ≡ says m.told m.closed)
