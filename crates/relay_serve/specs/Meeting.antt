-- What workers took, met with what the lanes told them.
use Rattle.std.specs.Prelude.{◌≡◌, false, List, [], ◌∷◌, ◌++◌, Option}
use Rattle.relay_receipts.specs.Ends.{TakeEnd}
use Rattle.relay_receipts.specs.Notices.{said_by, says, IsWellTaken}
use Rattle.relay_telling.specs.declared.ending.Ending.{Ending}
use Rattle.relay_telling.specs.declared.lane_tells.ProducerTell.{ProducerTell}
use Rattle.relay_telling.specs.declared.lane_tells.LaneTells.{LaneTells}

-- nothing was lost of what this end of a lane told, and what was taken of the lane is the front of what it says
pub record IsMetBy (taken : TakeEnd Ending) (e : ProducerTell) : Type 0 where
  pub kept : e.gone ≡ false
  pub rest : List (Option Ending)
  pub front : says e.tell.told e.tell.closed ≡ said_by e.tell.lane taken.taken ++ rest

-- this holds for each worker, with the lane's end for it
abbrev pub AllMet : List (TakeEnd Ending) → List ProducerTell → Type 0
AllMet [] [] = Unit {0}
AllMet [] (e ∷ es) = ⊥
AllMet (t ∷ ts) [] = ⊥
AllMet (t ∷ ts) (e ∷ es) = IsMetBy t e × AllMet ts es

-- and for each lane
abbrev pub LanesMet : List (TakeEnd Ending) → List LaneTells → Type 0
LanesMet takes [] = Unit {0}
LanesMet takes (t ∷ ts) = AllMet takes t.ends.items × LanesMet takes ts

-- what was taken of each lane is what a lane may say, and nothing was taken of others
abbrev pub AllWellTaken : List (TakeEnd Ending) → Type 0
AllWellTaken [] = Unit {0}
AllWellTaken (t ∷ ts) = IsWellTaken t.lanes t.taken × AllWellTaken ts
