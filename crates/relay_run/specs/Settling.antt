-- What the threads of a run tell of its inputs.
use Rattle.std.specs.Prelude.{ℕ, Bool, true, false, List, [], ◌∷◌, ◌++◌, Option}
use Rattle.relay_action.specs.declared.operation.OpName.{OpName}
use Rattle.relay_core.specs.declared.success.Success.{Success}
use Rattle.relay_resume.specs.declared.mark.Mark.{Mark}
use Rattle.relay_resume.specs.declared.mark.Place.{Place}
use Rattle.relay_receipts.specs.Ends.{Channel}
use Rattle.relay_keeping.specs.declared.told.Told.{Told}

-- the channel of an end by which the keeper is told, and its position there; none, if nobody keeps marks
abbrev pub Seat : Type 0
Seat = Option (Channel Told × ℕ)

-- what the thread of a producer tells: the places where the operations end that it puts, in order; by which end; and where
-- its input is read from
pub record Tellings : Type 0 where
  pub places : List Place
  pub via : Seat
  pub start : Mark

-- by which end it tells, and of an input that is read from where
abbrev pub teller_of : Tellings → Seat × Mark
teller_of t = (t.via, t.start)

-- what a lane told: the names of operations that were applied, and of those whose reports were saved, each in order
pub record Settled : Type 0 where
  pub applied : List OpName
  pub saved : List OpName

abbrev pub name_of : Success → OpName
name_of success = success.name

-- after the report of an operation, given whether it could not be saved
abbrev pub after_report : Bool → OpName → Settled → Settled
after_report true name told = told
after_report false name told = record told { saved = told.saved ++ name ∷ [] }
