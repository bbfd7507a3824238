-- What the lanes say of writes.
use Rattle.std.specs.Prelude.{ℕ, ◌==◌, if◌then◌else◌, List, [], ◌∷◌, Option, None, Some}
use Rattle.std.specs.Option.{option_or}
use Rattle.relay_receipts.specs.declared.notice.Notice.{Notice}
use Rattle.relay_telling.specs.declared.ending.Ending.{Ending}
use Rattle.relay_telling.specs.declared.ending.Ending.TheVariants as ending
use Rattle.relay_front.specs.declared.ending.End.{End}
use Rattle.relay_front.specs.declared.ending.End.TheVariants as end

-- the number of the operation that ended, and the end of its write
abbrev pub number_and_end : Ending → ℕ × End
number_and_end (ending.Applied s) = (s.name.number, end.Applied s.version s.status)
number_and_end (ending.Reported r) = (r.name.number, end.Reported r.cause)

-- what a lane says, by what it tells, of the write with this number in this lane: how it ended; or, if it is this lane and tells
-- no more, that it is gone
abbrev pub said_of : (lane number : ℕ) → (from : ℕ) → Option Ending → Option End
said_of lane number from (Some x) = if (number_and_end x).0 == number then Some (number_and_end x).1 else None
said_of lane number from None = if from == lane then Some end.Gone else None

-- what the first of these notices says that says something of it
abbrev pub said_first : (lane number : ℕ) → List (Notice Ending) → Option End
said_first lane number [] = None
said_first lane number (n ∷ ns) = option_or (said_of lane number n.lane n.told) (said_first lane number ns)
