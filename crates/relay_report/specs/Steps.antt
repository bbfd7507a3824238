-- For the step that takes an operation with its lines.
use Rattle.std.specs.Prelude.{◌≡◌, ℕ, ◌+◌, List, Bool, true, false, Option, Result, Ok, Err}
use Rattle.relay_ndjson.specs.declared.kind.InputFault.{InputFault}
use Rattle.relay_ndjson.specs.Operations.{HoldsNoMore, IsFault, Position, saturating_count}
use Rattle.relay_report.specs.Operations.{TakesLines}

-- an operation was taken, with its lines; or only blank lines were left; or what follows has a fault
abbrev pub Reads : Option (List ℕ) → Position → Position → List ℕ → Result Bool InputFault → Type 0
Reads default old new lines (Ok true) =
    (count : ℕ) × TakesLines default old.ahead new.ahead count lines × (new.count ≡ saturating_count (old.count + count))
Reads default old new lines (Ok false) = HoldsNoMore old.ahead
Reads default old new lines (Err e) = IsFault default old.ahead old.count e
