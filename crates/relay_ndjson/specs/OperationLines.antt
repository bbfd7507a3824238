-- The lines of the next operation, taken one after another: its action line, and for an index action its source line.
use Rattle.std.specs.Prelude.{◌≡◌, ◌≢◌, ℕ, ◌+◌, ◌≤◌, ◌⊎◌, List, [], Option, None, Some, Result, Ok, Err}
use Rattle.std.specs.Io.KnownBytes.{IsAtEnd}
use Rattle.relay_action.specs.Actions.{IsIndexOf}
use Rattle.relay_action.specs.Streams.{one_more}
use Rattle.relay_action.specs.declared.action.Action.{Action}
use Rattle.relay_action.specs.declared.action.ActionKind.{ActionKind}
use Rattle.relay_action.specs.declared.key.DocKey.{DocKey}
use Rattle.relay_ndjson.specs.declared.kind.InputFault.{InputFault}
use Rattle.relay_ndjson.specs.declared.kind.LineKind.TheVariants as kind
use Rattle.relay_ndjson.specs.declared.lines.LineEnd.{LineEnd}
use Rattle.relay_ndjson.specs.Lines.{TakesBlank, StopsInLine}
use Rattle.relay_ndjson.specs.LineReading.{TakesBytes}
use Rattle.relay_ndjson.specs.Metadata.{Says}
use Rattle.relay_ndjson.specs.Operations.{BreaksSource, HoldsNoMore, IsFault, Position, blank_limit, saturating_count}

-- blank lines were taken, and then a line that is not blank
abbrev pub SkipsTo : Position → Position → List ℕ → LineEnd → Type 0
SkipsTo old new text end =
    (n : ℕ) × (mid : Option (List ℕ)) × (n ≤ blank_limit) × TakesBlank n old.ahead mid × TakesBytes mid new.ahead text end × (text ≢ [])
    × (new.count ≡ saturating_count (old.count + n + 1))

-- the same, and the line asks for this; or only blank lines were left; or what follows has a fault
abbrev pub TakesActionLine : Option (List ℕ) → Position → Position → List ℕ → LineEnd → Result (Option (ActionKind × DocKey)) InputFault → Type 0
TakesActionLine default old new text end (Ok (Some asked)) = SkipsTo old new text end × Says default text asked.0 asked.1.index asked.1.id
TakesActionLine default old new text end (Ok None) = HoldsNoMore old.ahead
TakesActionLine default old new text end (Err e) = IsFault default old.ahead old.count e

-- the source line of the action on the last line was taken; or none is left, which is a fault of the action's line; or
-- the next line has a fault
abbrev pub TakesSourceLine : Position → Position → List ℕ → LineEnd → Result Action InputFault → Type 0
TakesSourceLine old new text end (Ok a) = TakesBytes old.ahead new.ahead text end × IsIndexOf text a × (new.count ≡ one_more old.count)
TakesSourceLine old new text end (Err e) =
    (e.kind ≡ kind.Read) ⊎ (e.kind ≡ kind.Memory)
    ⊎ (IsAtEnd old.ahead × (e.kind ≡ kind.SourceMissing) × (e.line ≡ old.count))
    ⊎ (BreaksSource old.ahead e.kind × (e.line ≡ one_more old.count))

-- where the reader stopped instead of reading a source: in its line, or at the end, which is a fault of the action's
-- line
abbrev pub StopsInSource : Position → Position → InputFault → Type 0
StopsInSource old new e =
    ((e.line ≡ one_more old.count) × StopsInLine old.ahead new.ahead new.held e.kind)
    ⊎ ((e.line ≡ old.count) × (e.kind ≡ kind.SourceMissing) × (new.ahead ≡ old.ahead))
