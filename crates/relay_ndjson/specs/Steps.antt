-- The private steps of the readers, which find a line piece by piece and take a body line by line. No public contract
-- refers to them.
use Rattle.std.specs.Prelude.{◌≡◌, ◌≢◌, ℕ, ◌+◌, ◌<◌, ◌≤◌, ◌⊎◌, List, [], ◌∷◌, ◌++◌, length, Bool, true, false, Option, Some, None, Result, Ok, Err, slice_index, if◌then◌else◌}
use Rattle.std.specs.Io.KnownBytes.{prepend_known, IsAtEnd}
use Rattle.relay_action.specs.Actions.{IsIndexOf}
use Rattle.relay_action.specs.Streams.{one_more}
use Rattle.relay_action.specs.declared.action.Action.{Action}
use Rattle.relay_action.specs.declared.write.Write.{Write}
use Rattle.relay_ndjson.specs.declared.kind.InputFault.{InputFault}
use Rattle.relay_ndjson.specs.declared.kind.LineKind.{LineKind}
use Rattle.relay_ndjson.specs.declared.kind.LineKind.TheVariants as kind
use Rattle.relay_ndjson.specs.declared.lines.NumberedOperation.{NumberedOperation}
use Rattle.relay_ndjson.specs.declared.lines.Line.{Line}
use Rattle.relay_ndjson.specs.declared.lines.Line.TheVariants as line
use Rattle.relay_ndjson.specs.declared.lines.LineEnd.{LineEnd}
use Rattle.relay_ndjson.specs.declared.lines.Part.{Part}
use Rattle.relay_ndjson.specs.declared.lines.Part.TheVariants as part
use Rattle.relay_ndjson.specs.Lines.{IsUnbroken, IsRaw, IsLine, IsPastLimit, IsLong, is_read, line_limit}
use Rattle.relay_ndjson.specs.Operations.{saturating_count, line_count, TakesOperation, HoldsNoMore, IsFault, Position}
use Rattle.relay_ndjson.specs.LineReading.{TakesBytes, end_bytes}
use Rattle.relay_ndjson.specs.OperationLines.{SkipsTo}
use Rattle.relay_ndjson.specs.Bodies.{BeginsWithLine, IsLinesOf}

-- ---- a line

-- the bytes may be the start of a line: they may exceed the limit by one byte that may belong to the line end
abbrev pub IsStart : List ℕ → Type 0
IsStart raw = (length raw ≤ line_limit + 1) × ((length raw ≡ line_limit + 1) → slice_index raw line_limit ≡ 13)

-- why the last of the bytes were not added to the line
abbrev pub IsAddFault : List ℕ → LineKind → Type 0
IsAddFault raw k = ((k ≡ kind.LineLong) × IsPastLimit raw) ⊎ (k ≡ kind.Memory)

-- what a piece contributed to a line: its end, or all that the piece held
abbrev pub TakesPart : List ℕ → List ℕ → List ℕ → List ℕ → Result Part LineKind → Type 0
TakesPart begun piece text rest (Ok part.End) = (raw : List ℕ) × IsUnbroken raw × IsRaw text raw × (length text ≤ line_limit) × (begun ++ piece ≡ raw ++ 10 ∷ rest)
TakesPart begun piece text rest (Ok part.More) = IsUnbroken text × IsStart text × (text ≡ begun ++ piece) × (rest ≡ [])
TakesPart begun piece text rest (Err k) = (raw : List ℕ) × (later : List ℕ) × IsUnbroken raw × (begun ++ piece ≡ raw ++ later) × IsAddFault raw k

-- what reading a line took from the front, and the line that it put into the buffer
abbrev pub TakesLine : Option (List ℕ) → Option (List ℕ) → List ℕ → Result Line LineKind → Type 0
TakesLine old new text (Ok line.Ended) = (raw : List ℕ) × IsUnbroken raw × IsRaw text raw × (length text ≤ line_limit) × (old ≡ prepend_known (raw ++ 10 ∷ []) new)
TakesLine old new text (Ok line.Open) = IsUnbroken text × (text ≢ []) × (length text ≤ line_limit) × (old ≡ prepend_known text new) × IsAtEnd new
TakesLine old new text (Ok line.Absent) = IsAtEnd old × (new ≡ old)
TakesLine old new text (Err k) = (k ≡ kind.Read) ⊎ (k ≡ kind.Memory) ⊎ ((k ≡ kind.LineLong) × IsLong old)

-- if a line ended, its bytes are its text and what ended it
abbrev pub PartHasBytes : List ℕ → List ℕ → List ℕ → List ℕ → LineEnd → Result Part LineKind → Type 0
PartHasBytes begun piece text rest end (Ok part.End) = IsLine text (text ++ end_bytes end) × (begun ++ piece ≡ (text ++ end_bytes end) ++ rest)
PartHasBytes begun piece text rest end other = Unit {0}

abbrev pub LineHasBytes : Option (List ℕ) → Option (List ℕ) → List ℕ → LineEnd → Result Line LineKind → Type 0
LineHasBytes old new text end (Ok line.Ended) = TakesBytes old new text end
LineHasBytes old new text end (Ok line.Open) = TakesBytes old new text end
LineHasBytes old new text end (Ok line.Absent) = Unit {0}
LineHasBytes old new text end (Err k) = Unit {0}

-- if the input ends after these bytes, they are the last line, or nothing was left, or they are too many
abbrev pub EndsLine : List ℕ → Result Line LineKind → Type 0
EndsLine text (Ok line.Ended) = ⊥
EndsLine text (Ok line.Open) = (text ≢ []) × (length text ≤ line_limit)
EndsLine text (Ok line.Absent) = text ≡ []
EndsLine text (Err k) = (k ≡ kind.LineLong) × (line_limit < length text)

-- why no piece was read
abbrev pub IsFillFault : LineKind → Type 0
IsFillFault k = (k ≡ kind.Read) ⊎ (k ≡ kind.Memory)

-- the number of failed calls of the stream after this result
abbrev pub failed_by : {T : Type 0} → Result T LineKind → ℕ → ℕ
failed_by (Ok x) n = n
failed_by (Err k) n = if is_read k then one_more n else n

-- ---- an operation

-- blank lines were taken, and then a line that is not blank; or only blank lines were left; or what follows has a fault
abbrev pub SkipsBlank : Position → Position → List ℕ → LineEnd → Result Bool InputFault → Type 0
SkipsBlank old new text end (Ok true) = SkipsTo old new text end
SkipsBlank old new text end (Ok false) = HoldsNoMore old.ahead
SkipsBlank old new text end (Err e) = (default : Option (List ℕ)) → IsFault default old.ahead old.count e

abbrev pub Reads : Option (List ℕ) → Position → Position → Result (Option NumberedOperation) InputFault → Type 0
Reads default old new (Ok (Some f)) =
    (n : ℕ) × TakesOperation default old.ahead new.ahead n (f.key, f.action) × (f.line ≡ saturating_count (old.count + n + 1))
    × (new.count ≡ saturating_count (old.count + n + line_count f.action))
Reads default old new (Ok None) = HoldsNoMore old.ahead
Reads default old new (Err e) = IsFault default old.ahead old.count e

-- ---- a body

-- the lines of a write are at the front
abbrev pub BeginsWithWrite : List ℕ → List ℕ → Write → Type 0
BeginsWithWrite bytes rest w = (lines : List ℕ) × IsLinesOf lines w × (bytes ≡ lines ++ rest)

-- there is a source line at the front, and the action stores its text
abbrev pub BeginsWithSource : List ℕ → List ℕ → Action → Type 0
BeginsWithSource bytes rest a = (text : List ℕ) × BeginsWithLine bytes rest text × IsIndexOf text a
