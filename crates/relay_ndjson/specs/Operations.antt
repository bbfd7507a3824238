-- The producer grammar over a stream: the operations at its front, and what breaks it. Action lines are those of the
-- OpenSearch bulk API: an index action is followed by its source on the next line.
use Rattle.std.specs.Prelude.{◌≡◌, ◌≢◌, ℕ, ◌+◌, ◌≤◌, ◌⊎◌, min, List, [], length, Option, None, Some, Result, Ok, Err, if◌then◌else◌}
use Rattle.std.specs.Io.KnownBytes.{IsAtEnd, prepend_known}
use Rattle.relay_action.specs.Streams.{most, one_more}
use Rattle.relay_action.specs.Faults.{key_fault}
use Rattle.relay_action.specs.declared.key.DocKey.{DocKey}
use Rattle.relay_action.specs.declared.action.Action.{Action}
use Rattle.relay_action.specs.declared.action.Action.TheVariants.{Index, Delete}
use Rattle.relay_ndjson.specs.Lines.{TakesText, IsLong, TakesBlank, StopsInLine, is_read}
use Rattle.relay_action.specs.declared.action.ActionKind.TheVariants as action
use Rattle.relay_ndjson.specs.declared.kind.LineKind.{LineKind}
use Rattle.relay_ndjson.specs.declared.kind.LineKind.TheVariants as kind
use Rattle.relay_ndjson.specs.declared.kind.InputFault.{InputFault}
use Rattle.relay_ndjson.specs.Metadata.{Says, line_fault, source_line_fault}

-- an operation that a producer submits: a document, and the action on it
abbrev pub Operation : Type 0
Operation = DocKey × Action

-- the maximum number of consecutive blank lines
abbrev pub blank_limit : ℕ
blank_limit = 65536

-- a count of lines or of bytes, which saturates
abbrev pub saturating_count : ℕ → ℕ
saturating_count n = min n most

-- so many bytes more were taken from the front; the number of all of them saturates
abbrev pub UsesBytes : (before after : ℕ) (old new : Option (List ℕ)) → Type 0
UsesBytes before after old new = (bytes : List ℕ) × (old ≡ prepend_known bytes new) × (after ≡ saturating_count (before + length bytes))

-- ---- operations

-- an action line, and for an index action its source line
abbrev pub TakesAction : Option (List ℕ) → Option (List ℕ) → Option (List ℕ) → DocKey → Action → Type 0
TakesAction default old new key (Index source) =
    (text : List ℕ) × (rest : Option (List ℕ)) × TakesText old rest text × Says default text action.Index key.index key.id × TakesText rest new source.text
TakesAction default old new key Delete =
    (text : List ℕ) × TakesText old new text × Says default text action.Delete key.index key.id

abbrev pub line_count : Action → ℕ
line_count (Index source) = 2
line_count Delete = 1

-- n blank lines, and then the lines of an operation
abbrev pub TakesOperation : Option (List ℕ) → Option (List ℕ) → Option (List ℕ) → ℕ → Operation → Type 0
TakesOperation default old new n op =
    (mid : Option (List ℕ)) × (n ≤ blank_limit) × TakesBlank n old mid × TakesAction default mid new op.0 op.1

-- only blank lines are left
abbrev pub HoldsNoMore : Option (List ℕ) → Type 0
HoldsNoMore old = (n : ℕ) × (end : Option (List ℕ)) × (n ≤ blank_limit) × TakesBlank n old end × IsAtEnd end

-- ---- faults

-- the first line is neither blank nor an action line
abbrev pub BreaksAction : Option (List ℕ) → Option (List ℕ) → LineKind → Type 0
BreaksAction default old k =
    (IsLong old × (k ≡ kind.LineLong))
    ⊎ ((text : List ℕ) × (rest : Option (List ℕ)) × TakesText old rest text × (text ≢ []) × (line_fault default text ≡ Some k))

-- the first line is not a source
abbrev pub BreaksSource : Option (List ℕ) → LineKind → Type 0
BreaksSource old k =
    (IsLong old × (k ≡ kind.LineLong))
    ⊎ ((text : List ℕ) × (rest : Option (List ℕ)) × TakesText old rest text × (source_line_fault text ≡ Some k))

-- there is an index action at the front without a source after it; the fault is in the first or the second line
abbrev pub LacksSource : Option (List ℕ) → Option (List ℕ) → ℕ → LineKind → Type 0
LacksSource default old place k =
    (text : List ℕ) × (rest : Option (List ℕ)) × (index : List ℕ) × (id : List ℕ) × TakesText old rest text
    × Says default text action.Index index id × (key_fault index id ≡ None)
    × ((IsAtEnd rest × (k ≡ kind.SourceMissing) × (place ≡ 1)) ⊎ (BreaksSource rest k × (place ≡ 2)))

-- one blank line too many
abbrev pub IsPastBlank : ℕ → Option (List ℕ) → LineKind → Type 0
IsPastBlank n old k = (n ≡ blank_limit) × (rest : Option (List ℕ)) × TakesText old rest [] × (k ≡ kind.LineLong)

-- after n blank lines there is no operation, since the line at this place has this fault
abbrev pub BreaksAt : Option (List ℕ) → ℕ → Option (List ℕ) → ℕ → LineKind → Type 0
BreaksAt default n old place k =
    (BreaksAction default old k × (place ≡ 1)) ⊎ (IsPastBlank n old k × (place ≡ 1)) ⊎ LacksSource default old place k

-- the line at this place, from 1, is the first that breaks the grammar
abbrev pub Breaks : Option (List ℕ) → Option (List ℕ) → ℕ → LineKind → Type 0
Breaks default old at k =
    (n : ℕ) × (mid : Option (List ℕ)) × (place : ℕ) × (n ≤ blank_limit) × TakesBlank n old mid × BreaksAt default n mid place k × (at ≡ n + place)

-- a fault names the first line that breaks the grammar, unless a read or an allocation failed
abbrev pub IsFault : Option (List ℕ) → Option (List ℕ) → ℕ → InputFault → Type 0
IsFault default old count e =
    (e.kind ≡ kind.Read) ⊎ (e.kind ≡ kind.Memory)
    ⊎ ((at : ℕ) × Breaks default old at e.kind × (e.line ≡ saturating_count (count + at)))

-- ---- where the reader stops

-- this many lines were taken, the beginning of an operation: blank lines, possibly followed by the line of an index
-- action
abbrev pub TakesBeginning : Option (List ℕ) → Option (List ℕ) → Option (List ℕ) → ℕ → Type 0
TakesBeginning default old new count =
    ((count ≤ blank_limit) × TakesBlank count old new)
    ⊎ ((n : ℕ) × (mid : Option (List ℕ)) × (text : List ℕ) × (index : List ℕ) × (id : List ℕ) × (n ≤ blank_limit) × TakesBlank n old mid
    × TakesText mid new text × Says default text action.Index index id × (key_fault index id ≡ None) × (count ≡ n + 1))

-- the position of a reader in its stream: the bytes that were not used yet, if they are known, those of them that
-- were read, and the number of lines taken
pub record Position : Type 0 where
  pub ahead : Option (List ℕ)
  pub held : List ℕ
  pub count : ℕ

-- the position, given what the stream has left, what was read ahead and the number of lines taken
abbrev pub position : Option (List ℕ) → List ℕ → ℕ → Position
position left held count = record { ahead = prepend_known held left; held = held; count = count }

-- a fault names the line in which the reader stopped: the lines before it are the beginning of an operation, and
-- nothing beyond this line was used
pub record Stops (default : Option (List ℕ)) (old new : Position) (e : InputFault) : Type 0 where
  pub taken : ℕ
  pub front : Option (List ℕ)
  pub begins : TakesBeginning default old.ahead front taken
  pub line : e.line ≡ saturating_count (old.count + taken + 1)
  pub stop : StopsInLine front new.ahead new.held e.kind

-- the number of failed calls of the stream after this result
abbrev pub failed_after : {T : Type 0} → Result T InputFault → ℕ → ℕ
failed_after (Ok x) n = n
failed_after (Err e) n = if is_read e.kind then one_more n else n
