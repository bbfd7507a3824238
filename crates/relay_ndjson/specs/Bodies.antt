-- The body of a bulk request as the index reads it: each line has its end, and no line is blank.
use Rattle.std.specs.Prelude.{◌≡◌, ◌≢◌, ℕ, ◌+◌, ◌≤◌, ◌⊎◌, List, [], ◌∷◌, ◌++◌, length, All, Option, None, Some, Result, Ok, Err}
use Rattle.std.specs.declared.vec.Vec.{Vec}
use Rattle.std.specs.declared.alloc.Global.{Global}
use Rattle.relay_action.specs.Faults.{key_fault}
use Rattle.relay_action.specs.declared.action.Action.{Action}
use Rattle.relay_action.specs.declared.action.Action.TheVariants.{Index, Delete}
use Rattle.relay_action.specs.declared.action.ActionKind.TheVariants as action
use Rattle.relay_action.specs.declared.write.Write.{Write}
use Rattle.relay_ndjson.specs.declared.kind.LineKind.{LineKind}
use Rattle.relay_ndjson.specs.declared.kind.LineKind.TheVariants as kind
use Rattle.relay_ndjson.specs.declared.kind.BulkFault.{BulkFault}
use Rattle.relay_action.specs.Limits.{last_version}
use Rattle.relay_ndjson.specs.Bulk.{text_of}
use Rattle.relay_ndjson.specs.Lines.{IsUnbroken, IsLine, IsLong, line_limit}
use Rattle.relay_ndjson.specs.Metadata.{source_line_fault}
use Rattle.relay_ndjson.specs.Operations.{line_count}
use Rattle.relay_ndjson.specs.VersionedLines.{SaysVersioned, SaysWrite, write_line_fault}

-- ---- bodies

-- the bytes after the action line: for an index action the line of its source
abbrev pub IsSourceOf : Action → List ℕ → Type 0
IsSourceOf (Index source) bytes = IsLine source.text bytes
IsSourceOf Delete bytes = bytes ≡ []

-- the bytes are the lines of this write: its action line, and for an index action its source line
abbrev pub IsLinesOf : List ℕ → Write → Type 0
IsLinesOf bytes w =
    (text : List ℕ) × (front : List ℕ) × (rest : List ℕ) × IsLine text front × SaysWrite text w × IsSourceOf w.action rest × (bytes ≡ front ++ rest)

-- the bytes are the lines of these writes, one after another
abbrev pub IsBulk : List ℕ → List Write → Type 0
IsBulk bytes [] = bytes ≡ []
IsBulk bytes (w ∷ ws) = (front : List ℕ) × (rest : List ℕ) × IsLinesOf front w × IsBulk rest ws × (bytes ≡ front ++ rest)

-- the number of lines of these writes
abbrev pub lines_of : List Write → ℕ
lines_of [] = 0
lines_of (w ∷ ws) = line_count w.action + lines_of ws

-- ---- faults

-- the bytes begin with a line that has this text
abbrev pub BeginsWithLine : List ℕ → List ℕ → List ℕ → Type 0
BeginsWithLine bytes rest text = (line : List ℕ) × IsLine text line × (bytes ≡ line ++ rest)

-- the bytes are a last line without its end, within the length limit
abbrev pub IsOpen : List ℕ → Type 0
IsOpen bytes = IsUnbroken bytes × (bytes ≢ []) × (length bytes ≤ line_limit)

-- there is no valid line at the front: it is too long, or its end is missing
abbrev pub LacksLine : List ℕ → LineKind → Type 0
LacksLine bytes k = (IsLong (Some bytes) × (k ≡ kind.LineLong)) ⊎ (IsOpen bytes × (k ≡ kind.NoFinalNewline))

-- the first line breaks the grammar, given this table of faults
abbrev pub BreaksLine : (List ℕ → Option LineKind) → List ℕ → LineKind → Type 0
BreaksLine fault_of bytes k =
    LacksLine bytes k ⊎ ((text : List ℕ) × (rest : List ℕ) × BeginsWithLine bytes rest text × (fault_of text ≡ Some k))

-- there is no source after an index action: the body has ended, which is a fault of the action's line, or the next
-- line breaks the grammar
abbrev pub IsNoSource : List ℕ → ℕ → LineKind → Type 0
IsNoSource bytes place k =
    ((bytes ≡ []) × (k ≡ kind.SourceMissing) × (place ≡ 1)) ⊎ (BreaksLine source_line_fault bytes k × (place ≡ 2))

-- the bytes begin with an index action on a valid document, and its source does not follow
abbrev pub LeavesSource : List ℕ → ℕ → LineKind → Type 0
LeavesSource bytes place k =
    (text : List ℕ) × (rest : List ℕ) × (index : List ℕ) × (id : List ℕ) × (version : ℕ) × BeginsWithLine bytes rest text
    × SaysVersioned text action.Index index id version × (key_fault index id ≡ None) × IsNoSource rest place k

-- there is no write at the front, since the line at this place, the first or the second, has this fault
abbrev pub BreaksWriteAt : List ℕ → ℕ → LineKind → Type 0
BreaksWriteAt bytes place k = (BreaksLine write_line_fault bytes k × (place ≡ 1)) ⊎ LeavesSource bytes place k

-- the line at this place, from 1, is the first that breaks the grammar: writes precede it
abbrev pub BreaksBulk : List ℕ → ℕ → LineKind → Type 0
BreaksBulk bytes at k =
    (ws : List Write) × (front : List ℕ) × (rest : List ℕ) × (place : ℕ) × IsBulk front ws × (bytes ≡ front ++ rest)
    × BreaksWriteAt rest place k × (at ≡ lines_of ws + place)

-- a fault names the first line that breaks the grammar, unless an allocation failed
abbrev pub IsBulkFault : List ℕ → BulkFault → Type 0
IsBulkFault bytes e = (e.kind ≡ kind.Memory) ⊎ BreaksBulk bytes e.line e.kind

-- ---- what was written reads back

-- each version is one that the relay may assign
abbrev pub AreDealt : List Write → Type 0
AreDealt ws = All (λ w. w.version ≤ last_version) ws

-- these writes were read, unless an allocation failed
abbrev pub GivesBack : List Write → Result (Vec Write Global) BulkFault → Type 0
GivesBack ws (Ok v) = v.items ≡ ws
GivesBack ws (Err e) = e.kind ≡ kind.Memory

-- the bulk text of writes reads back as exactly these
abbrev pub ReadsBack : List ℕ → Result (Vec Write Global) BulkFault → Type 0
ReadsBack bytes result = (ws : List Write) → AreDealt ws → bytes ≡ text_of ws → GivesBack ws result
