-- What `relay lines` reads of a producer's lines, and what it writes for them.
use Rattle.std.specs.Prelude.{◌≡◌, ◌≢◌, ◌⊎◌, ℕ, ◌+◌, ◌<◌, ◌≤◌, min, List, [], ◌∷◌, length, take, Option, Result, Ok, Err, if◌then◌else◌}
use Rattle.std.specs.Io.KnownBytes.{append_known}
use Rattle.relay_action.specs.Streams.{most, one_more}
use Rattle.relay_action.specs.declared.write.Write.{Write}
use Rattle.relay_action.specs.Limits.{last_version}
use Rattle.relay_ndjson.specs.Bulk.{text_of}
use Rattle.relay_ndjson.specs.Lines.{is_read, piece_limit}
use Rattle.relay_ndjson.specs.Operations.{Operation}
use Rattle.relay_ndjson.specs.Reading.{Reading, Parsing, Takes, Ends, Fails, reading}
use Rattle.relay_ndjson.specs.declared.kind.InputFault.{InputFault}
use Rattle.relay_ndjson.specs.declared.kind.LineKind.TheVariants as kind
use Rattle.relay_words.specs.Taken.{TakesAll}
use Rattle.relay_commands.specs.declared.lines.LinesFault.{LinesFault}
use Rattle.relay_commands.specs.declared.lines.LinesFault.TheVariants as fault

-- the write of an operation
abbrev pub write_of : Operation → ℕ → Write
write_of op version = record { key = op.0; version = version; action = op.1 }

-- the writes of operations, with versions that rise by one
abbrev pub writes_from : ℕ → List Operation → List Write
writes_from version [] = []
writes_from version (op ∷ ops) = write_of op version ∷ writes_from (version + 1) ops

-- the bulk text of operations, with versions from the first
abbrev pub lines_of : ℕ → List Operation → List ℕ
lines_of first ops = text_of (writes_from first ops)

-- operations were taken, and there is a version for each: that of the last one is at most the last version
pub record Deals (first : ℕ) (old rest : Reading) (ops : List Operation) : Type 0 where
  pub takes : TakesAll old rest ops
  pub within : first + length ops ≤ last_version + 1

-- there is one more operation, on the action line with this number, and no version is left for it
pub record IsSpent (first : ℕ) (rest new : Reading) (ops : List Operation) (line : ℕ) : Type 0 where
  pub blank : ℕ
  pub op : Operation
  pub next : Takes rest new blank op
  pub line_is : line ≡ new.line
  pub none_left : first + length ops ≡ last_version + 1

-- What follows has a fault, or a read failed: then what is left does not begin with a whole operation in the bytes
-- that were read. A failed allocation has its own fault.
pub record IsAtFault (rest new : Reading) (e : InputFault) : Type 0 where
  pub fault : Fails rest new e
  pub not_memory : e.kind ≢ kind.Memory

-- why there were no more operations: only blank lines were left; or what follows has a fault; or the versions were
-- used up
abbrev pub Concludes : ℕ → Reading → Reading → List Operation → Result ℕ LinesFault → Type 0
Concludes first rest new ops (Ok n) = Ends rest new × (n ≡ length ops)
Concludes first rest new ops (Err (fault.Input e)) = IsAtFault rest new e
Concludes first rest new ops (Err (fault.VersionsSpent line)) = IsSpent first rest new ops line
Concludes first rest new ops (Err (fault.Write sent)) = ⊥
Concludes first rest new ops (Err fault.Memory) = ⊥

-- the number of failed calls of the reader after this result
abbrev pub failed_by : {T : Type 0} → Result T LinesFault → ℕ → ℕ
failed_by (Err (fault.Input e)) n = if is_read e.kind then one_more n else n
failed_by other n = n

-- A write failed: of lines that were to be written before a read, and then nothing more was read; or of the last lines,
-- and then this would otherwise have been the result.
abbrev pub IsCutOff : ℕ → ℕ → Reading → Reading → List Operation → Type 0
IsCutOff first failed rest new ops =
    ((new ≡ rest) × (new.failed ≡ failed))
    ⊎ ((answer : Result ℕ LinesFault) × Concludes first rest new ops answer × (new.failed ≡ failed_by answer failed))

-- an allocation failed: for the operation itself, or for its lines
abbrev pub LacksMemory : Reading → Reading → Type 0
LacksMemory rest new =
    ((e : InputFault) × Fails rest new e × (e.kind ≡ kind.Memory))
    ⊎ ((blank : ℕ) × (op : Operation) × Takes rest new blank op)

-- Why no more operations were passed on, given how many calls of the reader had failed before the first one.
abbrev pub Stops : ℕ → ℕ → Reading → Reading → List Operation → Result ℕ LinesFault → Type 0
Stops first failed rest new ops (Err (fault.Write sent)) = IsCutOff first failed rest new ops
Stops first failed rest new ops (Err fault.Memory) = LacksMemory rest new
Stops first failed rest new ops other = Concludes first rest new ops other

-- How much of a text was written: all of it; after a failed write exactly its first bytes, fewer than all; after a
-- failed allocation some prefix.
abbrev pub Writes : Option (List ℕ) → Option (List ℕ) → List ℕ → Result ℕ LinesFault → Type 0
Writes before after text (Err (fault.Write sent)) =
    (cut : ℕ) × (cut < length text) × (sent ≡ min cut most) × (after ≡ append_known before (take cut text))
Writes before after text (Err fault.Memory) = (cut : ℕ) × (after ≡ append_known before (take cut text))
Writes before after text other = after ≡ append_known before text

-- Operations were taken from the front, with a version for each. The result says why there were no more, given what the
-- reader has left and how many of its calls failed; at most one piece was read of what follows; and this much of the
-- operations' bulk text was written.
pub record Streams (first : ℕ) (old : Reading) (left : Option (List ℕ)) (failed : ℕ) (before after : Option (List ℕ)) (result : Result ℕ LinesFault) : Type 0 where
  pub ops : List Operation
  pub rest : Reading
  pub parser : Parsing
  pub deals : Deals first old rest ops
  pub stops : Stops first old.failed rest (reading left failed parser) ops result
  pub one_piece : length parser.held ≤ piece_limit
  pub writes : Writes before after (lines_of first ops) result
