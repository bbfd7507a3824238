-- For the steps of `lines`: one operation, its write, and all that are passed on.
use Rattle.std.specs.Prelude.{◌≡◌, ℕ, ◌<◌, ◌≤◌, List, ◌++◌, length, Option, None, Some, Result, Ok, Err}
use Rattle.relay_action.specs.declared.write.Write.{Write}
use Rattle.relay_action.specs.Limits.{last_version}
use Rattle.relay_ndjson.specs.Bulk.{write_text}
use Rattle.relay_ndjson.specs.Lines.{piece_limit}
use Rattle.relay_ndjson.specs.Operations.{Operation}
use Rattle.relay_ndjson.specs.Reading.{Reading, Parsing, Takes, Ends, reading}
use Rattle.relay_ndjson.specs.declared.kind.InputFault.{InputFault}
use Rattle.relay_ndjson.specs.declared.kind.LineKind.{LineKind}
use Rattle.relay_ndjson.specs.declared.kind.LineKind.TheVariants as kind
use Rattle.relay_commands.specs.Calls.{NoneFails, OneFails}
use Rattle.relay_commands.specs.Lines.{Deals, IsAtFault, LacksMemory, Stops, Writes, failed_by, lines_of, write_of}
use Rattle.relay_commands.specs.Sending.{WritesAllBut}
use Rattle.relay_commands.specs.declared.lines.LinesFault.{LinesFault}
use Rattle.relay_commands.specs.declared.lines.LinesFault.TheVariants as fault
use Rattle.relay_commands.specs.declared.lines.Next.{Next}
use Rattle.relay_commands.specs.declared.lines.Next.TheVariants.{Added, Ended}

-- a failed allocation has its own fault
abbrev pub fault_of_kind : InputFault → LineKind → LinesFault
fault_of_kind e kind.Memory = fault.Memory
fault_of_kind e other = fault.Input e

abbrev pub fault_of : InputFault → LinesFault
fault_of e = fault_of_kind e e.kind

-- the write of an operation, or that its version would be above the last one
abbrev pub IsNumbered : Operation → ℕ → ℕ → Result Write LinesFault → Type 0
IsNumbered op version line (Ok w) = (w ≡ write_of op version) × (version ≤ last_version)
IsNumbered op version line (Err e) = (e ≡ fault.VersionsSpent line) × (last_version < version)

-- an operation with a version was taken, and this is its write
pub record IsWrite (version : ℕ) (old new : Reading) (w : Write) : Type 0 where
  pub blank : ℕ
  pub op : Operation
  pub next : Takes old new blank op
  pub write : w ≡ write_of op version
  pub within : version ≤ last_version

-- an operation was taken, and its version would be above the last one
pub record IsPast (version : ℕ) (old new : Reading) (line : ℕ) : Type 0 where
  pub blank : ℕ
  pub op : Operation
  pub next : Takes old new blank op
  pub line_is : line ≡ new.line
  pub past : last_version < version

-- why there is no next write
abbrev pub IsNoWrite : ℕ → Reading → Reading → LinesFault → Type 0
IsNoWrite version old new (fault.Input e) = IsAtFault old new e
IsNoWrite version old new (fault.VersionsSpent line) = IsPast version old new line
IsNoWrite version old new (fault.Write sent) = ⊥
IsNoWrite version old new fault.Memory = LacksMemory old new

-- the next write, or the end, or why there is neither
abbrev pub IsNext : ℕ → Reading → Reading → Result (Option Write) LinesFault → Type 0
IsNext version old new (Ok (Some w)) = IsWrite version old new w
IsNext version old new (Ok None) = Ends old new
IsNext version old new (Err e) = IsNoWrite version old new e

-- the next write was added to a text, or the end was reached, or there is a fault
abbrev pub AddsNext : ℕ → Reading → Reading → List ℕ → List ℕ → Result Next LinesFault → Type 0
AddsNext version old new before after (Ok Added) = (w : Write) × IsWrite version old new w × (after ≡ before ++ write_text w)
AddsNext version old new before after (Ok Ended) = Ends old new × (after ≡ before)
AddsNext version old new before after (Err e) = IsNoWrite version old new e × (after ≡ before)

-- how much of a text was written, if part of it is still to be written; after a failed write nothing more is
abbrev pub Leaves : Option (List ℕ) → Option (List ℕ) → List ℕ → List ℕ → ℕ → Result ℕ LinesFault → Type 0
Leaves before now all text sent (Err (fault.Write n)) = Writes before now all (Err (fault.Write n))
Leaves before now all text sent other = WritesAllBut before now all text sent

-- operations were taken, and their text was written except for what is left of it
pub record Passes (first : ℕ) (old : Reading) (left : Option (List ℕ)) (failed : ℕ) (before now : Option (List ℕ)) (text : List ℕ) (sent : ℕ) (result : Result ℕ LinesFault) : Type 0 where
  pub ops : List Operation
  pub rest : Reading
  pub parser : Parsing
  pub deals : Deals first old rest ops
  pub stops : Stops first old.failed rest (reading left failed parser) ops result
  pub one_piece : length parser.held ≤ piece_limit
  pub leaves : Leaves before now (lines_of first ops) text sent result

-- which calls of the reader and of the writer failed in between: after a failed write nothing was read
abbrev pub FailsInPass : ℕ → ℕ → ℕ → ℕ → Result ℕ LinesFault → Type 0
FailsInPass old new before now (Err (fault.Write n)) = NoneFails old new × OneFails before now
FailsInPass old new before now other = (new ≡ failed_by other old) × NoneFails before now
