-- The operations that a report names, line by line.
use Rattle.std.specs.Prelude.{◌≡◌, ℕ, ◌+◌, ◌⊎◌, List, [], ◌∷◌, length, Option, None, Some, Result, Ok, Err}
use Rattle.std.specs.Io.KnownBytes.{IsAtEnd}
use Rattle.relay_action.specs.Streams.{one_more}
use Rattle.relay_action.specs.declared.operation.OpName.{OpName}
use Rattle.relay_ndjson.specs.Lines.{IsLong, TakesText}
use Rattle.relay_ndjson.specs.Operations.{saturating_count}
use Rattle.relay_ndjson.specs.declared.kind.InputFault.{InputFault}
use Rattle.relay_ndjson.specs.declared.kind.LineKind.{LineKind}
use Rattle.relay_ndjson.specs.declared.kind.LineKind.TheVariants as kind
use Rattle.relay_report.specs.Naming.{IsNamedBy}
use Rattle.relay_report.specs.declared.names.Named.{Named}
use Rattle.relay_report.specs.declared.names.ReportFault.{ReportFault}
use Rattle.relay_report.specs.declared.names.ReportFault.TheVariants as fault

-- a line was taken that names an operation, with the line's number
pub record TakesName (old new : Option (List ℕ)) (line : ℕ) (named : Named) : Type 0 where
  pub text : List ℕ
  pub name : OpName
  pub taken : TakesText old new text
  pub says : IsNamedBy text (Some name)
  pub is : named ≡ record { producer = name.producer; number = name.number; line = line }

-- lines were taken one after another, each naming one of these
abbrev pub TakesNames : Option (List ℕ) → Option (List ℕ) → ℕ → List Named → Type 0
TakesNames old new line [] = new ≡ old
TakesNames old new line (n ∷ ns) = (mid : Option (List ℕ)) × TakesName old mid (saturating_count (line + 1)) n × TakesNames mid new (line + 1) ns

-- the first line is too long, or not a line of a report
abbrev pub IsBad : Option (List ℕ) → Type 0
IsBad old = IsLong old ⊎ ((text : List ℕ) × (rest : Option (List ℕ)) × TakesText old rest text × IsNamedBy text None)

-- why there are no more names: the report has ended, or the next line is bad, or a read or an allocation failed
abbrev pub EndsNames : {U : Type 0} → Option (List ℕ) → ℕ → Result U ReportFault → Type 0
EndsNames rest count (Ok _) = IsAtEnd rest
EndsNames rest count (Err (fault.BadLine line)) = IsBad rest × (line ≡ saturating_count (count + 1))
EndsNames rest count (Err fault.Read) = Unit {0}
EndsNames rest count (Err fault.Memory) = Unit {0}

pub record ReadsNames {U : Type 0} (old : Option (List ℕ)) (names : List Named) (result : Result U ReportFault) : Type 0 where
  pub rest : Option (List ℕ)
  pub taken : TakesNames old rest 0 names
  pub ends : EndsNames rest (length names) result

-- the number of failed calls of the stream after this result
abbrev pub ends_failed : {U : Type 0} → Result U ReportFault → ℕ → ℕ
ends_failed (Err fault.Read) n = one_more n
ends_failed other n = n

-- ---- for the steps

-- the fault for that of a line
abbrev pub fault_by : LineKind → ℕ → ReportFault
fault_by kind.Read line = fault.Read
fault_by kind.Memory line = fault.Memory
fault_by other line = fault.BadLine line

abbrev pub line_fault : InputFault → ReportFault
line_fault e = fault_by e.kind e.line

-- the next line names an operation; or the report has ended; or why neither
abbrev pub NamesNext : Option (List ℕ) → Option (List ℕ) → ℕ → ℕ → Result (Option Named) ReportFault → Type 0
NamesNext old new count after (Ok (Some named)) = TakesName old new after named × (after ≡ one_more count)
NamesNext old new count after (Ok None) = IsAtEnd old
NamesNext old new count after (Err (fault.BadLine line)) = IsBad old × (line ≡ one_more count)
NamesNext old new count after (Err fault.Read) = Unit {0}
NamesNext old new count after (Err fault.Memory) = Unit {0}
