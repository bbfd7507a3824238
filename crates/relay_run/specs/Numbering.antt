-- The numbers of operations in a run that goes on with its inputs.
use Rattle.std.specs.Prelude.{ℕ, ◌+◌, List, Option, None, Some, slice_get, take, unwrap_or}
use Rattle.relay_action.specs.declared.operation.OpName.{OpName}
use Rattle.relay_core.specs.declared.report.Report.{Report}
use Rattle.relay_ndjson.specs.Operations.{saturating_count}
use Rattle.relay_resume.specs.declared.state.TheConstants.{INPUT_LIMIT}
use Rattle.relay_resume.specs.declared.mark.Mark.{Mark}

-- how many operations of a producer's input were settled before the run, given those of the first ones; none of others
abbrev pub settled_before : List ℕ → ℕ → ℕ
settled_before before producer = unwrap_or (slice_get before producer) 0

-- how many operations come before a mark, if there is one
abbrev pub count_before : Option Mark → ℕ
count_before None = 0
count_before (Some mark) = mark.count

-- how many operations of a producer's input come before the mark from which it is read; only the first inputs have marks
abbrev pub started_before : List Mark → ℕ → ℕ
started_before starts producer = count_before (slice_get (take INPUT_LIMIT starts) producer)

-- the name of an operation with its number from the start of its input on, which saturates
abbrev pub name_on : List ℕ → OpName → OpName
name_on before name = record name { number = saturating_count (name.number + settled_before before name.producer) }

-- the report under that name
abbrev pub report_on : List ℕ → Report → Report
report_on before r = record r { name = name_on before r.name }
