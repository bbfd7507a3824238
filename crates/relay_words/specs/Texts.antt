-- Names, documents and causes as they are printed.
use Rattle.std.specs.Prelude.{ℕ, List, [], ◌++◌, ◌==◌, if◌then◌else◌, codes, decimal}
use Rattle.relay_action.specs.declared.key.DocKey.{DocKey}
use Rattle.relay_action.specs.declared.operation.OpName.{OpName}
use Rattle.relay_results.specs.declared.cause.Cause.{Cause}
use Rattle.relay_results.specs.declared.cause.Cause.TheVariants as cause

-- a space and a number
abbrev pub spaced_number : ℕ → List ℕ
spaced_number n = codes " " ++ decimal n

-- nothing in epoch 0, and `E.` in any other
abbrev pub epoch_text : ℕ → List ℕ
epoch_text epoch = if epoch == 0 then [] else decimal epoch ++ codes "."

-- the name of an operation, `P:N` in epoch 0, and `E.P:N` in any other
abbrev pub name_text : OpName → List ℕ
name_text name = epoch_text name.epoch ++ decimal name.producer ++ codes ":" ++ decimal name.number

-- a document, `INDEX/ID`
abbrev pub document_text : DocKey → List ℕ
document_text key = key.index ++ codes "/" ++ key.id

-- the cause of a report: its name, and its details
abbrev pub cause_text : Cause → List ℕ
cause_text (cause.Refused status kind reason) = codes "Refused" ++ spaced_number status ++ codes " " ++ kind
cause_text (cause.Request status reason) = codes "Request" ++ spaced_number status
cause_text (cause.Conflict stored reason) = codes "Conflict"
cause_text (cause.GaveUp sends tried) = codes "GaveUp" ++ spaced_number sends
cause_text cause.Spent = codes "Spent"
