-- Kinds of faults.
use Rattle.std.specs.Prelude.{ℕ, List, codes}
use Rattle.relay_action.specs.Faults.{fault_name}
use Rattle.relay_action.specs.declared.fault.ActionFault.{ActionFault}
use Rattle.relay_action.specs.declared.fault.ActionFault.TheVariants as fault
use Rattle.relay_ndjson.specs.declared.kind.LineKind.{LineKind}
use Rattle.relay_ndjson.specs.declared.kind.LineKind.TheVariants as kind

-- a failed allocation has its own kind
abbrev pub kind_of : ActionFault → LineKind
kind_of fault.Memory = kind.Memory
kind_of other = kind.Action other

-- the name of a kind
abbrev pub name_of : LineKind → List ℕ
name_of kind.NotJson = codes "NotJson"
name_of kind.NotOneAction = codes "NotOneAction"
name_of kind.UnsupportedAction = codes "UnsupportedAction"
name_of kind.UnsupportedField = codes "UnsupportedField"
name_of kind.MissingIndex = codes "MissingIndex"
name_of kind.MissingId = codes "MissingId"
name_of kind.VersionGiven = codes "VersionGiven"
name_of kind.VersionMissing = codes "VersionMissing"
name_of kind.SourceMissing = codes "SourceMissing"
name_of (kind.Action fault) = fault_name fault
name_of kind.NoFinalNewline = codes "NoFinalNewline"
name_of kind.LineLong = codes "LineLong"
name_of kind.Read = codes "Read"
name_of kind.Memory = codes "Memory"
name_of kind.Failed = codes "Failed"
