-- How operations ended, as they are told.
use Rattle.std.specs.Prelude.{List, Option, Some, None}
use Rattle.std.specs.List.{filter_map}
use Rattle.relay_action.specs.declared.operation.OpName.{OpName}
use Rattle.relay_delivery.specs.Machine as delivery
use Rattle.relay_core.specs.declared.success.Success.{Success}
use Rattle.relay_core.specs.Walk.{report_of}
use Rattle.relay_threads.specs.Told.{Told}
use Rattle.relay_telling.specs.declared.ending.Ending.{Ending}
use Rattle.relay_telling.specs.declared.ending.Ending.TheVariants.{Applied, Reported}

-- the operation's name
abbrev pub name_in : Ending → OpName
name_in (Applied success) = success.name
name_in (Reported report) = report.name

-- the success, or the report
abbrev pub success_in : Ending → Option Success
success_in (Applied success) = Some success
success_in (Reported report) = None

abbrev pub report_in : Ending → Option delivery.Report
report_in (Applied success) = None
report_in (Reported report) = Some (report_of report)

-- what these endings tell
abbrev pub told_in : List Ending → Told
told_in endings = record { applied = filter_map success_in endings; reported = filter_map report_in endings }
