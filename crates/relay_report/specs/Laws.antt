-- The line written for a report names its operation.
use Rattle.std.specs.Prelude.{◌≡◌, ◌^◌, nat_lt, true, Some}
use Rattle.relay_results.specs.declared.cause.Cause.{Cause}
use Rattle.relay_results.specs.declared.cause.Cause.TheVariants as cause
use Rattle.relay_core.specs.declared.report.Report.{Report}
use Rattle.relay_report.specs.Reports.{report_data}
use Rattle.relay_report.specs.Naming.{name_of}

-- the numbers in a cause and in a report are within their types
abbrev pub CauseFits : Cause → Type 0
CauseFits (cause.Refused status kind reason) = nat_lt status (2 ^ 16) ≡ true
CauseFits (cause.Request status reason) = nat_lt status (2 ^ 16) ≡ true
CauseFits (cause.GaveUp sends tried) = nat_lt sends (2 ^ 32) ≡ true
CauseFits other = Unit {0}

abbrev pub ReportFits : Report → Type 0
ReportFits r = (nat_lt r.name.epoch (2 ^ 32) ≡ true) × (nat_lt r.name.producer (2 ^ 32) ≡ true) × CauseFits r.cause

abbrev pub NamesReadBack : Type 0
NamesReadBack = (r : Report) → ReportFits r → name_of (report_data r) ≡ Some r.name
