use Rattle.std.proofs.Common.{◌≡◌, ◌++◌, flat_map, take}
use Rattle.relay_run.specs.Outcomes.{report_line}
use Rattle.relay_run.proofs.outcome.add_reports.Given as goal

abbrev pub invariant-reports : goal.invariant-reports
invariant-reports l = l.text.items ≡ l.fn.text.items ++ flat_map report_line (take l.report-index l.fn.reports)
