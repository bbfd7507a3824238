use Rattle.std.proofs.Common.{◌≡◌, ◌++◌, drop, flat_map}
use Rattle.relay_report.specs.Reports.{report_line}
use Rattle.relay_report.proofs.text.append_reports.Given as goal

-- the text so far and that of the reports to come is the text before and the whole text
abbrev pub invariant-reports : goal.invariant-reports
invariant-reports l = l.text.items ++ flat_map report_line (drop l.report-index l.reports) ≡ l.fn.text.items ++ flat_map report_line l.reports
