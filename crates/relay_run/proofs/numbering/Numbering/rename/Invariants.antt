use Rattle.std.proofs.Common.{◌≡◌, ◌++◌, map}
use Rattle.std.specs.Vec.Iter.{into_iter_items}
use Rattle.relay_run.specs.Numbering.{report_on}
use Rattle.relay_run.proofs.numbering.Numbering.rename.Given as goal

-- those that were renamed, and those to come
abbrev pub invariant-loop-report : goal.invariant-loop-report
invariant-loop-report l = l.renamed.items ++ map (report_on l.self.before) (into_iter_items l.report-iterator) ≡ map (report_on l.self.before) l.fn.reports.items
