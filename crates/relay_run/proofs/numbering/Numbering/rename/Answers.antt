use Rattle.std.specs.Vec.Iter.{into_iter_items}
use Rattle.relay_run.specs.Numbering.{report_on}
use Rattle.relay_run.proofs.Numbers.{renamed_on}
use Rattle.relay_run.proofs.numbering.Numbering.rename.Goals as goal

pub loop-report-preserved : goal.loop-report-preserved
loop-report-preserved c =
    renamed_on (report_on c.args.self.now.before) c.loop-report.renamed.items c.push.new.self.items c.args.reports.items (into_iter_items c.loop-report.report-iterator) (into_iter_items c.next.new.self)
    c.in-Some.report c.renamed.result c.in-Some.ensures.steps.0 c.renamed.ensures c.in_ok-push.ensures.items c.loop-report.invariant
