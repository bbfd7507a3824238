use Rattle.relay_run.proofs.Hinting.{greatest_next}
use Rattle.relay_run.proofs.hint.greatest_stored.Goals as goal

pub loop-report-preserved : goal.loop-report-preserved
loop-report-preserved c =
    greatest_next c.args.reports.now c.loop-report.report-index c.report-item.result c.loop-report.greatest c.stored_by.result c.higher-greatest.result c.loop-report-test.true c.report-item.is c.stored_by.ensures c.higher-greatest.ensures
    c.loop-report.invariant
