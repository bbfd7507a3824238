use Rattle.std.proofs.Common.{Ok, Err}
use Rattle.std.proofs.lemmas.Result.{err_from_is_err_and}
use Rattle.relay_scenario.proofs.Passing.{passes_then}
use Rattle.relay_scenario.proofs.ending.write_all_reports.Goals as goal

pub returns-in_err-write_reports : goal.returns-in_err-write_reports
returns-in_err-write_reports g c =
    let p = err_from_is_err_and c.from_residual.result c.from_residual.ensures.1 in
    rw (p.1, p.2) (passes_then _ _ _ _ _ _ _ _ _ _ (Err c.in_err-write_reports.field-0.0) c.lanes.invariant c.in_err-write_reports.ensures)

pub lanes-preserved : goal.lanes-preserved
lanes-preserved g c = passes_then _ _ _ _ _ _ _ _ _ _ (Ok c.in_ok-write_reports.field-0) c.lanes.invariant c.in_ok-write_reports.ensures
