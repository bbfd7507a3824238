use Rattle.std.proofs.Common.{Ok, Err}
use Rattle.std.proofs.lemmas.Result.{err_from_is_err_and}
use Rattle.relay_scenario.proofs.Passing.{passes_then}
use Rattle.relay_scenario.proofs.ending.write_ending.Goals as goal

pub returns-in_err-write_all_applied : goal.returns-in_err-write_all_applied
returns-in_err-write_all_applied g c =
    let p = err_from_is_err_and c.from_residual-in_err-write_all_applied.result c.from_residual-in_err-write_all_applied.ensures.1 in
    let one = c.in_ok-write_all_accepted.ensures in
    rw (p.1, p.2) (passes_then _ _ _ _ _ _ _ _ _ _ (Err c.in_err-write_all_applied.field-0.0) one c.in_err-write_all_applied.ensures)

pub returns-in_err-write_all_reports : goal.returns-in_err-write_all_reports
returns-in_err-write_all_reports g c =
    let p = err_from_is_err_and c.from_residual-in_err-write_all_reports.result c.from_residual-in_err-write_all_reports.ensures.1 in
    let one = c.in_ok-write_all_accepted.ensures in
    let two = passes_then _ _ _ _ _ _ _ _ _ _ (Ok c.in_ok-write_all_applied.field-0) one c.in_ok-write_all_applied.ensures in
    rw (p.1, p.2) (passes_then _ _ _ _ _ _ _ _ _ _ (Err c.in_err-write_all_reports.field-0.0) two c.in_err-write_all_reports.ensures)

pub returns : goal.returns
returns g c =
    let one = c.in_ok-write_all_accepted.ensures in
    let two = passes_then _ _ _ _ _ _ _ _ _ _ (Ok c.in_ok-write_all_applied.field-0) one c.in_ok-write_all_applied.ensures in
    let three = passes_then _ _ _ _ _ _ _ _ _ _ (Ok c.in_ok-write_all_reports.field-0) two c.in_ok-write_all_reports.ensures in
    passes_then _ _ _ _ _ _ _ _ _ _ c.pass_on.result three c.pass_on.ensures
