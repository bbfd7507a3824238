use Rattle.std.proofs.Common.{Ok, Err}
use Rattle.std.proofs.lemmas.Result.{err_from_is_err_and}
use Rattle.relay_scenario.proofs.Passing.{passes_then}
use Rattle.relay_scenario.proofs.ending.write_applied.Goals as goal

pub returns-in_err-pass_on : goal.returns-in_err-pass_on
returns-in_err-pass_on g c =
    let p = err_from_is_err_and c.from_residual.result c.from_residual.ensures.1 in
    rw (p.1, p.2) (passes_then _ _ _ _ _ _ _ _ _ _ (Err c.in_err-pass_on.field-0.0) c.writes.invariant c.in_err-pass_on.ensures)

pub writes-preserved : goal.writes-preserved
writes-preserved g c = passes_then _ _ _ _ _ _ _ _ _ _ (Ok c.in_ok-pass_on.field-0) c.writes.invariant c.in_ok-pass_on.ensures
