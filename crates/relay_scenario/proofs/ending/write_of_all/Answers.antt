use Rattle.std.proofs.Common.{Ok, Err}
use Rattle.std.proofs.lemmas.Result.{err_from_is_err_and}
use Rattle.relay_scenario.proofs.Passing.{passes_then}
use Rattle.relay_scenario.proofs.ending.write_of_all.Goals as goal

pub returns-in_err-write_applied : goal.returns-in_err-write_applied
returns-in_err-write_applied g c =
    let p = err_from_is_err_and c.from_residual.result c.from_residual.ensures.1 in
    rw (p.1, p.2) (passes_then _ _ _ _ _ _ _ _ _ _ (Err c.in_err-write_applied.field-0.0) c.keys.invariant c.in_err-write_applied.ensures)

pub keys-preserved : goal.keys-preserved
keys-preserved g c = passes_then _ _ _ _ _ _ _ _ _ _ (Ok c.in_ok-write_applied.field-0) c.keys.invariant c.in_ok-write_applied.ensures
