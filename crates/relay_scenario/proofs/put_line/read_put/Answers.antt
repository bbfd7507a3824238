use Rattle.std.proofs.lemmas.Result.{err_from_is_err_and}
use Rattle.relay_scenario.proofs.Refusing.{no_producer, no_document, no_action}
use Rattle.relay_scenario.proofs.put_line.read_put.Goals as goal

pub returns-in_default-producer_of-clause-err : goal.returns-in_default-producer_of-clause-err
returns-in_default-producer_of-clause-err c = no_producer _ _ _ c.in-Some.ensures c.in_default-producer_of.ensures.none

pub returns-in_err-key-clause-err : goal.returns-in_err-key-clause-err
returns-in_err-key-clause-err c =
    let p = err_from_is_err_and c.from_residual.result c.from_residual.ensures.1 in
    rw (p.1, p.2) (no_document _ _ _ c.in_err-key.field-0.0 c.in-Some.ensures c.in_err-key.ensures.err)

pub returns-in_err-action-clause-err : goal.returns-in_err-action-clause-err
returns-in_err-action-clause-err c =
    let p = err_from_is_err_and c.from_residual-in_err-action.result c.from_residual-in_err-action.ensures.1 in
    rw (p.1, p.2) (no_action _ _ _ _ _ c.in_err-action.field-0.0 c.in-Some.ensures c.in_ok-key.ensures.ok c.in_err-action.ensures.err)
