use Rattle.std.proofs.lemmas.Result.{err_from_is_err_and}
use Rattle.relay_ndjson.proofs.Bodies.{delete_taken, index_taken, source_lost}
use Rattle.relay_ndjson.proofs.body.take_write.Goals as goal

pub returns-in-Delete-clause-ok : goal.returns-in-Delete-clause-ok
returns-in-Delete-clause-ok c =
    let asked = c.in-Ok-read_versioned.asked in
    let says = rw c.in-Delete.is at c.in-Ok-read_versioned.ensures.ok in
    delete_taken c.args.bytes.now c.in-Ok.front.1.now c.in-Ok.front.0.now asked.key asked.version c.delete.result c.delete.ensures c.in-Ok.ensures.ok says

pub returns-in_ok-action-in-Index-clause-ok : goal.returns-in_ok-action-in-Index-clause-ok
returns-in_ok-action-in-Index-clause-ok c =
    let asked = c.in-Ok-read_versioned.asked in
    let says = rw c.in-Index.is at c.in-Ok-read_versioned.ensures.ok in
    index_taken c.args.bytes.now c.in-Ok.front.1.now c.in_ok-action-in-Index.rest.now c.in-Ok.front.0.now asked.key asked.version c.in_ok-action-in-Index.action c.in-Ok.ensures.ok says c.in_ok-action-in-Index.ensures.ok

pub returns-in_err-action-in-Index-clause-err : goal.returns-in_err-action-in-Index-clause-err
returns-in_err-action-in-Index-clause-err c =
    let p = err_from_is_err_and c.from_residual.result c.from_residual.ensures.1 in
    let asked = c.in-Ok-read_versioned.asked in
    let fault = c.in_err-action-in-Index.field-0.0 in
    let says = rw c.in-Index.is at c.in-Ok-read_versioned.ensures.ok in
    rw (p.1, p.2) (source_lost c.args.bytes.now c.in-Ok.front.1.now c.in-Ok.front.0.now asked.key asked.version fault.line fault.kind c.in-Ok.ensures.ok says c.in_err-action-in-Index.ensures.err)
