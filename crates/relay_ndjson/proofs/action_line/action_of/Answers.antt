use Rattle.std.proofs.Common.{inr, sym}
use Rattle.serde_json.specs.Data.{object}
use Rattle.relay_ndjson.proofs.Asking.{not_json, not_one_action, unsupported}
use Rattle.relay_ndjson.proofs.action_line.action_of.Goals as goal

pub returns-in-Ok-None-clause-err : goal.returns-in-Ok-None-clause-err
returns-in-Ok-None-clause-err c =
    let found = rw c.in-Ok-None.field-0-is at c.in-Ok-None.ensures.ok in
    inr (λ of_metadata. not_one_action of_metadata c.args.line.now found.1 found.0 found.2 found.3)

pub returns-in-Err-NotJson-clause-err : goal.returns-in-Err-NotJson-clause-err
returns-in-Err-NotJson-clause-err c = inr (λ of_metadata. not_json of_metadata c.args.line.now (c.read_sole_object.ensures.not_json (let e = c.in-Err-NotJson.is in rw c.in-Err-NotJson.field-0-is at e)))

pub returns-in-None-clause-err : goal.returns-in-None-clause-err
returns-in-None-clause-err c =
    let found = rw c.in-Ok-Some.field-0-is at c.in-Ok-Some.ensures.ok in
    inr (λ of_metadata. unsupported of_metadata c.args.line.now found.1 c.in-Ok-Some.action.0.now (object found.3.0) found.0 found.2 found.3.1 (sym c.in-None.ensures))
