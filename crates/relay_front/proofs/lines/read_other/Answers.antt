use Rattle.std.proofs.Common.{sym}
use Rattle.serde_json.specs.Data.{object}
use Rattle.relay_front.proofs.Asking.{not_json, not_one, unknown_action, name_is}
use Rattle.relay_front.proofs.lines.read_other.Goals as goal

pub returns-in-Ok-None-clause-err : goal.returns-in-Ok-None-clause-err
returns-in-Ok-None-clause-err g c =
    let found = rw c.in-Ok-None.field-0-is at c.in-Ok-None.ensures.ok in
    not_one c.args.line.now found.1 found.0 found.2 found.3

pub returns-in-Err-NotJson-clause-err : goal.returns-in-Err-NotJson-clause-err
returns-in-Err-NotJson-clause-err g c = not_json c.args.line.now (c.read_sole_object.ensures.not_json (let e = c.in-Err-NotJson.is in rw c.in-Err-NotJson.field-0-is at e))

pub returns-in_ok-item_of-in-Some-clause-ok : goal.returns-in_ok-item_of-in-Some-clause-ok
returns-in_ok-item_of-in-Some-clause-ok g c =
    let found = rw c.in-Ok-Some.field-0-is at c.in-Ok-Some.ensures.ok in
    let name = name_is c.in-Ok-Some.found.0.now c.in-Some.kind (sym c.in-Some.ensures) in
    let item = c.in_ok-item_of-in-Some.ensures found.3.0 found.3.2 in
    (found.0, found.1, found.2, c.in-Some.kind, found.3.0, rw (sym name) found.3.1, item.0, item.1)

pub returns-in-None-clause-err : goal.returns-in-None-clause-err
returns-in-None-clause-err g c =
    let found = rw c.in-Ok-Some.field-0-is at c.in-Ok-Some.ensures.ok in
    unknown_action c.args.line.now found.1 c.in-Ok-Some.found.0.now (object found.3.0) found.0 found.2 found.3.1 (sym c.in-None.ensures)
