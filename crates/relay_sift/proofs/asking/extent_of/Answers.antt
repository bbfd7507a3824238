use Rattle.std.proofs.Common.{◌∙◌}
use Rattle.serde_json.specs.Data.{object}
use Rattle.relay_sift.proofs.Judging.{extent_found, extent_not_json}
use Rattle.relay_sift.proofs.asking.extent_of.Goals as goal

pub returns-in-Ok-Some : goal.returns-in-Ok-Some
returns-in-Ok-Some c =
    let found = rw c.in-Ok-Some.field-0-is at c.in-Ok-Some.ensures.ok in
    c.extent_named.ensures ∙ extent_found c.args.line.now found.1 c.in-Ok-Some.name.now (object found.3.0) found.0 found.2 found.3.1

pub returns-in-Err-NotJson : goal.returns-in-Err-NotJson
returns-in-Err-NotJson c = extent_not_json c.args.line.now (c.read_sole_object.ensures.not_json (let e = c.in-Err-NotJson.is in rw c.in-Err-NotJson.field-0-is at e))
