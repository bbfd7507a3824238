use Rattle.std.proofs.Common.{rules, ap, subst, sym}
use Rattle.relay_json.specs.Walks.{IsLeaf, IsGatheredOrLeaf}
use Rattle.relay_results.specs.Parts.{HoldsTexts, told_error}
use Rattle.relay_results.proofs.reading.read_error.Goals as goal

pub returns-in-Err-Null-clause-ok : goal.returns-in-Err-Null-clause-ok
returns-in-Err-Null-clause-ok c =
    let read = c.in_ok-error.ensures.ok in
    let found = subst (IsGatheredOrLeaf HoldsTexts read.0) c.in-Err-Null.is read.2 in
    (read.0, read.1, sym (ap told_error (subst (λ l. IsLeaf l read.0) c.in-Err-Null.field-0-is found.1)))

pub returns-in-Err : goal.returns-in-Err
returns-in-Err c = search rules
