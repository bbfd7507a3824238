use Rattle.std.proofs.Common.{◌≡◌, ◌+◌, Some, rules}
use Rattle.std.specs.BTreeMap.{get}
use Rattle.std.specs.Ordering.{nat_cmp}
use Rattle.relay_ndjson.proofs.Readings.{answers_of}
use Rattle.relay_report.proofs.Inputs.{on_ok, read_more, read_whole}
use Rattle.relay_report.proofs.keeping.Keeping.read_input.Goals as goal

pub operations-preserved : goal.operations-preserved
operations-preserved g c =
    let taken = answers_of _ _ _ c.operations.invariant.opens (rw c.in-Ok-Some.field-0-is at c.in-Ok-Some.ensures.lines) in
    let name : c.copied.result ≡ get nat_cmp c.args.numbers.now (c.operations.taken + 1) = search rules in
    read_more _ _ _ _ _ _ _ _ _ (get nat_cmp c.args.numbers.now) c.operations.taken taken.0 (c.in-Ok-Some.key, c.in-Ok-Some._action) c.operations.invariant taken.1 (rw name at c.in_ok-note-in-Ok-Some.ensures)

pub returns-in-Err : goal.returns-in-Err
returns-in-Err g c =
    let failed = answers_of _ _ _ c.operations.invariant.opens c.in-Err.ensures.lines in
    on_ok c.stopped.result _ _ (λ end is. read_whole _ _ _ _ _ _ (get nat_cmp c.args.numbers.now) c.operations.taken (Some c.in-Err.fault) end c.operations.invariant is.0 ((_, failed), is.1)) c.stopped.ensures
