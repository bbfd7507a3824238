use Rattle.relay_ndjson.proofs.Readings.{answers_of}
use Rattle.std.proofs.lemmas.Result.{err_from_is_err_and}
use Rattle.relay_commands.proofs.Passing.{no_write_of, past_after, write_after}
use Rattle.relay_commands.proofs.lines.next_write.Goals as goal

pub returns-in-Err-clause-next : goal.returns-in-Err-clause-next
returns-in-Err-clause-next g c = rw c.fault_of.ensures (no_write_of c.args.version _ _ c.in-Err.fault (answers_of _ _ _ c.requires c.in-Err.ensures.lines))

pub returns-in_ok-write-in-Ok-Some-clause-next : goal.returns-in_ok-write-in-Ok-Some-clause-next
returns-in_ok-write-in-Ok-Some-clause-next g c =
    let taken = answers_of _ _ _ c.requires (rw c.in-Ok-Some.field-0-is at c.in-Ok-Some.ensures.lines) in
    write_after c.args.version taken.0 c.line.result _ _ _ c.in_ok-write-in-Ok-Some.write taken.1 c.in_ok-write-in-Ok-Some.ensures

pub returns-in_err-write-in-Ok-Some-clause-next : goal.returns-in_err-write-in-Ok-Some-clause-next
returns-in_err-write-in-Ok-Some-clause-next g c =
    let p = err_from_is_err_and c.from_residual.result c.from_residual.ensures.1 in
    let taken = answers_of _ _ _ c.requires (rw c.in-Ok-Some.field-0-is at c.in-Ok-Some.ensures.lines) in
    rw (p.1, p.2) (past_after c.args.version taken.0 _ _ _ _ c.in_err-write-in-Ok-Some.field-0.0 taken.1 c.line.ensures c.in_err-write-in-Ok-Some.ensures)
