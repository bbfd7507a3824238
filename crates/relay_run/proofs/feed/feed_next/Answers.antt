use Rattle.std.proofs.lemmas.Result.{err_from_is_err_and}
use Rattle.relay_ndjson.proofs.Readings.{answers_of}
use Rattle.relay_run.proofs.Feeding.{refused_stops, not_stopped, told_end}
use Rattle.relay_run.proofs.feed.feed_next.Goals as goal

pub returns-in_ok-put-in-Ok-Some-clause-next : goal.returns-in_ok-put-in-Ok-Some-clause-next
returns-in_ok-put-in-Ok-Some-clause-next g c =
    let taken = answers_of _ _ _ c.requires (rw c.in-Ok-Some.field-0-is at c.in-Ok-Some.ensures.lines) in (
      (taken.0, (c.in-Ok-Some.key, c.in-Ok-Some.action), taken.1, c.in_ok-put-in-Ok-Some.ensures.puts.0, c.in_ok-put-in-Ok-Some.ensures.puts.1),
      told_end c.args.telling.now c.flush_before.new.telling c.put.new.self c.last_line.result c.line.result c.used.result c.next.new.self (c.in-Ok-Some.key, c.in-Ok-Some.action) c.flush_before.ensures c.put.ensures c.last_line.ensures c.line.ensures c.used.ensures,
    )

pub returns-in_err-put-in-Ok-Some-clause-next : goal.returns-in_err-put-in-Ok-Some-clause-next
returns-in_err-put-in-Ok-Some-clause-next g c =
    let p = err_from_is_err_and c.from_residual.result c.from_residual.ensures.1 in
    let taken = answers_of _ _ _ c.requires (rw c.in-Ok-Some.field-0-is at c.in-Ok-Some.ensures.lines) in
    let told = told_end c.args.telling.now c.flush_before.new.telling c.put.new.self c.last_line.result c.line.result c.used.result c.next.new.self (c.in-Ok-Some.key, c.in-Ok-Some.action) c.flush_before.ensures c.put.ensures c.last_line.ensures c.line.ensures c.used.ensures in
    rw (p.1, p.2) (refused_stops c.args.input.now c.next.new.self c.args.producer.now c.put-in-Ok-Some.new.producer c.args.telling.now c.put.new.self taken.0 (c.in-Ok-Some.key, c.in-Ok-Some.action) c.in_err-put-in-Ok-Some.field-0.0 taken.1 c.in_err-put-in-Ok-Some.ensures.puts told)

pub returns-in_err-put-in-Ok-Some-clause-reads : goal.returns-in_err-put-in-Ok-Some-clause-reads
returns-in_err-put-in-Ok-Some-clause-reads g c =
    let p = err_from_is_err_and c.from_residual.result c.from_residual.ensures.1 in
    rw (p.1, p.2) (λ is. not_stopped c.in-Ok-Some.key c.in-Ok-Some.action _ _ c.in_err-put-in-Ok-Some.field-0.0 c.in_err-put-in-Ok-Some.ensures.puts is)
