use Rattle.relay_ndjson.proofs.Bodies.{open_too_long, end_missing, ended_too_long, line_taken}
use Rattle.relay_ndjson.proofs.body.front_line.Goals as goal

pub returns-then-bytes-gt-LINE_LIMIT-clause-err : goal.returns-then-bytes-gt-LINE_LIMIT-clause-err
returns-then-bytes-gt-LINE_LIMIT-clause-err c = open_too_long c.args.bytes.now c.in_default.ensures c.if-bytes-gt-LINE_LIMIT.true

pub returns-in_default-clause-err : goal.returns-in_default-clause-err
returns-in_default-clause-err c = end_missing c.args.bytes.now c.requires c.in_default.ensures c.if-bytes-gt-LINE_LIMIT.false

pub returns-then-text-gt-LINE_LIMIT-clause-err : goal.returns-then-text-gt-LINE_LIMIT-clause-err
returns-then-text-gt-LINE_LIMIT-clause-err c =
    ended_too_long c.args.bytes.now c.without_return-text.result.now c.in-Some.end c.in-Some.ensures c.without_return-text.ensures c.if-text-gt-LINE_LIMIT.true

pub returns-clause-ok : goal.returns-clause-ok
returns-clause-ok c =
    line_taken c.args.bytes.now c.without_return-text.result.now c.in-Some.end c.in-Some.ensures c.without_return-text.ensures c.if-text-gt-LINE_LIMIT.false
