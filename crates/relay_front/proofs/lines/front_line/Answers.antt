use Rattle.relay_ndjson.proofs.Pieces.{nowhere_unbroken}
use Rattle.relay_front.proofs.FrontLines.{line_taken}
use Rattle.relay_front.proofs.lines.front_line.Goals as goal

pub returns-clause-line : goal.returns-clause-line
returns-clause-line c =
    line_taken c.args.bytes.now c.without_return.result.now c.in-Some.end c.in-Some.ensures c.without_return.ensures

pub returns-in_default-clause-line : goal.returns-in_default-clause-line
returns-in_default-clause-line c = nowhere_unbroken c.args.bytes.now c.in_default.ensures
