use Rattle.relay_ndjson.proofs.Pieces.{nowhere_unbroken}
use Rattle.relay_sift.proofs.FirstLines.{first_ended}
use Rattle.relay_sift.proofs.lines.first_line.Goals as goal

pub open_line-requires : goal.open_line-requires
open_line-requires c = nowhere_unbroken c.args.bytes.now c.in-None.ensures

pub returns-in-Some : goal.returns-in-Some
returns-in-Some c = first_ended c.args.bytes.now c.args.ended c.in-Some.end c.sized.result c.in-Some.ensures c.sized.ensures
