use Rattle.relay_ndjson.proofs.Pieces.{nowhere_unbroken}
use Rattle.relay_sift.proofs.Keeping.{after_feed, after_none}
use Rattle.relay_sift.proofs.kept.after_line.Goals as goal

pub returns-in-Some : goal.returns-in-Some
returns-in-Some c = after_feed c.args.bytes.now c.in-Some.end c.in-Some.ensures

pub returns-in-None : goal.returns-in-None
returns-in-None c = after_none c.args.bytes.now (nowhere_unbroken c.args.bytes.now c.in-None.ensures)
