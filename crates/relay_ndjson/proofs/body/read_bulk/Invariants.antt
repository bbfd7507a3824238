use Rattle.std.proofs.Common.{length}
use Rattle.relay_ndjson.proofs.Bodies.{HasRead}
use Rattle.relay_ndjson.proofs.body.read_bulk.Given as goal

-- the writes so far precede the rest
abbrev pub invariant-writes : goal.invariant-writes
invariant-writes l = HasRead l.body l.rest l.writes.items l.lines

abbrev pub decreases-writes : goal.decreases-writes
decreases-writes l = length l.rest
