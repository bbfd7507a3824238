use Rattle.std.proofs.Common.{◌≡◌, ◌≤◌, ◌+◌, length}
use Rattle.relay_sift.specs.Texts.{line_feeds}
use Rattle.relay_sift.proofs.kept.count_feeds.Given as goal

-- the line feeds so far and those to come
abbrev pub invariant-loop-end : goal.invariant-loop-end
invariant-loop-end l = (l.count + length (line_feeds l.rest) ≡ length (line_feeds l.bytes)) × (l.count + length l.rest ≤ length l.bytes)

abbrev pub decreases-loop-end : goal.decreases-loop-end
decreases-loop-end l = length l.rest
