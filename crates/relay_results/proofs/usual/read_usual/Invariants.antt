use Rattle.std.proofs.Common.{length}
use Rattle.relay_results.specs.Usual.{HasRead}
use Rattle.relay_results.proofs.usual.read_usual.Given as goal

-- the outcomes so far precede the rest
abbrev pub invariant-entries : goal.invariant-entries
invariant-entries l = HasRead l.bytes l.outcomes.items l.rest

abbrev pub decreases-entries : goal.decreases-entries
decreases-entries l = length l.rest
