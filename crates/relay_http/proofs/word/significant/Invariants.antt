use Rattle.std.proofs.Common.{◌≡◌, length}
use Rattle.relay_http.specs.Steps.{significant}
use Rattle.relay_http.proofs.word.significant.Given as goal

abbrev pub invariant-loop-s : goal.invariant-loop-s
invariant-loop-s l = significant l.s ≡ significant l.fn.s

abbrev pub decreases-loop-s : goal.decreases-loop-s
decreases-loop-s l = length l.s
