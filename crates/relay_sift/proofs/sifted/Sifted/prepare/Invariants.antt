use Rattle.relay_sift.specs.Sifting.{Advances}
use Rattle.relay_sift.proofs.sifted.Sifted.prepare.Given as goal

-- nothing was passed on
abbrev pub invariant-steps : goal.invariant-steps
invariant-steps g l = Advances l.fn.self l.self
