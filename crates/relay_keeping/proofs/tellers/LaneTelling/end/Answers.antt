use Rattle.std.proofs.Common.{subst}
use Rattle.relay_keeping.specs.Tellers.{TellsOnly}
use Rattle.relay_keeping.proofs.tellers.LaneTelling.end.Goals as goal

pub returns-clause-only : goal.returns-clause-only
returns-clause-only c = subst TellsOnly c.self.view_is c.self.invariant
