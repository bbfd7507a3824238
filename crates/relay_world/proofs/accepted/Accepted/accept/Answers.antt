use Rattle.std.proofs.Common.{rules}
use Rattle.relay_world.proofs.accepted.Accepted.accept.Goals as goal

pub returns-clause-list : goal.returns-clause-list
returns-clause-list c = search rules
