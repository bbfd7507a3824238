use Rattle.std.proofs.Common.{rules}
use Rattle.relay_world.proofs.parts.Parts.put.Goals as goal

pub returns-clause-ok : goal.returns-clause-ok
returns-clause-ok c = search rules
