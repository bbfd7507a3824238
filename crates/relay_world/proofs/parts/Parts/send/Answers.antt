use Rattle.std.proofs.Common.{rules}
use Rattle.relay_world.proofs.parts.Parts.send.Goals as goal

pub returns-then-branch-clause-ok : goal.returns-then-branch-clause-ok
returns-then-branch-clause-ok c = search rules
