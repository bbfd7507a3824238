use Rattle.std.proofs.Common.{rules}
use Rattle.relay_world.proofs.world.play.Goals as goal

pub returns-in-Take-clause-ok : goal.returns-in-Take-clause-ok
returns-in-Take-clause-ok c = search rules

pub returns-in-Run-clause-ok : goal.returns-in-Run-clause-ok
returns-in-Run-clause-ok c = search rules
