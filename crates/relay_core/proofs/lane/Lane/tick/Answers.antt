use Rattle.std.proofs.Common.{rules}
use Rattle.relay_core.proofs.lane.Lane.tick.Goals as goal

pub returns-clause-ticked : goal.returns-clause-ticked
returns-clause-ticked c = search rules
