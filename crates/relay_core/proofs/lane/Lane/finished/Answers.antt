use Rattle.std.proofs.Common.{rules}
use Rattle.relay_core.proofs.lane.Lane.finished.Goals as goal

pub returns-then-closed : goal.returns-then-closed
returns-then-closed c = search rules
