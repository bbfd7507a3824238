use Rattle.std.proofs.Common.{rules}
use Rattle.relay_core.proofs.lane.Lane.max_held.Goals as goal

pub returns : goal.returns
returns c = search rules
