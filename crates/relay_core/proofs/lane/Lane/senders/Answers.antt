use Rattle.std.proofs.Common.{rules}
use Rattle.relay_core.proofs.lane.Lane.senders.Goals as goal

pub returns : goal.returns
returns c = search rules
