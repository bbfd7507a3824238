use Rattle.std.proofs.Common.{rules}
use Rattle.relay_core.proofs.lane.way_of.Goals as goal

pub returns-in-429 : goal.returns-in-429
returns-in-429 c = search rules
