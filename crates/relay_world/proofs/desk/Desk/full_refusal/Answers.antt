use Rattle.std.proofs.Common.{rules}
use Rattle.relay_world.proofs.desk.Desk.full_refusal.Goals as goal

pub returns-else-len-capacity : goal.returns-else-len-capacity
returns-else-len-capacity c = search rules
