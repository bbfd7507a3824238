use Rattle.std.proofs.Common.{rules}
use Rattle.relay_world.proofs.desk.Desk.front_refusal.Goals as goal

pub returns-in-Some-2 : goal.returns-in-Some-2
returns-in-Some-2 c = search rules
