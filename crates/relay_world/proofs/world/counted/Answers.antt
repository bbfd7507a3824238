use Rattle.std.proofs.Common.{rules}
use Rattle.relay_world.proofs.world.counted.Goals as goal

pub returns-in-Refused : goal.returns-in-Refused
returns-in-Refused c = search rules
