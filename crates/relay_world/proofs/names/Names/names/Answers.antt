use Rattle.std.proofs.Common.{rules}
use Rattle.relay_world.proofs.names.Names.names.Goals as goal

pub returns-in-Some : goal.returns-in-Some
returns-in-Some c = search rules
