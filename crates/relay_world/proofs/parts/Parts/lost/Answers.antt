use Rattle.std.proofs.Common.{rules}
use Rattle.relay_world.proofs.parts.Parts.lost.Goals as goal

pub returns-in-Ok : goal.returns-in-Ok
returns-in-Ok c = search rules
