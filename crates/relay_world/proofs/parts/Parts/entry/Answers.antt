use Rattle.std.proofs.Common.{rules}
use Rattle.relay_world.proofs.parts.Parts.entry.Goals as goal

pub returns : goal.returns
returns c = search rules
