use Rattle.std.proofs.Common.{rules}
use Rattle.relay_world.proofs.parts.Parts.entries.Goals as goal

pub returns-then-picks-items : goal.returns-then-picks-items
returns-then-picks-items c = search rules
