use Rattle.std.proofs.Common.{rules}
use Rattle.relay_world.proofs.parts.Parts.sent.Goals as goal

pub returns-clause-write : goal.returns-clause-write
returns-clause-write c = search rules
