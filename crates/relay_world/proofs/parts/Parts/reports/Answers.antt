use Rattle.std.proofs.Common.{rules}
use Rattle.relay_world.proofs.parts.Parts.reports.Goals as goal

pub returns-in-Some : goal.returns-in-Some
returns-in-Some c = search rules
