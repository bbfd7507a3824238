use Rattle.std.proofs.Common.{rules}
use Rattle.relay_world.proofs.parts.running.may_choose.Goals as goal

pub returns-in-Refuse : goal.returns-in-Refuse
returns-in-Refuse c = search rules
