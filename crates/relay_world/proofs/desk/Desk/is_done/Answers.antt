use Rattle.std.proofs.Common.{rules}
use Rattle.relay_world.proofs.desk.Desk.is_done.Goals as goal

pub returns-then-len-eq0 : goal.returns-then-len-eq0
returns-then-len-eq0 c = search rules
