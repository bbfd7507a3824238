use Rattle.std.proofs.Common.{rules}
use Rattle.relay_core.proofs.fates.fate_by.Goals as goal

pub returns-in-Conflict : goal.returns-in-Conflict
returns-in-Conflict c = search rules
