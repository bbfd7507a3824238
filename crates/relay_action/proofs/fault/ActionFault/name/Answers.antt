use Rattle.std.proofs.Common.{rules}
use Rattle.relay_action.proofs.fault.ActionFault.name.Goals as goal

pub returns-in-SourceLong : goal.returns-in-SourceLong
returns-in-SourceLong c = search rules
