use Rattle.std.proofs.Common.{rules}
use Rattle.relay_core.proofs.taking.kept_of.Goals as goal

pub returns : goal.returns
returns c = search rules
