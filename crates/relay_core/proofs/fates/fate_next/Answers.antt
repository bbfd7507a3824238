use Rattle.std.proofs.Common.{rules}
use Rattle.relay_core.proofs.fates.fate_next.Goals as goal

pub returns-then-tries : goal.returns-then-tries
returns-then-tries c = search rules
