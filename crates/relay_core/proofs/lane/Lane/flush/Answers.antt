use Rattle.std.proofs.Common.{rules}
use Rattle.relay_core.proofs.lane.Lane.flush.Goals as goal

pub returns-then-self-gt0-clause-flushed : goal.returns-then-self-gt0-clause-flushed
returns-then-self-gt0-clause-flushed c = search rules
