use Rattle.std.proofs.Common.{rules}
use Rattle.relay_stub.proofs.command.exit_of_stub.Goals as goal

pub returns-in-Memory : goal.returns-in-Memory
returns-in-Memory c = search rules
