use Rattle.std.proofs.Common.{rules}
use Rattle.relay_stub.proofs.command.send.Goals as goal

pub returns-in-Err : goal.returns-in-Err
returns-in-Err c = search rules
