use Rattle.std.proofs.Common.{rules}
use Rattle.relay_stub.proofs.connection.serve_connection.Goals as goal

pub returns-in-Err : goal.returns-in-Err
returns-in-Err c = search rules
