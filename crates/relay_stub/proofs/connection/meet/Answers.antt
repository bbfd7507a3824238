use Rattle.std.proofs.Common.{rules}
use Rattle.relay_stub.proofs.connection.meet.Goals as goal

pub returns : goal.returns
returns c = search rules
