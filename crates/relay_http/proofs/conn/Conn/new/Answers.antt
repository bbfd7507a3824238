use Rattle.std.proofs.Common.{rules}
use Rattle.relay_http.proofs.conn.Conn.new.Goals as goal

pub returns-in-Ok-clause-fresh : goal.returns-in-Ok-clause-fresh
returns-in-Ok-clause-fresh g c = search rules
