use Rattle.std.proofs.Common.{rules}
use Rattle.relay_http.proofs.conn.Conn.held.Goals as goal

pub returns-clause-count : goal.returns-clause-count
returns-clause-count g c = search rules
