use Rattle.std.proofs.Common.{rules}
use Rattle.relay_ndjson.specs.Bulk.{text_of}
use Rattle.relay_http.proofs.WrittenRequests.{request_written}
use Rattle.relay_http.proofs.conn.Conn.write_request.Goals as goal

pub returns-then-not-is_open-clause-message : goal.returns-then-not-is_open-clause-message
returns-then-not-is_open-clause-message g c = request_written c.args.host.now (text_of c.args.writes.now) c.requires.host c.requires.size

pub returns-clause-message : goal.returns-clause-message
returns-clause-message g c = request_written c.args.host.now (text_of c.args.writes.now) c.requires.host c.requires.size

pub returns-clause-phase : goal.returns-clause-phase
returns-clause-phase g c = search rules
