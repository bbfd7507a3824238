use Rattle.std.proofs.Common.{rules}
use Rattle.relay_http.proofs.WrittenAnswers.{answer_written}
use Rattle.relay_http.proofs.conn.Conn.write_answer.Goals as goal

pub returns-then-is_broken-clause-message : goal.returns-then-is_broken-clause-message
returns-then-is_broken-clause-message g c = answer_written c.args.status c.args.body.now _ c.requires.status c.requires.size

pub returns-clause-message : goal.returns-clause-message
returns-clause-message g c = answer_written c.args.status c.args.body.now _ c.requires.status c.requires.size

pub returns-clause-sent : goal.returns-clause-sent
returns-clause-sent g c = search rules

pub returns-clause-phase : goal.returns-clause-phase
returns-clause-phase g c = search rules
