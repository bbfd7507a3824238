use Rattle.std.proofs.Common.{rules}
use Rattle.relay_results.proofs.reading.parse_reply.Goals as goal

pub returns-then-entries-clause-err : goal.returns-then-entries-clause-err
returns-then-entries-clause-err c = search rules
