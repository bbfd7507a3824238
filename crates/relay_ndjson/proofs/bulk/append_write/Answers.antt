use Rattle.std.proofs.Common.{rules}
use Rattle.relay_ndjson.proofs.bulk.append_write.Goals as goal

pub returns-then-is_err-clause-err : goal.returns-then-is_err-clause-err
returns-then-is_err-clause-err c = search rules
