use Rattle.std.proofs.Common.{rules}
use Rattle.relay_ndjson.proofs.bulk.write_write.Goals as goal

pub returns-clause-text : goal.returns-clause-text
returns-clause-text g c = search rules
