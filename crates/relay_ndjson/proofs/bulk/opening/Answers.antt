use Rattle.std.proofs.Common.{rules}
use Rattle.relay_ndjson.proofs.bulk.opening.Goals as goal

pub returns-in-Delete : goal.returns-in-Delete
returns-in-Delete c = search rules
