use Rattle.std.proofs.Common.{rules}
use Rattle.relay_ndjson.proofs.kind.kind_of.Goals as goal

pub returns-in-Memory : goal.returns-in-Memory
returns-in-Memory c = search rules
