use Rattle.std.proofs.Common.{rules}
use Rattle.relay_ndjson.proofs.lines.drop_return.Goals as goal

pub returns-then-eq-clause-raw : goal.returns-then-eq-clause-raw
returns-then-eq-clause-raw c = search rules
