use Rattle.std.proofs.lemmas.Grind.{common_steps}
use Rattle.std.proofs.Common.{arith}
use Rattle.relay_ndjson.proofs.lines.is_past_limit.Goals as goal

pub returns-then-length-clause-past : goal.returns-then-length-clause-past
returns-then-length-clause-past c = grind (arith, common_steps)
