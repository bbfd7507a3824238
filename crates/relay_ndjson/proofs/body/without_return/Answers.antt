use Rattle.std.proofs.lemmas.Grind.{common_steps}
use Rattle.std.proofs.Common.{arith}
use Rattle.relay_ndjson.proofs.body.without_return.Goals as goal

pub returns-in-Some-eq13 : goal.returns-in-Some-eq13
returns-in-Some-eq13 c = grind (arith, common_steps)
