use Rattle.std.proofs.Common.{arith}
use Rattle.std.proofs.lemmas.Grind.{common_steps}
use Rattle.relay_front.proofs.lines.without_return.Goals as goal

pub returns-in-Some-eq13 : goal.returns-in-Some-eq13
returns-in-Some-eq13 c = grind (arith, common_steps)
