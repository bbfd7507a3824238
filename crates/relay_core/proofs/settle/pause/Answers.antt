use Rattle.std.proofs.Common.{◌-◌, ◌^◌, ◌≤◌, arith, rules}
use Rattle.std.proofs.Math.Pow.{pow_mono}
use Rattle.relay_core.proofs.settle.pause.Goals as goal

pub returns-in_default : goal.returns-in_default
returns-in_default c = let le : 2 ^ 6 ≤ 2 ^ (c.args.attempts - 1) = pow_mono {i = 6} {j = c.args.attempts - 1} (omega arith) in omega (arith, le)

pub returns-in-5 : goal.returns-in-5
returns-in-5 c = search rules
