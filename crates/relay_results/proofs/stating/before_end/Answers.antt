use Rattle.std.proofs.Common.{Some, None, rules}
use Rattle.relay_results.proofs.Stated.{cut_ends}
use Rattle.relay_results.proofs.stating.before_end.Goals as goal

pub returns-in_err-front : goal.returns-in_err-front
returns-in_err-front c = rw c.from_residual.ensures (cut_ends c.args.text.now None (search rules))

pub returns : goal.returns
returns c = (c.in_ok-front.field-0-1.now, cut_ends c.args.text.now (Some (c.in_ok-front.front, c.in_ok-front.field-0-1)) (search rules))
