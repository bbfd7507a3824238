use Rattle.relay_results.proofs.Stated.{finds_last, finds_none}
use Rattle.relay_results.proofs.stating.after_mark.Goals as goal

pub returns-in_err-after-clause-none : goal.returns-in_err-after-clause-none
returns-in_err-after-clause-none c = rw c.from_residual.ensures (finds_none c.args.text.now c.in_err-after.ensures.cases)

pub returns-clause-some : goal.returns-clause-some
returns-clause-some c = (c.in_ok-after.field-0-0.now, finds_last _ _ _ c.in_ok-after.ensures.cases)
