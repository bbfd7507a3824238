use Rattle.relay_results.proofs.Excluded.{may_always_run, not_applied_again}
use Rattle.relay_results.proofs.Steps.{step_runs_item}
use Rattle.relay_results.proofs.laws.runs_apply_once.Goals as goal

pub returns-clause-always : goal.returns-clause-always
returns-clause-always c = may_always_run

pub returns-clause-once : goal.returns-clause-once
returns-clause-once c = not_applied_again

pub returns-clause-item : goal.returns-clause-item
returns-clause-item c = step_runs_item
