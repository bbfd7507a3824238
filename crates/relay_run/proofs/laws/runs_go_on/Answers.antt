use Rattle.relay_run.proofs.GoingOn.{places_divide, runs_go_on, runs_together, safe_marks_divide}
use Rattle.relay_run.proofs.laws.runs_go_on.Goals as goal

pub returns-clause-places : goal.returns-clause-places
returns-clause-places c = places_divide

pub returns-clause-safe : goal.returns-clause-safe
returns-clause-safe c = safe_marks_divide

pub returns-clause-others : goal.returns-clause-others
returns-clause-others c = runs_go_on

pub returns-clause-together : goal.returns-clause-together
returns-clause-together c = runs_together
