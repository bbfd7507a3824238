use Rattle.relay_delivery.proofs.Whole.{fresh_came_about, step_came_about}
use Rattle.relay_delivery.proofs.promises.steps_lead_on.Goals as goal

pub returns-clause-fresh : goal.returns-clause-fresh
returns-clause-fresh c = fresh_came_about

pub returns-clause-step : goal.returns-clause-step
returns-clause-step c = step_came_about
