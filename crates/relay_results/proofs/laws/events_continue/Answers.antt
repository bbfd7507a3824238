use Rattle.relay_results.proofs.Steps.{continues_itself, event_continues, continues_on}
use Rattle.relay_results.proofs.laws.events_continue.Goals as goal

pub returns-clause-itself : goal.returns-clause-itself
returns-clause-itself c = continues_itself

pub returns-clause-event : goal.returns-clause-event
returns-clause-event c = event_continues

pub returns-clause-on : goal.returns-clause-on
returns-clause-on c = continues_on
