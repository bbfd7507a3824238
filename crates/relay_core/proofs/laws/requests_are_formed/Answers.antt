use Rattle.relay_core.proofs.Flights.{earlier_ones_settled}
use Rattle.relay_core.proofs.Forming.{items_of_operations}
use Rattle.relay_core.proofs.Weighing.{requests_keep_limits}
use Rattle.relay_core.proofs.laws.requests_are_formed.Goals as goal

pub returns-clause-earlier : goal.returns-clause-earlier
returns-clause-earlier c = earlier_ones_settled

pub returns-clause-items : goal.returns-clause-items
returns-clause-items c = items_of_operations

pub returns-clause-limits : goal.returns-clause-limits
returns-clause-limits c = requests_keep_limits
