use Rattle.relay_delivery.proofs.Whole.{writes_are_dealt}
use Rattle.relay_delivery.proofs.Earliest.{earliest_flies, one_flies}
use Rattle.relay_delivery.proofs.promises.one_is_in_flight.Goals as goal

pub returns-clause-writes : goal.returns-clause-writes
returns-clause-writes c = writes_are_dealt

pub returns-clause-earliest : goal.returns-clause-earliest
returns-clause-earliest c = earliest_flies

pub returns-clause-one : goal.returns-clause-one
returns-clause-one c = one_flies
