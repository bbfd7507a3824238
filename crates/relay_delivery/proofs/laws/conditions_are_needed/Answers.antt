use Rattle.relay_delivery.proofs.Working.{stored_below, earlier_first, one_version}
use Rattle.relay_delivery.proofs.laws.conditions_are_needed.Goals as goal

pub returns-clause-stored : goal.returns-clause-stored
returns-clause-stored c = stored_below

pub returns-clause-eligible : goal.returns-clause-eligible
returns-clause-eligible c = earlier_first

pub returns-clause-version : goal.returns-clause-version
returns-clause-version c = one_version
