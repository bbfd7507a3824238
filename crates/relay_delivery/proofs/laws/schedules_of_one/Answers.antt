use Rattle.relay_delivery.proofs.Played.{already, late, twice, rejected}
use Rattle.relay_delivery.proofs.laws.schedules_of_one.Goals as goal

pub returns-clause-already : goal.returns-clause-already
returns-clause-already c = already

pub returns-clause-late : goal.returns-clause-late
returns-clause-late c = late

pub returns-clause-twice : goal.returns-clause-twice
returns-clause-twice c = twice

pub returns-clause-refused : goal.returns-clause-refused
returns-clause-refused c = rejected
