use Rattle.relay_delivery.proofs.Played.{busy_next, given_up, three, halved_alone}
use Rattle.relay_delivery.proofs.laws.schedules_of_several.Goals as goal

pub returns-clause-busy : goal.returns-clause-busy
returns-clause-busy c = busy_next

pub returns-clause-given_up : goal.returns-clause-given_up
returns-clause-given_up c = given_up

pub returns-clause-three : goal.returns-clause-three
returns-clause-three c = three

pub returns-clause-halved : goal.returns-clause-halved
returns-clause-halved c = halved_alone
