use Rattle.relay_world.proofs.Beginning.{fresh_is_world}
use Rattle.relay_world.proofs.Delivering.{worlds_deliver}
use Rattle.relay_world.proofs.Events.{steps_keep_tied}
use Rattle.relay_world.proofs.laws.tied_worlds_deliver.Goals as goal

pub returns-clause-fresh : goal.returns-clause-fresh
returns-clause-fresh c = fresh_is_world

pub returns-clause-steps : goal.returns-clause-steps
returns-clause-steps c = steps_keep_tied

pub returns-clause-deliver : goal.returns-clause-deliver
returns-clause-deliver c = worlds_deliver
