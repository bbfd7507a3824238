use Rattle.relay_delivery.proofs.Naming.{acts_keep_names, restarts_keep_names}
use Rattle.relay_delivery.proofs.promises.names_stay.Goals as goal

pub returns-clause-act : goal.returns-clause-act
returns-clause-act c = acts_keep_names

pub returns-clause-restart : goal.returns-clause-restart
returns-clause-restart c = restarts_keep_names
