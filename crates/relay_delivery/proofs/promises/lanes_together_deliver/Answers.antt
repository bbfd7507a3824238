use Rattle.relay_delivery.proofs.Accounts.{sound_together, complete_together, complete_together_if_stated}
use Rattle.relay_delivery.proofs.promises.lanes_together_deliver.Goals as goal

pub returns-clause-sound : goal.returns-clause-sound
returns-clause-sound c = sound_together

pub returns-clause-complete : goal.returns-clause-complete
returns-clause-complete c = complete_together

pub returns-clause-stated : goal.returns-clause-stated
returns-clause-stated c = complete_together_if_stated
