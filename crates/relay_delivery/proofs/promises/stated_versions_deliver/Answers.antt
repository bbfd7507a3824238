use Rattle.relay_delivery.proofs.Stating.{sound_if_stated, complete_if_stated, explained_sound_if_stated, explained_complete_if_stated}
use Rattle.relay_delivery.proofs.promises.stated_versions_deliver.Goals as goal

pub returns-clause-sound : goal.returns-clause-sound
returns-clause-sound c = sound_if_stated

pub returns-clause-complete : goal.returns-clause-complete
returns-clause-complete c = complete_if_stated

pub returns-clause-explained_sound : goal.returns-clause-explained_sound
returns-clause-explained_sound c = explained_sound_if_stated

pub returns-clause-explained_complete : goal.returns-clause-explained_complete
returns-clause-explained_complete c = explained_complete_if_stated
