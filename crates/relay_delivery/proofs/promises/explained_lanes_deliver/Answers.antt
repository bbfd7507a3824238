use Rattle.relay_delivery.proofs.Explained.{explained_fits, explained_sound, explained_complete}
use Rattle.relay_delivery.proofs.promises.explained_lanes_deliver.Goals as goal

pub returns-clause-fits : goal.returns-clause-fits
returns-clause-fits c = explained_fits

pub returns-clause-sound : goal.returns-clause-sound
returns-clause-sound c = explained_sound

pub returns-clause-complete : goal.returns-clause-complete
returns-clause-complete c = explained_complete
