use Rattle.relay_delivery.proofs.Fitting.{sound_where, complete_where, total_where, writes_where, earliest_where, one_flies_where, ended_where}
use Rattle.relay_delivery.proofs.promises.lanes_deliver.Goals as goal

pub returns-clause-sound : goal.returns-clause-sound
returns-clause-sound c = sound_where

pub returns-clause-complete : goal.returns-clause-complete
returns-clause-complete c = complete_where

pub returns-clause-totals : goal.returns-clause-totals
returns-clause-totals c = total_where

pub returns-clause-writes : goal.returns-clause-writes
returns-clause-writes c = writes_where

pub returns-clause-earliest : goal.returns-clause-earliest
returns-clause-earliest c = earliest_where

pub returns-clause-one : goal.returns-clause-one
returns-clause-one c = one_flies_where

pub returns-clause-ended : goal.returns-clause-ended
returns-clause-ended c = ended_where
