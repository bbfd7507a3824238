use Rattle.relay_delivery.proofs.Whole.{sound_always, complete_at_the_end, total_always, continues_always}
use Rattle.relay_delivery.proofs.promises.delivery_is_exact.Goals as goal

pub returns-clause-sound : goal.returns-clause-sound
returns-clause-sound c = sound_always

pub returns-clause-complete : goal.returns-clause-complete
returns-clause-complete c = complete_at_the_end

pub returns-clause-totals : goal.returns-clause-totals
returns-clause-totals c = total_always

pub returns-clause-outside : goal.returns-clause-outside
returns-clause-outside c = continues_always
