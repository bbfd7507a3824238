use Rattle.relay_index.proofs.Repeated.{repeat_is_conflict}
use Rattle.relay_index.proofs.laws.runs_repeat.Goals as goal

pub returns : goal.returns
returns c = repeat_is_conflict
