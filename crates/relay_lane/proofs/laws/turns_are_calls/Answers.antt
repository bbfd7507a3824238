use Rattle.relay_lane.proofs.Calling.{turn_is_calls}
use Rattle.relay_lane.proofs.laws.turns_are_calls.Goals as goal

pub returns : goal.returns
returns c = turn_is_calls
