use Rattle.relay_lane.proofs.Counting.{turns_keep, works_on}
use Rattle.relay_lane.proofs.laws.turns_add_up.Goals as goal

pub returns-clause-keep : goal.returns-clause-keep
returns-clause-keep c = turns_keep

pub returns-clause-on : goal.returns-clause-on
returns-clause-on c = works_on
