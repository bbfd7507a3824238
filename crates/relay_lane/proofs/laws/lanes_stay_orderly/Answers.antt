use Rattle.relay_lane.proofs.Reaching.{fresh_is_reached, take_is_reached, turn_is_reached, work_is_reached, reached_is_orderly}
use Rattle.relay_lane.proofs.laws.lanes_stay_orderly.Goals as goal

pub returns-clause-fresh : goal.returns-clause-fresh
returns-clause-fresh c = fresh_is_reached

pub returns-clause-take : goal.returns-clause-take
returns-clause-take c = take_is_reached

pub returns-clause-turn : goal.returns-clause-turn
returns-clause-turn c = turn_is_reached

pub returns-clause-work : goal.returns-clause-work
returns-clause-work c = work_is_reached

pub returns-clause-orderly : goal.returns-clause-orderly
returns-clause-orderly c = reached_is_orderly
