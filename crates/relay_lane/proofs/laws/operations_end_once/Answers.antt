use Rattle.relay_lane.proofs.Once.{fresh_has_none, take_adds_one, turn_keeps_times, work_keeps_times, forgetting_passes_on}
use Rattle.relay_lane.proofs.laws.operations_end_once.Goals as goal

pub returns-clause-fresh : goal.returns-clause-fresh
returns-clause-fresh c = fresh_has_none

pub returns-clause-take : goal.returns-clause-take
returns-clause-take c = take_adds_one

pub returns-clause-turn : goal.returns-clause-turn
returns-clause-turn c = turn_keeps_times

pub returns-clause-work : goal.returns-clause-work
returns-clause-work c = work_keeps_times

pub returns-clause-forget : goal.returns-clause-forget
returns-clause-forget c = forgetting_passes_on
