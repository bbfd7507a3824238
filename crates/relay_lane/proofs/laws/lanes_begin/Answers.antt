use Rattle.relay_core.proofs.Tying.{fresh_fits, take_fits}
use Rattle.relay_lane.proofs.Out.{nothing_is_out, take_keeps_out}
use Rattle.relay_lane.proofs.laws.lanes_begin.Goals as goal

pub returns-clause-fresh : goal.returns-clause-fresh
returns-clause-fresh c = nothing_is_out

pub returns-clause-opening : goal.returns-clause-opening
returns-clause-opening c = fresh_fits

pub returns-clause-take : goal.returns-clause-take
returns-clause-take c = take_keeps_out

pub returns-clause-fits : goal.returns-clause-fits
returns-clause-fits c = take_fits
