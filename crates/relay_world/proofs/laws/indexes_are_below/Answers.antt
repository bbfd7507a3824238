use Rattle.relay_world.proofs.Beginning.{fresh_is_below, highest_is_below}
use Rattle.relay_world.proofs.laws.indexes_are_below.Goals as goal

pub returns-clause-fresh : goal.returns-clause-fresh
returns-clause-fresh c = fresh_is_below

pub returns-clause-highest : goal.returns-clause-highest
returns-clause-highest c = highest_is_below
