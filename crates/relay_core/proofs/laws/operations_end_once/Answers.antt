use Rattle.relay_core.proofs.Endings.{each_ends_once, successes_are_true}
use Rattle.relay_core.proofs.laws.operations_end_once.Goals as goal

pub returns-clause-once : goal.returns-clause-once
returns-clause-once c = each_ends_once

pub returns-clause-successes : goal.returns-clause-successes
returns-clause-successes c = successes_are_true
