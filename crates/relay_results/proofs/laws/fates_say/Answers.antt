use Rattle.relay_results.proofs.Fates.{fate_says, answers_end, retried_tries}
use Rattle.relay_results.proofs.Lists.{equal}
use Rattle.relay_results.proofs.laws.fates_say.Goals as goal

pub returns-clause-answer : goal.returns-clause-answer
returns-clause-answer c = fate_says

pub returns-clause-ends : goal.returns-clause-ends
returns-clause-ends c = answers_end

pub returns-clause-tries : goal.returns-clause-tries
returns-clause-tries c = retried_tries

pub returns-clause-own : goal.returns-clause-own
returns-clause-own c = λ stored own e. equal stored own e
