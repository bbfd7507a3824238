use Rattle.relay_delivery.proofs.Reached.{reached_holds, call_reached}
use Rattle.relay_delivery.proofs.laws.any_answers_keep_order.Goals as goal

pub returns-clause-call : goal.returns-clause-call
returns-clause-call c = call_reached

pub returns-clause-holds : goal.returns-clause-holds
returns-clause-holds c = reached_holds
