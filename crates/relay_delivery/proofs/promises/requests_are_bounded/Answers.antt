use Rattle.relay_delivery.proofs.Bounded.{within_tries_left, few_requests}
use Rattle.relay_delivery.proofs.promises.requests_are_bounded.Goals as goal

pub returns-clause-left : goal.returns-clause-left
returns-clause-left c = within_tries_left

pub returns-clause-held : goal.returns-clause-held
returns-clause-held c = few_requests
