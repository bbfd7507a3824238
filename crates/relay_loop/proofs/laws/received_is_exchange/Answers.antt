use Rattle.relay_loop.proofs.Exchanging.{received_is_exchange}
use Rattle.relay_loop.proofs.laws.received_is_exchange.Goals as goal

pub returns : goal.returns
returns c = received_is_exchange
