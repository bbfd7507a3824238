-- Producers that are passed to threads and come back closed.
use Rattle.std.specs.Prelude.{ℕ, List}
use Rattle.relay_queue.specs.Ends.{Queue}
use Rattle.relay_producer.specs.Ends.{identities, open_puts, closed_puts}
use Rattle.relay_producer.specs.States.{ProducerState, ClosedProducerState}

-- which producer it is, and which queue each of its ends belongs to
abbrev pub Identity : Type 0
Identity = ℕ × List (Queue × ℕ)

abbrev pub identity_of : ProducerState → Identity
identity_of p = (p.producer, identities (open_puts p.ends))

abbrev pub identity_of_closed : ClosedProducerState → Identity
identity_of_closed p = (p.producer, identities (closed_puts p.ends))
