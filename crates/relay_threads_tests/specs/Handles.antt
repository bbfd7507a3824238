-- Which queues the ends of handles belong to, and under which sender's number.
use Rattle.std.specs.Prelude.{ℕ, List, map}
use Rattle.relay_queue.specs.Ends.{Queue}
use Rattle.relay_producer.specs.Ends.{identities, open_puts, closed_puts}
use Rattle.relay_producer.specs.States.{ProducerState, ClosedProducerState}

abbrev pub open_names : List ProducerState → List (List (Queue × ℕ))
open_names producers = map (λ (p : ProducerState). identities (open_puts p.ends)) producers

abbrev pub closed_names : List ClosedProducerState → List (List (Queue × ℕ))
closed_names producers = map (λ (p : ClosedProducerState). identities (closed_puts p.ends)) producers
