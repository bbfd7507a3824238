-- Which queues the ends of handles belong to, and under which sender's number.
use Rattle.std.specs.Prelude.{◌≡◌, ℕ, zero, suc, ◌+◌, List, [], ◌∷◌, map}
use Rattle.relay_queue.specs.Ends.{Queue}
use Rattle.relay_producer.specs.Ends.{identities, open_puts, closed_puts}
use Rattle.relay_producer.specs.States.{ProducerState, ClosedProducerState}
use Rattle.relay_receipts.specs.Ends.{TakeEnd}
use Rattle.relay_receipts.specs.Windows.{WindowState}
use Rattle.relay_telling.specs.declared.ending.Ending.{Ending}
use Rattle.relay_threads.specs.Relay.{ends_of}

-- ---- at the start

abbrev pub HaveNotPut : List ProducerState → Type 0
HaveNotPut [] = Unit {0}
HaveNotPut (p ∷ ps) = (p.put ≡ 0) × HaveNotPut ps

abbrev pub HaveNotTaken : List (TakeEnd Ending) → Type 0
HaveNotTaken [] = Unit {0}
HaveNotTaken (t ∷ ts) = (t.taken ≡ []) × HaveNotTaken ts

-- ---- the names of the ends, by producer

abbrev pub new_names : List ProducerState → List (List (Queue × ℕ))
new_names producers = map (λ (p : ProducerState). identities (open_puts p.ends)) producers

abbrev pub open_names : List (WindowState Ending) → List (List (Queue × ℕ))
open_names producers = map (λ (w : WindowState Ending). identities (open_puts w.producer.ends)) producers

abbrev pub closed_names : List ClosedProducerState → List (List (Queue × ℕ))
closed_names producers = map (λ (c : ClosedProducerState). identities (closed_puts c.ends)) producers

-- those of n producers that are numbered from p on
abbrev pub names_from : List Queue → ℕ → ℕ → List (List (Queue × ℕ))
names_from queues p zero = []
names_from queues p (suc n) = ends_of queues p ∷ names_from queues (p + 1) n
