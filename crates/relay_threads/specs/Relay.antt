-- A relay as contracts see it, what it starts with, and the handles that it returns.
use Rattle.std.specs.Prelude.{◌≡◌, ℕ, ◌+◌, List, [], ◌∷◌, ◌++◌, map}
use Rattle.relay_queue.specs.Ends.{Queue, SenderEnd, fresh, fresh_puts}
use Rattle.relay_core.specs.declared.config.RelayConfig.{RelayConfig}
use Rattle.relay_producer.specs.declared.ends.ClosedEnd.{ClosedEnd}
use Rattle.relay_producer.specs.Ends.{open_end, closed_puts, identities}
use Rattle.relay_producer.specs.States.{ProducerState, ControlState, ClosedProducerState, ClosedControlState}

-- its config, its lanes' queues, and, as they were at the start, their wires and what they tell by, by lane
pub record RelayState (W T : Type 0) : Type 0 where
  pub config : RelayConfig
  pub queues : List Queue
  pub wires : List W
  pub tells : List T

-- ---- the start

-- no number is outstanding on any of the wires
abbrev pub NoneOut : {W : Type 0} → (W → List ℕ) → List W → Type 0
NoneOut out [] = Unit {0}
NoneOut out (w ∷ ws) = (out w ≡ []) × NoneOut out ws

-- the ends of this many senders, by lane, to which nothing was sent
pub record AreColumns (senders : ℕ) (columns : List (List SenderEnd)) : Type 0 where
  pub queues : List Queue
  pub fresh_ones : columns ≡ map (λ q. fresh_puts q senders) queues

-- a producer of an epoch that has put nothing, and found no lane gone
abbrev pub new_producer : List Queue → ℕ → ℕ → ProducerState
new_producer queues epoch p = record { epoch = epoch; producer = p; put = 0; ends = map (λ q. open_end (fresh q p)) queues }

-- producers numbered p, p + 1 and so on, which have put nothing
abbrev pub AreNew : List Queue → ℕ → ℕ → List ProducerState → Type 0
AreNew queues epoch p [] = Unit {0}
AreNew queues epoch p (x ∷ xs) = (x ≡ new_producer queues epoch p) × AreNew queues epoch (p + 1) xs

-- the control, which has sent nothing
abbrev pub new_control : List Queue → ℕ → ControlState
new_control queues sender = record { sender = sender; ends = map (λ q. open_end (fresh q sender)) queues }

-- ---- the handles that are returned

-- the ends of these queues that a sender has
abbrev pub ends_of : List Queue → ℕ → List (Queue × ℕ)
ends_of queues sender = map (λ q. (q, sender)) queues

-- closed ends of the senders numbered p, p + 1 and so on: each has one for each queue
abbrev pub AreRows : List Queue → ℕ → List (List ClosedEnd) → Type 0
AreRows queues p [] = Unit {0}
AreRows queues p (row ∷ rows) = (identities (closed_puts row) ≡ ends_of queues p) × AreRows queues (p + 1) rows

-- the closed ends of the producers and of the control, by sender
abbrev pub rows_of : List ClosedProducerState → ClosedControlState → List (List ClosedEnd)
rows_of producers control = map (λ (c : ClosedProducerState). c.ends) producers ++ control.ends ∷ []
