-- A producer and the control, as contracts see them.
use Rattle.std.specs.Prelude.{◌≡◌, ℕ, ◌+◌, ◌<◌, ◌≤◌, ◌^◌, Bool, List, length}
use Rattle.std.specs.List.{All}
use Rattle.relay_action.specs.declared.key.DocKey.{DocKey}
use Rattle.relay_action.specs.declared.action.Action.{Action}
use Rattle.relay_action.specs.declared.operation.Op.{Op}
use Rattle.relay_action.specs.declared.mail.Body.TheVariants.{Put}
use Rattle.relay_action.specs.Lanes.{lane_of_document}
use Rattle.relay_queue.specs.Ends.{SenderEnd, fresh}
use Rattle.relay_producer.specs.declared.ends.OpenEnd.{OpenEnd}
use Rattle.relay_producer.specs.declared.ends.ClosedEnd.{ClosedEnd}
use Rattle.relay_producer.specs.Ends.{with_sent, with_mark, is_gone_at, change_at, open_puts, closed_puts, IsClosedBy}
use Rattle.relay_producer.specs.Puts.{HasPut, HaveNoPuts}

-- a producer: the epoch in which it puts, its number, how many operations it put, and its ends of the queues, by lane
pub record ProducerState : Type 0 where
  pub epoch : ℕ
  pub producer : ℕ
  pub put : ℕ
  pub ends : List OpenEnd

-- a producer that has closed
pub record ClosedProducerState : Type 0 where
  pub producer : ℕ
  pub put : ℕ
  pub ends : List ClosedEnd

-- the control: its number as a sender, and its ends of the queues, by lane
pub record ControlState : Type 0 where
  pub sender : ℕ
  pub ends : List OpenEnd

-- the control after its close
pub record ClosedControlState : Type 0 where
  pub sender : ℕ
  pub ends : List ClosedEnd

-- these ends are of one sender, and nothing was sent by them
abbrev pub AreFresh : ℕ → List SenderEnd → Type 0
AreFresh sender puts = All (λ p. p ≡ fresh p.queue sender) puts

-- ---- a put

-- the lane of a document
abbrev pub lane_for : DocKey → ProducerState → ℕ
lane_for key s = lane_of_document key (length s.ends)

-- the document's lane is marked
abbrev pub is_lane_gone : DocKey → ProducerState → Bool
is_lane_gone key s = is_gone_at s.ends (lane_for key s)

-- the next operation of a producer
abbrev pub next_op : DocKey → Action → ProducerState → Op
next_op key action s = record { epoch = s.epoch; producer = s.producer; number = s.put + 1; key = key; action = action }

-- its document's lane took the operation, and nothing else changed
abbrev pub after_put : DocKey → Action → ProducerState → ProducerState
after_put key action s = record { epoch = s.epoch; producer = s.producer; put = s.put + 1; ends = change_at (lane_for key s) (with_sent (Put (next_op key action s))) s.ends }

-- the document's lane was found gone, and nothing else changed
abbrev pub after_gone : DocKey → ProducerState → ProducerState
after_gone key s = record { epoch = s.epoch; producer = s.producer; put = s.put; ends = change_at (lane_for key s) with_mark s.ends }

-- ---- what holds of each

-- the number of lanes is valid
abbrev pub HasLanes : {A : Type 0} → List A → Type 0
HasLanes ends = (0 < length ends) × (length ends ≤ 8)

-- the end of each lane is this sender's, and it sent at most this many messages
abbrev pub AreEndsOf : ℕ → ℕ → List OpenEnd → Type 0
AreEndsOf sender most ends = All (λ e. (e.put.sender ≡ sender) × (length e.put.sent ≤ most)) ends

-- a producer that put some operations, at most 2^40, and sent nothing else
pub record IsProducer (s : ProducerState) : Type 0 where
  pub lanes : HasLanes s.ends
  pub limit : s.put ≤ 2 ^ 40
  pub own : AreEndsOf s.producer s.put s.ends
  pub shown : (ops : List Op) × HasPut s.producer s.put (open_puts s.ends) ops

-- a closed producer that put some operations
pub record IsClosedProducer (s : ClosedProducerState) : Type 0 where
  pub lanes : HasLanes s.ends
  pub own : All (IsClosedBy s.producer) s.ends
  pub shown : (ops : List Op) × HasPut s.producer s.put (closed_puts s.ends) ops

-- a control over the lanes of a relay, which sent no operation
pub record IsControl (s : ControlState) : Type 0 where
  pub lanes : HasLanes s.ends
  pub own : All (λ e. e.put.sender ≡ s.sender) s.ends
  pub no_puts : HaveNoPuts (open_puts s.ends)

-- the same after its close
pub record IsClosedControl (s : ClosedControlState) : Type 0 where
  pub lanes : HasLanes s.ends
  pub own : All (IsClosedBy s.sender) s.ends
  pub no_puts : HaveNoPuts (closed_puts s.ends)
