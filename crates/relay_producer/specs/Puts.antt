-- What a producer put, as shown by its ends of all lanes' queues.
use Rattle.std.specs.Prelude.{◌≡◌, ℕ, ◌+◌, ◌==◌, if◌then◌else◌, List, [], ◌∷◌, ◌++◌, length, ⊤, Some}
use Rattle.std.specs.List.{slice_get}
use Rattle.relay_action.specs.declared.operation.Op.{Op}
use Rattle.relay_action.specs.declared.mail.Mail.{Mail}
use Rattle.relay_action.specs.declared.mail.Body.{Body}
use Rattle.relay_action.specs.declared.mail.Body.TheVariants.{Put, Tick, Flush, Done}
use Rattle.relay_action.specs.Lanes.{lane_of_document}
use Rattle.relay_queue.specs.Ends.{SenderEnd}

-- the operation of a message, if it has one
abbrev pub puts_in : Body → List Op
puts_in (Put op) = op ∷ []
puts_in Tick = []
puts_in Flush = []
puts_in Done = []

-- the operations of messages, in order
abbrev pub puts_of : List Mail → List Op
puts_of [] = []
puts_of (m ∷ ms) = puts_in m.body ++ puts_of ms

-- operations of this producer, numbered n, n + 1 and so on
abbrev pub AreNumberedBy : ℕ → ℕ → List Op → Type 0
AreNumberedBy producer n [] = ⊤
AreNumberedBy producer n (op ∷ ops) = (op.producer ≡ producer) × (op.number ≡ n) × AreNumberedBy producer (n + 1) ops

-- the operations on documents of one lane, in order
abbrev pub ops_for : ℕ → ℕ → List Op → List Op
ops_for lanes lane [] = []
ops_for lanes lane (op ∷ ops) = if lane_of_document op.key lanes == lane then op ∷ ops_for lanes lane ops else ops_for lanes lane ops

-- The producer put exactly these operations: `count` of them, numbered from 1. Each end is of this producer, and the
-- operations sent by it are those on documents of its lane, in order.
pub record HasPut (producer count : ℕ) (puts : List SenderEnd) (ops : List Op) : Type 0 where
  pub counted : length ops ≡ count
  pub numbered : AreNumberedBy producer 1 ops
  pub senders : (lane : ℕ) (put : SenderEnd) → slice_get puts lane ≡ Some put → put.sender ≡ producer
  pub sent : (lane : ℕ) (put : SenderEnd) → slice_get puts lane ≡ Some put → puts_of put.sent ≡ ops_for (length puts) lane ops

-- no operation was sent by these ends
abbrev pub HaveNoPuts : List SenderEnd → Type 0
HaveNoPuts [] = Unit {0}
HaveNoPuts (p ∷ ps) = (puts_of p.sent ≡ []) × HaveNoPuts ps
