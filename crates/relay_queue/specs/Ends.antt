-- The ends of a queue, as contracts see them.
use Rattle.std.specs.Prelude.{ℕ, zero, suc, List, [], ◌∷◌, ◌++◌}
use Rattle.crossbeam_channel.specs.Claims.{Pass, view}
use Rattle.crossbeam_channel.specs.declared.flavors.array.Key.{Key}
use Rattle.atomic_table.specs.Seated.{TableId}
use Rattle.atomic_table.specs.declared.badge.Badge.{Badge}
use Rattle.relay_action.specs.declared.mail.Mail.{Mail}
use Rattle.relay_queue.specs.declared.rule.Knowledge.{Knowledge}
use Rattle.relay_queue.specs.Steps.{capacity_of}

-- a queue: its identity, in the first two fields, and its number of places
pub record Queue : Type 0 where
  pub table : TableId
  pub keys : Badge (Key Mail)
  pub capacity : ℕ

-- a sender's end: its queue, its number and what it sent
pub record SenderEnd : Type 0 where
  pub queue : Queue
  pub sender : ℕ
  pub sent : List Mail

-- the taker's end: its queue, its number of senders, and what was taken
pub record TakerEnd : Type 0 where
  pub queue : Queue
  pub senders : ℕ
  pub taken : List Mail

-- the queue of a pass, with this number of places
abbrev pub queue_with : Pass Mail Knowledge → ℕ → Queue
queue_with pass places = record { table = pass.table_id; keys = pass.me.0.of; capacity = places }

-- the queue of a pass
abbrev pub queue_of : Pass Mail Knowledge → Queue
queue_of pass = queue_with pass (capacity_of (view pass))

-- the end of a sender that sent nothing
abbrev pub fresh : Queue → ℕ → SenderEnd
fresh queue sender = record { queue = queue; sender = sender; sent = [] }

-- the ends of the senders 0 to n - 1, which sent nothing
abbrev pub fresh_puts : Queue → ℕ → List SenderEnd
fresh_puts queue zero = []
fresh_puts queue (suc n) = fresh_puts queue n ++ fresh queue n ∷ []
