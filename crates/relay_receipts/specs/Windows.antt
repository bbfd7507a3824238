-- A producer that is told how its operations ended, and keeps a window.
use Rattle.std.specs.Prelude.{ℕ, ◌+◌, ◌-◌, ◌≤◌, List, length, Option, Some, None}
use Rattle.std.specs.List.{filter_map}
use Rattle.relay_producer.specs.States.{ProducerState}
use Rattle.relay_receipts.specs.declared.notice.Notice.{Notice}
use Rattle.relay_receipts.specs.Ends.{TakeEnd}

-- the producer, its end of the channel of its receipts, how many operations it may have open, and how many it has
pub record WindowState (T : Type 0) : Type 0 where
  pub producer : ProducerState
  pub receipts : TakeEnd T
  pub window : ℕ
  pub pending : ℕ

module _ {T : Type 0} where
  -- the endings that were taken, in order
  abbrev pub endings_in : List (Notice T) → List T
  endings_in taken = filter_map (λ n. n.told) taken

  -- one fewer is open if the notice says how one ended
  abbrev pub without_ended : Option T → ℕ → ℕ
  without_ended None pending = pending
  without_ended (Some x) pending = pending - 1

  -- no more are open than the window has, and each operation that was put is open, or an ending was taken for it
  pub record KeepsWindow (s : WindowState T) : Type 0 where
    pub within : s.pending ≤ s.window
    pub each : s.producer.put ≤ s.pending + length (endings_in s.receipts.taken)
