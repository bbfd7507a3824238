-- The batches of the requests in flight: a map from numbers to batches, and the next number.
use Rattle.std.specs.Prelude.{ℕ, ◌+◌, not, ◌==◌, List, ◌∷◌, [], ◌++◌, filter, Option}
use Rattle.std.specs.Map.{lookup}
use Rattle.relay_batch.specs.declared.item.BatchItem.{BatchItem}

-- a batch, as the list of its items
abbrev pub Items : Type 0
Items = List BatchItem

-- the maximum number of batches, the next number, and the batches, each with its number, in the order in which they
-- were added
pub record Flying : Type 0 where
  pub max : ℕ
  pub next : ℕ
  pub batches : List (ℕ × Items)

-- the batch with this number, if it is in flight
abbrev pub batch_at : ℕ → Flying → Option Items
batch_at number f = lookup (λ k. k == number) f.batches

-- after a batch was added under the next number
abbrev pub with_batch : Items → Flying → Flying
with_batch batch f = record { max = f.max; next = f.next + 1; batches = f.batches ++ (f.next, batch) ∷ [] }

-- without the batch of this number
abbrev pub without_batch : ℕ → Flying → Flying
without_batch number f = record f { batches = filter (λ e. not (e.0 == number)) f.batches }
