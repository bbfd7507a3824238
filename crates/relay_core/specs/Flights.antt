-- Which operations a request carries.
use Rattle.std.specs.Prelude.{◌≡◌, ◌≤◌, List, Some, None, map, length}
use Rattle.relay_ndjson.specs.Bulk.{text_of}
use Rattle.relay_batch.specs.declared.item.BatchItem.{BatchItem}
use Rattle.relay_batch.specs.Batches.{IsBatch, bytes_of}
use Rattle.relay_results.specs.Words.{Mem}
use Rattle.relay_results.specs.Documents.{document_of}
use Rattle.relay_delivery.specs.Machine.{Held}
use Rattle.relay_delivery.specs.Lane.{Entry, held_of, writes_of_all}
use Rattle.relay_core.specs.Rule.{item_of}
use Rattle.relay_core.specs.State.{State, IsLane, next_entries, next_batch}

-- the operation is held, waits and is due, and no operation of its document that was taken earlier is still held
pub record MayGo (s : State) (e : Entry) : Type 0 where
  pub held : Mem e s.core.held
  pub waits : e.held.flies ≡ None
  pub due : e.due ≤ s.core.clock
  pub first : (j : Held) → Mem j (held_of s.core.held) → document_of j.op.key ≡ document_of e.held.op.key → e.held.version ≤ j.version

-- this holds for each operation of the next request
abbrev pub EarlierOnesSettled : Type 0
EarlierOnesSettled = (s : State) (e : Entry) → Mem e (next_entries s) → MayGo s e

-- the items of a request are those of its operations, in the same order as its writes
abbrev pub ItemsAreOfOperations : Type 0
ItemsAreOfOperations = (s : State) (items : List BatchItem) → next_batch s ≡ Some items → items ≡ map item_of (next_entries s)

-- The items are within the limits of a batch, and their bytes add up to those of the bulk text of the writes.
pub record KeepsLimits (s : State) (items : List BatchItem) : Type 0 where
  pub batch : IsBatch s.config.limits items
  pub bytes : bytes_of items ≡ length (text_of (writes_of_all (next_entries s)))

-- this holds for the next request of a lane
abbrev pub RequestsKeepLimits : Type 0
RequestsKeepLimits = (s : State) (items : List BatchItem) → IsLane s → next_batch s ≡ Some items → KeepsLimits s items
