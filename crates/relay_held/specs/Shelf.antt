-- Where the queues are: each document has a slot, and its queue is there. Also the delay queue.
use Rattle.std.specs.Prelude.{◌≡◌, ◌≢◌, ℕ, ◌<◌, ◌≤◌, List, [], ◌∷◌, Option, Some, None, unwrap_or, true, map, length, slice_get}
use Rattle.std.specs.List.{IsDistinct}
use Rattle.std.specs.Map.{lookup, keys_of}
use Rattle.slab.specs.Slab.{Slab, get}
use Rattle.relay_action.specs.declared.key.DocKey.{DocKey}
use Rattle.relay_delay.specs.declared.entry.Entry.{Entry}
use Rattle.relay_delay.specs.Waiting.{Delays, insert}
use Rattle.relay_held.specs.declared.kept.Kept.{Kept}
use Rattle.relay_held.specs.Queues.{same_key, eligible, merge_of, queue_of, IsHolding}

-- ---- the queues, each in its slot

-- the queue in a slot; since no queue is empty, an empty list means that the slot has none
abbrev pub queue_in : Slab (List Kept) → ℕ → List Kept
queue_in s slot = unwrap_or (get s slot) []

abbrev pub queues_in : Slab (List Kept) → List (DocKey × ℕ) → List (DocKey × List Kept)
queues_in s [] = []
queues_in s (e ∷ es) = (e.0, queue_in s e.1) ∷ queues_in s es

-- the queues of the documents, and the slot of each
pub record Shelf : Type 0 where
  pub queues : List (DocKey × List Kept)
  pub slots : List (DocKey × ℕ)

-- each document is there once and has a slot of its own, with a queue
pub record IsShelf (ss : List (DocKey × ℕ)) (s : Slab (List Kept)) : Type 0 where
  pub unique : IsDistinct same_key (keys_of ss)
  pub filled : (k : DocKey) (slot : ℕ) → lookup (same_key k) ss ≡ Some slot → 0 < length (queue_in s slot)
  pub apart : (j k : DocKey) (slot : ℕ) → lookup (same_key j) ss ≡ Some slot → lookup (same_key k) ss ≡ Some slot → same_key j k ≡ true

-- the queue in one slot has changed
pub record Sets (old new : Slab (List Kept)) (slot : ℕ) (q : List Kept) : Type 0 where
  pub here : queue_in new slot ≡ q
  pub others : (other : ℕ) → other ≢ slot → queue_in new other ≡ queue_in old other

abbrev pub slot_of : List (DocKey × ℕ) → DocKey → ℕ
slot_of ss k = unwrap_or (lookup (same_key k) ss) 0

-- a document's entry is at this place among all, and it has this slot
pub record IsPlaceOf (ss : List (DocKey × ℕ)) (key : DocKey) (at slot : ℕ) : Type 0 where
  pub own : DocKey
  pub same : same_key key own ≡ true
  pub there : slice_get ss at ≡ Some (own, slot)
  pub only : lookup (same_key key) ss ≡ Some slot

-- a document that had held operations before, and still has some, keeps its slot
abbrev pub KeepsSlots : Shelf → Shelf → Type 0
KeepsSlots old new = (k : DocKey) (g h : Kept) → slice_get (queue_of old.queues k) 0 ≡ Some g → slice_get (queue_of new.queues k) 0 ≡ Some h → slot_of new.slots k ≡ slot_of old.slots k

-- ---- the first operations that wait, in the delay queue

abbrev pub entry_at : ℕ → Kept → Entry
entry_at slot h = record { version = h.version; due = h.due; slot = slot }

abbrev pub entry_of : List (DocKey × ℕ) → Kept → Entry
entry_of ss h = entry_at (slot_of ss h.key) h

-- the entry of an operation that is held after these of its document: it has one only if it is the first
abbrev pub entry_after : List Kept → ℕ → Kept → Option Entry
entry_after [] slot h = Some (entry_at slot h)
entry_after (x ∷ xs) slot h = None

-- the entries with one more, if it is given
abbrev pub with_entry : Option Entry → List Entry → List Entry
with_entry None es = es
with_entry (Some e) es = insert e es

-- the delay queue has an entry for each of these operations, and room for one entry per document
pub record IsHeld (v : Shelf) (n : ℕ) (d : Delays) : Type 0 where
  pub holding : IsHolding v.queues n
  pub entries : d.entries ≡ map (entry_of v.slots) (eligible (merge_of v.queues))
  pub room : length (keys_of v.queues) ≤ d.room
