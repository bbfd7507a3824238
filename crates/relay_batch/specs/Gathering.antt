-- A batch while it is gathered: the answer to an offer, and when the batch is ready.
use Rattle.std.specs.Prelude.{ℕ, ◌+◌, ◌-◌, min, Bool, false, ◌||◌, ◌&&◌, ◌==◌, nat_lt, nat_le, if◌then◌else◌, List, [], ◌∷◌, ◌++◌, length, Result, Ok, Err}
use Rattle.std.specs.List.{list_any}
use Rattle.relay_batch.specs.Batches.{bytes_of, count_of}
use Rattle.relay_batch.specs.declared.item.Limits.{Limits}
use Rattle.relay_batch.specs.declared.item.BatchItem.{BatchItem}
use Rattle.relay_batch.specs.declared.item.Room.{Room}
use Rattle.relay_batch.specs.declared.offer.Offer.{Offer}
use Rattle.relay_batch.specs.declared.offer.Offer.TheVariants.{Busy, Closed, Added}

-- the limits, and the items so far
pub record Gathering : Type 0 where
  pub limits : Limits
  pub items : List BatchItem

-- an item of this document is among the items
abbrev pub holds_document : ℕ → List BatchItem → Bool
holds_document doc items = list_any (λ i. i.doc == doc) items

-- the limit's count, or the cap of one of the items, is reached
abbrev pub is_count_reached : Gathering → Bool
is_count_reached g = nat_le (count_of g.limits.count g.items) (length g.items)

-- the batch is not empty, and one more item with this cap would exceed the limit or a cap
abbrev pub passes_count : Gathering → ℕ → Bool
passes_count g cap = nat_lt 0 (length g.items) && nat_le (min (count_of g.limits.count g.items) cap) (length g.items)

-- the batch is not empty, and this many more bytes would exceed the limit
abbrev pub passes_bytes : Gathering → ℕ → Bool
passes_bytes g bytes = nat_lt 0 (length g.items) && nat_lt g.limits.bytes (bytes_of g.items + bytes)

-- the answer to an offer: the first that applies
abbrev pub answer_to : BatchItem → Gathering → Offer
answer_to item g =
    if holds_document item.doc g.items then Busy
    else if passes_count g item.cap || passes_bytes g item.bytes then Closed
    else Added

-- after an offer: Added puts the item at the end, and any other answer changes nothing
abbrev pub after_offer : {E : Type 0} → BatchItem → Gathering → Result Offer E → Gathering
after_offer item g (Ok Added) = record g { items = g.items ++ item ∷ [] }
after_offer item g (Ok Busy) = g
after_offer item g (Ok Closed) = g
after_offer item g (Err e) = g

-- there is a first item, and the clock is at least the linger time past the tick at which it was taken
abbrev pub is_lingered : ℕ → ℕ → List BatchItem → Bool
is_lingered linger now [] = false
is_lingered linger now (first ∷ rest) = nat_le (first.taken_at + linger) now

-- the batch is not empty, and its count or its bytes are reached, or its first item has lingered
abbrev pub is_ready : ℕ → Gathering → Bool
is_ready now g =
    nat_lt 0 (length g.items)
    && (is_count_reached g || nat_le g.limits.bytes (bytes_of g.items) || is_lingered g.limits.linger now g.items)

-- what is left of the limits and the caps
abbrev pub room_of : Gathering → Room
room_of g = record { items = count_of g.limits.count g.items - length g.items; bytes = g.limits.bytes - bytes_of g.items }
