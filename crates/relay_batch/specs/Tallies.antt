-- A batch that is counted without its items.
use Rattle.std.specs.Prelude.{ℕ, ◌+◌, ◌-◌, min, Bool, false, ◌||◌, ◌&&◌, nat_lt, nat_le, if◌then◌else◌, Option, Some, None, length, slice_get}
use Rattle.relay_batch.specs.Batches.{bytes_of, count_of}
use Rattle.relay_batch.specs.Gathering.{Gathering}
use Rattle.relay_batch.specs.declared.item.BatchItem.{BatchItem}
use Rattle.relay_batch.specs.declared.item.Room.{Room}
use Rattle.relay_batch.specs.declared.tally.Tally.{Tally}
use Rattle.relay_batch.specs.declared.offer.Offer.{Offer}
use Rattle.relay_batch.specs.declared.offer.Offer.TheVariants.{Closed, Added}

-- what is counted of a batch
abbrev pub tally_of : Gathering → Tally
tally_of g = record { limits = g.limits; count = length g.items; bytes = bytes_of g.items; most = count_of g.limits.count g.items; first = slice_get g.items 0 }

-- there is an item, and with one more a count or the bytes would exceed the limits
abbrev pub is_closed_to : BatchItem → Tally → Bool
is_closed_to item t = (nat_lt 0 t.count && nat_le (min t.most item.cap) t.count) || (nat_lt 0 t.count && nat_lt t.limits.bytes (t.bytes + item.bytes))

abbrev pub tally_answer : BatchItem → Tally → Offer
tally_answer item t = if is_closed_to item t then Closed else Added

-- the bytes with these in addition
abbrev pub bytes_with : ℕ → Tally → ℕ
bytes_with bytes t = if nat_lt 0 t.count then t.bytes + bytes else bytes

abbrev pub first_or : BatchItem → Option BatchItem → BatchItem
first_or item None = item
first_or item (Some first) = first

-- one more item
abbrev pub with_tallied : BatchItem → Tally → Tally
with_tallied item t = record { limits = t.limits; count = t.count + 1; bytes = bytes_with item.bytes t; most = min t.most item.cap; first = Some (first_or item t.first) }

abbrev pub after_tally : BatchItem → Tally → Tally
after_tally item t = if is_closed_to item t then t else with_tallied item t

-- there is a first item, and the count or the bytes are reached, or the first item has lingered
abbrev pub is_ready_since : ℕ → Tally → Option BatchItem → Bool
is_ready_since now t None = false
is_ready_since now t (Some first) = nat_le t.most t.count || nat_le t.limits.bytes t.bytes || nat_le (first.taken_at + t.limits.linger) now

abbrev pub is_tally_ready : ℕ → Tally → Bool
is_tally_ready now t = is_ready_since now t t.first

-- what is left of the limits and the caps
abbrev pub tally_room : Tally → Room
tally_room t = record { items = t.most - t.count; bytes = t.limits.bytes - t.bytes }
