-- A shortcut past the sending rule, which does not change its result: until when no batch can be due.
use Rattle.std.specs.Prelude.{◌≡◌, ℕ, ◌+◌, ◌-◌, ◌<◌, ◌≤◌, List, [], length, Bool, false, ◌&&◌, nat_lt, if◌then◌else◌}
use Rattle.relay_batch.specs.declared.item.Limits.{Limits}
use Rattle.relay_batch.specs.declared.item.Room.{Room}
use Rattle.relay_batch.specs.declared.item.BatchItem.{BatchItem}
use Rattle.relay_batch.specs.Batches.{bytes_of, count_of}
use Rattle.relay_batch.specs.Gathering.{Gathering, is_lingered}
use Rattle.relay_core.specs.Rule.{gathering_after, closes, is_marked}

abbrev pub empty : Limits → Gathering
empty limits = record { limits = limits; items = [] }

-- room for at least one item and one byte
abbrev pub is_roomy : Room → Bool
is_roomy r = nat_lt 0 r.items && nat_lt 0 r.bytes

abbrev pub no_room : Room
no_room = record { items = 0; bytes = 0 }

-- the room that is left after an operation with this many bytes
abbrev pub less : ℕ → Room → Room
less bytes r = if nat_lt bytes r.bytes then record { items = r.items - 1; bytes = r.bytes - bytes } else no_room

-- What is gathered of these items waits: it is not empty, no offer was Closed, nothing demands it yet, and as many
-- more items and bytes as there is room for, with caps of at least the limit's count, do not fill it.
pub record IsQuiet (clock mark : ℕ) (all_closed : Bool) (limits : Limits) (is : List BatchItem) (room : Room) : Type 0 where
  pub some : 0 < length (gathering_after is (empty limits)).items
  pub lasts : closes is (empty limits) ≡ false
  pub items : length (gathering_after is (empty limits)).items + room.items ≤ count_of limits.count (gathering_after is (empty limits)).items
  pub bytes : bytes_of (gathering_after is (empty limits)).items + room.bytes ≤ limits.bytes
  pub young : is_lingered limits.linger clock (gathering_after is (empty limits)).items ≡ false
  pub unmarked : is_marked mark (gathering_after is (empty limits)).items ≡ false
  pub still_open : all_closed ≡ false
