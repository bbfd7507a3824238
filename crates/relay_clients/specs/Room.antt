-- The room for bytes of requests: its two words, and what its shares add up to.
use Rattle.std.specs.Prelude.{◌≡◌, ◌≢◌, ℕ, ◌+◌, ◌-◌, ◌≤◌, Bool, true, false, List, [], ◌∷◌, length, slice_index}
use mathlib.Core.Option.{some}
use lib.ListN.{get_elem?}
use Rattle.atomic_table.specs.Seated.{TableId}
use Rattle.atomic_table.specs.Table.{State, Me, Step}
use Rattle.relay_clients.specs.declared.room.Stake.{Stake}

-- a room: how many bytes it has, and which one it is
pub record RoomView : Type 0 where
  pub most : ℕ
  pub id : TableId

-- a connection's share of a room: how many bytes it has, and whether it may grow although there is no room
pub record ShareView : Type 0 where
  pub bytes : ℕ
  pub is_beyond : Bool
  pub room : RoomView

abbrev pub share_of : RoomView → ℕ → Bool → ShareView
share_of room bytes is_beyond = record { bytes = bytes; is_beyond = is_beyond; room = room }

-- what the token of a share knows: its bytes, whether it goes beyond the room, and how many bytes the room has
abbrev pub stake : ℕ → Bool → ℕ → Stake
stake bytes is_beyond most = record { bytes = bytes; is_beyond = is_beyond; most = most }

-- a number of each share, added up
abbrev pub total : (Stake → ℕ) → List Stake → ℕ
total f [] = 0
total f (x ∷ xs) = f x + total f xs

abbrev pub unless : Bool → ℕ → ℕ
unless true n = 0
unless false n = n

abbrev pub one_if : Bool → ℕ
one_if true = 1
one_if false = 0

-- its bytes
abbrev pub bytes_of : Stake → ℕ
bytes_of x = x.bytes

-- its bytes, if it does not go beyond the room
abbrev pub inside_of : Stake → ℕ
inside_of x = unless x.is_beyond x.bytes

-- one, if it goes beyond
abbrev pub beyond_of : Stake → ℕ
beyond_of x = one_if x.is_beyond

-- The first word is what all shares add up to, and the second how many go beyond the room: at most one does. The others add up to at
-- most the room, and none has more than the largest share.
pub record IsKept (largest most : ℕ) (s : State (Unit {0}) Stake) : Type 0 where
  pub words : length s.words ≡ 2
  pub counted : slice_index s.words 0 ≡ total bytes_of s.views
  pub beyond : slice_index s.words 1 ≡ total beyond_of s.views
  pub alone : total beyond_of s.views ≤ 1
  pub inside : total inside_of s.views ≤ most
  pub each : (id : ℕ) (x : Stake) → get_elem? s.views id ≡ some x → x.bytes ≤ largest

-- what all shares add up to is at most the room and one largest share
abbrev pub SumIsLimited : Type 0
SumIsLimited = (largest most : ℕ) (s : State (Unit {0}) Stake) → IsKept largest most s → slice_index s.words 0 ≤ most + largest

abbrev Mine : Type 0
Mine = Me (Unit {0}) Stake

-- a look finds at most the room and one largest share
abbrev pub looked : ℕ → Step (Unit {0}) → Mine → ℕ → Mine → Type 0
looked largest st m r m' = (m'.0 ≡ m.0) × (r ≤ m.0.most + largest)

-- the word was as expected, and the share has grown by as much as it; or neither has
abbrev pub grown : Step (Unit {0}) → Mine → ℕ → Mine → Type 0
grown st m r m' = (r ≡ st.first → m'.0 ≡ stake (m.0.bytes + (st.second - st.first)) m.0.is_beyond m.0.most) × (r ≢ st.first → m'.0 ≡ m.0)

-- the share has grown by the step's number
abbrev pub added : Step (Unit {0}) → Mine → ℕ → Mine → Type 0
added st m r m' = m'.0 ≡ stake (m.0.bytes + st.first) m.0.is_beyond m.0.most

-- the share goes beyond the room, if none did
abbrev pub gone_beyond : Step (Unit {0}) → Mine → ℕ → Mine → Type 0
gone_beyond st m r m' = (r ≡ 0 → m'.0 ≡ stake m.0.bytes true m.0.most) × (r ≢ 0 → m'.0 ≡ m.0)

-- the share has no byte any more
abbrev pub emptied : Step (Unit {0}) → Mine → ℕ → Mine → Type 0
emptied st m r m' = m'.0 ≡ stake 0 m.0.is_beyond m.0.most

-- the share goes beyond the room no more
abbrev pub come_back : Step (Unit {0}) → Mine → ℕ → Mine → Type 0
come_back st m r m' = m'.0 ≡ stake m.0.bytes false m.0.most
