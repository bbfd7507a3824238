-- A lane in memory: how contracts see it, and what always holds of it.
pub use Rattle.relay_held.specs.Queues.{AllAbove, Rises, AllUnder}
use Rattle.std.specs.Prelude.{◌≡◌, ℕ, ◌+◌, ◌-◌, ◌/◌, ◌<◌, ◌≤◌, List, [], ◌∷◌, Option, Some, None, option_map, Bool, true, false, ◌==◌, ◌||◌, map, length, slice_get, if◌then◌else◌}
use Rattle.relay_action.specs.Actions.{kind_of}
use Rattle.relay_action.specs.declared.write.Write.{Write}
use Rattle.relay_action.specs.declared.action.Action.{Action}
use Rattle.relay_action.specs.declared.action.Action.TheVariants.{Delete}
use Rattle.relay_action.specs.declared.action.ActionKind.{ActionKind}
use Rattle.relay_action.specs.declared.operation.Op.{Op}
use Rattle.relay_ndjson.specs.Bulk.{write_text}
use Rattle.relay_results.specs.Outside.{Answer}
use Rattle.relay_results.specs.declared.outcome.Outcome.{Outcome}
use Rattle.relay_results.specs.Fates.{Tries, fate, fate_of_entry}
use Rattle.relay_delivery.specs.Machine.{Place, Held}
use Rattle.relay_delivery.specs.Lane.{Entry, Flying}
use Rattle.relay_held.specs.declared.kept.Kept.{Kept}
use Rattle.relay_core.specs.declared.fates.Way.{Way}
use Rattle.relay_core.specs.declared.fates.Way.TheVariants as way
use Rattle.relay_delivery.specs.Bound.{halvings}
use Rattle.relay_held.specs.declared.kept.Spot.{Spot}
use Rattle.relay_flight.specs.declared.request.Request.{Request}
use Rattle.relay_core.specs.Successes.{status_at}
use Rattle.relay_core.specs.Walk.{flies_here, fate_or, status_in}

-- ---- read

-- delivery counts requests from 0, the lane from 1
abbrev pub place_at : Spot → Place
place_at s = record { request = s.request - 1; place = s.place }

abbrev pub flying_of : Request → Flying
flying_of x = record { request = x.number - 1; writes = x.writes.items }

-- the writes of a request in flight
abbrev pub writes_in : List Request → ℕ → List Write
writes_in [] n = []
writes_in (x ∷ xs) n = if x.number == n then x.writes.items else writes_in xs n

abbrev pub is_in : ℕ → List Request → Bool
is_in n [] = false
is_in n (x ∷ xs) = (x.number == n) || is_in n xs

abbrev pub write_found : Option Write → Option Spot → (ℕ → List Write) → Option Write
write_found (Some w) fl f = Some w
write_found None None f = None
write_found None (Some p) f = slice_get (f p.request) p.place

abbrev pub action_or : Option Write → Action
action_or None = Delete
action_or (Some w) = w.action

abbrev pub op_of : Kept → (ℕ → List Write) → Op
op_of h f = record { epoch = h.name.epoch; producer = h.name.producer; number = h.name.number; key = h.key; action = action_or (write_found h.write h.flies f) }

abbrev pub held_seen : (ℕ → List Write) → Kept → Held
held_seen f h = record { op = op_of h f; version = h.version; sends = h.sends; attempts = h.attempts; cap = h.cap; flies = option_map place_at h.flies }

abbrev pub entry_of : (ℕ → List Write) → Kept → Entry
entry_of f h = record { held = held_seen f h; bytes = h.bytes; taken_at = h.taken_at; since = h.since; due = h.due }

abbrev pub entries : List Kept → (ℕ → List Write) → List Entry
entries hs f = map (entry_of f) hs

-- ---- what must hold of it

pub record IsWriteOf (h : Kept) (w : Write) : Type 0 where
  pub key : w.key ≡ h.key
  pub version : w.version ≡ h.version
  pub kind : kind_of w.action ≡ h.kind
  pub bytes : h.bytes ≡ length (write_text w)

abbrev pub Given : Bool → Type 0 → Type 0
Given true X = X
Given false X = Unit {0}

abbrev pub further : Bool → ℕ → ℕ
further true p = p + 1
further false p = p

abbrev pub rest_if : Bool → List Write → List Write
rest_if true [] = []
rest_if true (w ∷ ws) = ws
rest_if false ws = ws

pub record IsMet (number place : ℕ) (h : Kept) (ws : List Write) : Type 0 where
  pub write : Write
  pub found : ws ≡ write ∷ rest_if true ws
  pub spot : h.flies ≡ Some (record { request = number; place = place })
  pub matches : IsWriteOf h write

-- the operations in flight in a request have its writes, in order
abbrev pub Carries : ℕ → ℕ → List Kept → List Write → Type 0
Carries number place [] ws = ws ≡ []
Carries number place (h ∷ hs) ws =
    Given (flies_here number h.flies) (IsMet number place h ws)
    × Carries number (further (flies_here number h.flies) place) hs (rest_if (flies_here number h.flies) ws)

-- a request with this many operations is within the cap of each that is in flight in it, unless there is only one
abbrev pub HasRoom : ℕ → ℕ → List Kept → Type 0
HasRoom number len [] = Unit {0}
HasRoom number len (h ∷ hs) = Given (flies_here number h.flies) (1 < len → len ≤ h.cap) × HasRoom number len hs

-- no request in flight has more writes than fit a cap
abbrev pub AreFew : List Request → Type 0
AreFew [] = Unit {0}
AreFew (x ∷ xs) = (length x.writes.items ≤ 4294967295) × AreFew xs

-- what waits has its write, and tries left; what is in flight has its write in its request, whose number was used
abbrev pub IsHome : ℕ → ℕ → Kept → Option Write → Option Spot → Type 0
IsHome max next h (Some w) None = IsWriteOf h w × (h.attempts < max)
IsHome max next h (Some w) (Some s) = ⊥
IsHome max next h None None = ⊥
IsHome max next h None (Some s) = (1 ≤ s.request) × (s.request < next) × (h.attempts ≤ max)

pub record IsKept (max next : ℕ) (h : Kept) : Type 0 where
  pub home : IsHome max next h h.write h.flies
  pub sends : h.sends + halvings h.cap ≤ h.attempts + 14  -- a cap falls at each send that does not count
  pub due : h.due ≤ 18446744073709551615

abbrev pub AllKept : ℕ → ℕ → List Kept → Type 0
AllKept max next [] = Unit {0}
AllKept max next (h ∷ hs) = IsKept max next h × AllKept max next hs

pub record IsReadable (max next : ℕ) (held : List Kept) (flying : List Request) : Type 0 where
  pub kept : AllKept max next held
  pub rises : Rises held
  pub carries : (n : ℕ) → Carries n 0 held (writes_in flying n)
  pub caps : (n : ℕ) → HasRoom n (length (writes_in flying n)) held
  pub few : AreFew flying

-- the tries that held operations have left, and the halvings of their caps
abbrev pub tries_left : ℕ → List Kept → ℕ
tries_left max [] = 0
tries_left max (h ∷ hs) = (max - h.attempts) + halvings h.cap + tries_left max hs

-- ---- one by one

-- an answer means the same for each operation as the status of the whole request, or the operation's entry
abbrev pub SaysAs : Answer → List Write → Way → List Outcome → Type 0
SaysAs a ws whole os = (t : Tries) (p : ℕ) (kind : ActionKind) → fate t ws p kind a ≡ fate_or whole (fate_of_entry t kind (slice_get os p))

-- an answer has the same status for each place as these entries
abbrev pub TellsAs : Answer → List Write → List Outcome → Type 0
TellsAs a ws os = (p : ℕ) → status_at ws a p ≡ status_in (slice_get os p)

-- a request that is halved had two or more writes, and the cap is half their number
abbrev pub IsHalf : Way → ℕ → Type 0
IsHalf (way.ByEntry tried) len = Unit {0}
IsHalf (way.Reported status) len = Unit {0}
IsHalf (way.Halved cap) len = (2 ≤ len) × (cap ≡ len / 2)

-- an operation as it is held just after it was taken
abbrev pub kept_new : Op → ℕ → ℕ → ℕ → ℕ → Kept
kept_new o version bytes clock cap = record {
  name = record { epoch = o.epoch; producer = o.producer; number = o.number };
  key = o.key;
  kind = kind_of o.action;
  version = version;
  bytes = bytes;
  cap = cap;
  taken_at = clock;
  since = clock;
  due = clock;
  sends = 0;
  attempts = 0;
  flies = None;
  write = Some (record { key = o.key; version = version; action = o.action });
}
