-- The heaps of waiting operations, and the line that goes with one of them.
use Rattle.std.specs.Prelude.{◌≡◌, ℕ, ◌==◌, ◌<◌, ◌≤◌, ◌+◌, ◌^◌, Bool, true, false, List, [], ◌∷◌, ◌++◌, map, length}
use Rattle.std.specs.List.{IsDistinct, AllByRecursion}
use Rattle.std.specs.Ordering.{nat_cmp}
use Rattle.std.specs.declared.cmp.Ordering.{Ordering}
use Rattle.std.specs.BinaryHeap.{IsHeap}
use Rattle.relay_delay.specs.declared.entry.Entry.{Entry}
use Rattle.relay_delay.specs.declared.ready.ByVersion.{ByVersion}
use Rattle.relay_delay.specs.declared.later.ByDue.{ByDue}
use Rattle.relay_delay.specs.Waiting.{insert, is_due, Rises}

-- how many operations there is room for, and those that are there, in ascending order of version
pub record Heap : Type 0 where
  pub room : ℕ
  pub entries : List Entry

abbrev pub sort : List Entry → List Entry
sort [] = []
sort (e ∷ es) = insert e (sort es)

-- the first list, inserted one by one into the other
abbrev pub insert_all : List Entry → List Entry → List Entry
insert_all [] es = es
insert_all (x ∷ xs) es = insert x (insert_all xs es)

abbrev pub same_version : Entry → Entry → Bool
same_version a b = a.version == b.version

-- the lowest version first
abbrev pub by_version : ByVersion → ByVersion → Ordering
by_version a b = nat_cmp b.0.version a.0.version

-- the soonest first
abbrev pub by_due : ByDue → ByDue → Ordering
by_due a b = nat_cmp b.0.due a.0.due

abbrev pub ready_items : List ByVersion → List Entry
ready_items bs = map (λ (b : ByVersion). b.0) bs

abbrev pub later_items : List ByDue → List Entry
later_items bs = map (λ (b : ByDue). b.0) bs

-- a heap, and a line in ascending order of version
pub record IsReady (bs : List ByVersion) (line : List Entry) : Type 0 where
  pub order : IsHeap by_version bs
  pub rises : Rises line
  pub distinct : IsDistinct same_version (ready_items bs ++ line)

pub record IsLater (bs : List ByDue) : Type 0 where
  pub order : IsHeap by_due bs
  pub distinct : IsDistinct same_version (later_items bs)

abbrev pub AllDue : ℕ → List Entry → Type 0
AllDue clock es = AllByRecursion (λ e. is_due clock e ≡ true) es

abbrev pub NoneDue : ℕ → List Entry → Type 0
NoneDue clock es = AllByRecursion (λ e. is_due clock e ≡ false) es

abbrev pub AllUpTo : ℕ → List Entry → Type 0
AllUpTo v es = AllByRecursion (λ (e : Entry). e.version ≤ v) es

abbrev pub AllFrom : ℕ → List Entry → Type 0
AllFrom v es = AllByRecursion (λ (e : Entry). v ≤ e.version) es

-- there is a first operation, and its version is at most this one
abbrev pub StartsUpTo : ℕ → List Entry → Type 0
StartsUpTo v [] = ⊥
StartsUpTo v (e ∷ es) = e.version ≤ v

-- no version in the second list is below the first one in the first list; if the first list is empty, so is the second
abbrev pub Leads : List Entry → List Entry → Type 0
Leads [] es = es ≡ []
Leads (x ∷ xs) es = AllFrom x.version es

-- while the clock advances: those in front and those that are ready are due, and some of the others may be
pub record IsMoving (clock : ℕ) (front : List Entry) (ready later : Heap) : Type 0 where
  pub rises : Rises (insert_all later.entries (front ++ ready.entries))
  pub due : AllDue clock (front ++ ready.entries)
  pub count : length front + length ready.entries + length later.entries ≤ ready.room

-- the due ones are those in front and then those that are ready; the others are later
pub record IsDelayed (clock room : ℕ) (front : List Entry) (ready later : Heap) : Type 0 where
  pub rises : Rises (insert_all later.entries (front ++ ready.entries))
  pub due : AllDue clock (front ++ ready.entries)
  pub not_due : NoneDue clock later.entries
  pub ready_room : room ≤ ready.room
  pub later_room : room ≤ later.room
  pub count : length front + length ready.entries + length later.entries ≤ room
  pub fits : room < 2 ^ 64
