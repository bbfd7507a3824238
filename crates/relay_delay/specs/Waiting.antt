-- Waiting operations in ascending order of version, and which of them are due.
use Rattle.std.specs.Prelude.{ℕ, ◌-◌, ◌<◌, Option, Some, None, Bool, not, ◌==◌, nat_lt, nat_le, min, if◌then◌else◌, List, [], ◌∷◌, filter}
use Rattle.std.specs.Option.{option_map}
use Rattle.std.specs.List.{list_any}
use Rattle.relay_delay.specs.declared.entry.Entry.{Entry}

-- the clock, how many operations there is room for, and those that wait, in ascending order of version
pub record Delays : Type 0 where
  pub clock : ℕ
  pub room : ℕ
  pub entries : List Entry

-- ---- in ascending order of version

abbrev pub AllAbove : ℕ → List Entry → Type 0
AllAbove v [] = Unit {0}
AllAbove v (e ∷ es) = (v < e.version) × AllAbove v es

-- versions increase, so no two are the same
abbrev pub Rises : List Entry → Type 0
Rises [] = Unit {0}
Rises (e ∷ es) = AllAbove e.version es × Rises es

-- an operation with this version waits
abbrev pub has_version : ℕ → List Entry → Bool
has_version v es = list_any (λ (e : Entry). e.version == v) es

-- an operation is added, in its place by version
abbrev pub insert : Entry → List Entry → List Entry
insert x [] = x ∷ []
insert x (e ∷ es) = if nat_lt x.version e.version then x ∷ e ∷ es else e ∷ insert x es

-- without the operation of this version
abbrev pub without : ℕ → List Entry → List Entry
without v es = filter (λ (e : Entry). not (e.version == v)) es

-- ---- when they are due

abbrev pub is_due : ℕ → Entry → Bool
is_due clock e = nat_le e.due clock

-- the operations that may be sent now
abbrev pub due_entries : Delays → List Entry
due_entries d = filter (is_due d.clock) d.entries

abbrev pub sooner : ℕ → Option ℕ → Option ℕ
sooner due None = Some due
sooner due (Some other) = Some (min due other)

-- the first tick at which an operation is due
abbrev pub first_due : List Entry → Option ℕ
first_due [] = None
first_due (e ∷ es) = sooner e.due (first_due es)

-- the ticks until then: 0 if one is due now
abbrev pub due_in : Delays → Option ℕ
due_in d = option_map (λ due. due - d.clock) (first_due d.entries)
