-- The versions of a desk.
use Rattle.std.specs.Prelude.{◌≡◌, ℕ, ◌<◌, Option, Some, None, false, List}
use Rattle.std.specs.List.{AllByRecursion, AllByRecursion-prop}
use Rattle.std.specs.Coded.{le_prop}
use Rattle.std.proofs.Math.Bool.{Bool-set}
use Rattle.relay_delay.specs.declared.entry.Entry.{Entry}
use Rattle.relay_delay.specs.Waiting.{has_version}

-- each version is below the next one
abbrev pub AllUnder : ℕ → List Entry → Type 0
AllUnder next es = AllByRecursion (λ (e : Entry). e.version < next) es

-- the version of the operation that is out is below the next one too, and no waiting operation has it
abbrev pub IsApart : ℕ → Option Entry → List Entry → Type 0
IsApart next None es = Unit {0}
IsApart next (Some e) es = (e.version < next) × (has_version e.version es ≡ false)

pub AllUnder-prop : (next : ℕ) (es : List Entry) → IsProp (AllUnder next es)
AllUnder-prop next es = AllByRecursion-prop (λ (e : Entry). e.version < next) (λ e. le_prop) es

pub IsApart-prop : (next : ℕ) (out : Option Entry) (es : List Entry) → IsProp (IsApart next out es)
IsApart-prop next None es = hlevel
IsApart-prop next (Some e) es = hlevel (le_prop, Bool-set)
