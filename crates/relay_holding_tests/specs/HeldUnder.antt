-- That versions are below the next one is a proposition: any two proofs of it are equal.
use Rattle.std.specs.Prelude.{ℕ, List, [], ◌∷◌}
use Rattle.std.specs.Coded.{le_prop}
use Rattle.relay_held.specs.declared.kept.Kept.{Kept}
use Rattle.relay_held.specs.Queues.{AllUnder}

pub AllUnder-prop : (v : ℕ) (hs : List Kept) → IsProp (AllUnder v hs)
AllUnder-prop v [] = hlevel
AllUnder-prop v (h ∷ hs) = hlevel (le_prop, AllUnder-prop v hs)
