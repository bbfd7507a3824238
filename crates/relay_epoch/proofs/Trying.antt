-- Tries with faults that may pass.
use Rattle.std.proofs.Common.{ℕ, List, ◌∷◌, Option, Result, Ok, Err}
use Rattle.std.specs.Prelude.{IsTrue}
use Rattle.std.proofs.lemmas.Bool.{false≢true}
use Rattle.relay_epoch.specs.Asking.{Tried, AllPassing}
use Rattle.relay_epoch.specs.Faults.{may_pass}
use Rattle.relay_epoch.specs.declared.fault.EpochFault.{EpochFault}

-- one more try with a fault that may pass
pub one_more_try : {S : Type 0} (left written : S → Option (List ℕ)) (failed : S → ℕ) (message : List ℕ) (r : Result ℕ EpochFault) (earlier : List EpochFault)
    → IsTrue (may_pass r) → Tried left written failed message r → AllPassing left written failed message earlier
    → (f : EpochFault) × AllPassing left written failed message (f ∷ earlier)
one_more_try left written failed message (Ok epoch) earlier passes tried all = absurd (false≢true passes)
one_more_try left written failed message (Err f) earlier passes tried all = (f, (passes, tried, all))
