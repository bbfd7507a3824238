-- The faults, as they are printed, and those that may pass.
use Rattle.std.specs.Prelude.{ℕ, ◌==◌, ◌||◌, Bool, true, false, List, [], ◌∷◌, ◌++◌, codes, Result, Ok, Err}
use Rattle.std.specs.Fmt.{decimal}
use Rattle.relay_epoch.specs.declared.fault.EpochFault.{EpochFault}
use Rattle.relay_epoch.specs.declared.fault.EpochFault.TheVariants as fault

-- a status after which the relay repeats a request
abbrev pub is_repeated : ℕ → Bool
is_repeated status = status == 429 || (status == 502 || (status == 503 || status == 504))

abbrev pub is_passing : EpochFault → Bool
is_passing fault.Unreachable = true
is_passing (fault.Status status kind) = is_repeated status
is_passing fault.NoVersion = false
is_passing fault.Spent = false
is_passing fault.Memory = false

-- there is a fault that may pass
abbrev pub may_pass : Result ℕ EpochFault → Bool
may_pass (Ok epoch) = false
may_pass (Err f) = is_passing f

-- the type of an error after the status, if there is one
abbrev pub after_status : List ℕ → List ℕ
after_status [] = []
after_status (b ∷ bytes) = codes " " ++ (b ∷ bytes)

abbrev pub fault_words : EpochFault → List ℕ
fault_words fault.Unreachable = codes "unreachable"
fault_words (fault.Status status kind) = (codes "status " ++ decimal status) ++ after_status kind
fault_words fault.NoVersion = codes "no version in the answer"
fault_words fault.Spent = codes "spent"
fault_words fault.Memory = codes "out of memory"

-- the line that is printed
abbrev pub fault_text : EpochFault → List ℕ
fault_text f = (codes "epoch: " ++ fault_words f) ++ codes "\n"
