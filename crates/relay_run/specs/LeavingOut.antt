-- What is said of the operations that were left out.
use Rattle.std.specs.Prelude.{◌≡◌, ℕ, ◌==◌, List, ◌++◌, codes, decimal, Bool, true, false}
use Rattle.relay_words.specs.declared.exit.Exit.{Exit}
use Rattle.relay_words.specs.declared.exit.Exit.TheVariants as exit
use Rattle.relay_run.specs.Faults.{worse}
use Rattle.relay_run.specs.Saying.{IsSaid, Written}

abbrev pub left_out_text : List ℕ → ℕ → List ℕ
left_out_text name count = name ++ codes ": invalid operations left out: " ++ decimal count ++ codes "\n"

-- nothing is said if none was left out; otherwise it counts as reports do, since what is to be put right is in a file
abbrev pub SaysIf : Bool → List ℕ → ℕ → Exit → Written → Written → Exit → Type 0
SaysIf true name count before err err' end = (err' ≡ err) × (end ≡ before)
SaysIf false name count before err err' end = IsSaid (left_out_text name count) err err' × (end ≡ worse before exit.Reported)

abbrev pub SaysLeftOut : List ℕ → ℕ → Exit → Written → Written → Exit → Type 0
SaysLeftOut name count before err err' end = SaysIf (count == 0) name count before err err' end
