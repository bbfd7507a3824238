-- For the steps that read a state: its line, and the test of what was found.
use Rattle.std.specs.Prelude.{◌≡◌, ℕ, List, [], ◌∷◌, ◌++◌, Option, None, Some, Result, Ok, Err, IsTrue}
use Rattle.relay_resume.specs.declared.state.State.{State}
use Rattle.relay_resume.specs.declared.fault.StateFault.{StateFault}
use Rattle.relay_resume.specs.declared.fault.StateFault.TheVariants as fault
use Rattle.relay_resume.specs.States.{fits}
use Rattle.relay_resume.specs.Texts.{state_text}

-- what is before a line feed at the end, if there is one
abbrev pub IsLineOf : List ℕ → Option (List ℕ) → Type 0
IsLineOf bytes (Some line) = bytes ≡ line ++ 10 ∷ []
IsLineOf bytes None = (line : List ℕ) → bytes ≡ line ++ 10 ∷ [] → ⊥

-- a state is within its limits and these bytes are its text, or not
abbrev pub Accepts : State → List ℕ → Result State StateFault → Type 0
Accepts found bytes (Ok s) = (s ≡ found) × IsTrue (fits s) × (bytes ≡ state_text s)
Accepts found bytes (Err fault.Form) = IsTrue (fits found) → bytes ≡ state_text found → ⊥
Accepts found bytes (Err fault.Memory) = Unit {0}
