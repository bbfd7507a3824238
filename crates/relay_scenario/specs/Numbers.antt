-- The numbers in a line.
use Rattle.std.specs.Prelude.{ℕ, List, [], ◌∷◌}
use Rattle.relay_words.specs.Numbers.{IsNumber}
use Rattle.relay_scenario.specs.Words.{Begins}
use Rattle.relay_scenario.specs.declared.event_line.LineFault.{LineFault}
use Rattle.relay_scenario.specs.declared.event_line.LineFault.TheVariants as fault

-- one or more numbers, separated by single spaces
abbrev pub AreNumbers : List ℕ → List ℕ → Type 0
AreNumbers text [] = ⊥
AreNumbers text (n ∷ []) = IsNumber text n
AreNumbers text (n ∷ m ∷ ns) =
    (word : List ℕ) × (rest : List ℕ) × Begins text word rest × IsNumber word n × AreNumbers rest (m ∷ ns)

-- why a word has no number: it is not one, or an allocation failed
abbrev pub IsWordFault : List ℕ → LineFault → Type 0
IsWordFault word fault.Bad = (n : ℕ) → IsNumber word n → ⊥
IsWordFault word fault.Memory = Unit {0}

-- why a text has no numbers: it has another form, or an allocation failed
abbrev pub IsNumbersFault : List ℕ → LineFault → Type 0
IsNumbersFault text fault.Bad = (ns : List ℕ) → AreNumbers text ns → ⊥
IsNumbersFault text fault.Memory = Unit {0}
