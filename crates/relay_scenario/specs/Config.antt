-- The first line of a script.
use Rattle.std.specs.Prelude.{◌≡◌, ℕ, List, [], ◌∷◌, codes, ◌^◌, ◌&&◌, nat_lt, Bool, Option, None, Some, true, if◌then◌else◌, IsUtf8}
use Rattle.relay_core.specs.Limits.{is_valid}
use Rattle.relay_core.specs.declared.config.RelayConfig.{RelayConfig}
use Rattle.relay_scenario.specs.Words.{Begins}
use Rattle.relay_scenario.specs.Numbers.{AreNumbers}
use Rattle.relay_scenario.specs.declared.event_line.LineFault.{LineFault}
use Rattle.relay_scenario.specs.declared.event_line.LineFault.TheVariants as fault

-- each number has 32 bits
abbrev pub all_fit : List ℕ → Bool
all_fit [] = true
all_fit (n ∷ ns) = nat_lt n (2 ^ 32) && all_fit ns

-- the config with these eleven numbers, in this order; the attempts have a limit, and all but the bytes and the number
-- of versions have 32 bits
abbrev pub config_of : List ℕ → Option RelayConfig
config_of (lanes ∷ producers ∷ capacity ∷ held ∷ count ∷ bytes ∷ linger ∷ attempts ∷ flying ∷ epoch ∷ deal ∷ []) =
    if nat_lt 32 attempts then None
    else if all_fit (lanes ∷ producers ∷ capacity ∷ held ∷ count ∷ linger ∷ attempts ∷ flying ∷ epoch ∷ []) then Some (record {
      lanes = lanes;
      producers = producers;
      capacity = capacity;
      max_held = held;
      limits = record { count = count; bytes = bytes; linger = linger };
      attempts = attempts;
      give_up_after = None;
      in_flight = flying;
      epoch = epoch;
      deal = deal;
    }) else None
config_of other = None

-- the word `world` and the eleven numbers of a valid config
pub record IsConfigLine (line : List ℕ) (config : RelayConfig) : Type 0 where
  pub utf8 : IsUtf8 line
  pub rest : List ℕ
  pub numbers : List ℕ
  pub begins : Begins line (codes "world") rest
  pub are : AreNumbers rest numbers
  pub of_numbers : config_of numbers ≡ Some config
  pub valid : is_valid config ≡ true

-- why a line has no config: it is not the line of one, or an allocation failed
abbrev pub IsConfigFault : List ℕ → LineFault → Type 0
IsConfigFault line fault.Bad = (config : RelayConfig) → IsConfigLine line config → ⊥
IsConfigFault line fault.Memory = Unit {0}
