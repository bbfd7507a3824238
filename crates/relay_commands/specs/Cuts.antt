-- For one pair of a list of refusals, and for the texts from which it is cut.
use Rattle.std.specs.Prelude.{◌≡◌, ℕ, ◌<◌, List, length, Some, ◌==◌, if◌then◌else◌}
use Rattle.std.specs.List.{before_first, after_first, position_or_len}
use Rattle.relay_index.specs.Plans.{Plan, refusal_at}
use Rattle.relay_commands.specs.Refusals.{IsNoRefusal}
use Rattle.relay_commands.specs.declared.refuse_list.ListFault.{ListFault}
use Rattle.relay_commands.specs.declared.refuse_list.ListFault.TheVariants as fault

-- the byte does not occur in the text
abbrev pub IsUncut : ℕ → List ℕ → Type 0
IsUncut c text = position_or_len (λ b. b == c) text ≡ length text

-- the parts are what precedes the first such byte, and what follows it
pub record IsSplitAt (c : ℕ) (text front back : List ℕ) : Type 0 where
  pub there : position_or_len (λ b. b == c) text < length text
  pub front_is : front ≡ before_first (λ b. b == c) text
  pub back_is : back ≡ after_first (λ b. b == c) text

-- the script refuses one more item
pub record Adds (old new : Plan) (place status : ℕ) : Type 0 where
  pub statuses : (p : ℕ) → refusal_at new p ≡ (if place == p then Some status else refusal_at old p)
  pub ran : new.ran ≡ old.ran
  pub limit : new.limit ≡ old.limit

-- why a part is not added
abbrev pub IsPartFault : List ℕ → ℕ → ListFault → Type 0
IsPartFault text before (fault.BadList n) = IsNoRefusal text × (n ≡ before)
IsPartFault text before fault.Memory = Unit {0}
