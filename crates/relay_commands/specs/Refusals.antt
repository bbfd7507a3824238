-- The refusals that a command line asks for, such as `2:429,5:400`.
use Rattle.std.specs.Prelude.{◌≡◌, ℕ, zero, suc, ◌<◌, List, [], ◌∷◌, ◌++◌, Option, None, Some, ◌==◌, if◌then◌else◌}
use Rattle.std.specs.Option.{option_or}
use Rattle.std.specs.List.{before_first}
use Rattle.relay_index.specs.Choices.{MayRefuse}
use Rattle.relay_index.specs.Plans.{Plan, refusal_at}
use Rattle.relay_words.specs.Numbers.{IsNumber}
use Rattle.relay_commands.specs.declared.refuse_list.ListFault.{ListFault}
use Rattle.relay_commands.specs.declared.refuse_list.ListFault.TheVariants as fault

-- a refusal: the position of an item, from 1, a colon, and the status with which the item is refused
pub record IsRefusal (text : List ℕ) (place status : ℕ) : Type 0 where
  pub front : List ℕ
  pub back : List ℕ
  pub whole : text ≡ front ++ 58 ∷ back
  pub place_is : IsNumber front place
  pub status_is : IsNumber back status
  pub from_one : 0 < place
  pub may : MayRefuse status

-- one or more refusals, separated by commas
abbrev pub IsList : List ℕ → List (ℕ × ℕ) → Type 0
IsList text [] = ⊥
IsList text (x ∷ []) = IsRefusal text x.0 x.1
IsList text (x ∷ y ∷ xs) = (front : List ℕ) × (rest : List ℕ) × IsRefusal front x.0 x.1 × IsList rest (y ∷ xs) × (text ≡ front ++ 44 ∷ rest)

-- the status of a position: the last that is given for it
abbrev pub last_status : List (ℕ × ℕ) → ℕ → Option ℕ
last_status [] place = None
last_status (x ∷ xs) place = option_or (last_status xs place) (if x.0 == place then Some x.1 else None)

-- the script refuses exactly these items, nothing was run under it, and it accepts a body of any length
pub record Refuses (refusals : List (ℕ × ℕ)) (plan : Plan) : Type 0 where
  pub statuses : (place : ℕ) → refusal_at plan place ≡ last_status refusals place
  pub none_run : plan.ran ≡ 0
  pub unlimited : plan.limit ≡ None

-- the text is not a refusal
abbrev pub IsNoRefusal : List ℕ → Type 0
IsNoRefusal text = (place status : ℕ) → IsRefusal text place status → ⊥

-- after this many refusals, each followed by a comma, what precedes the next comma or the end is not one
abbrev pub IsBadAfter : List ℕ → ℕ → Type 0
IsBadAfter text zero = IsNoRefusal (before_first (λ b. b == 44) text)
IsBadAfter text (suc n) =
    (front : List ℕ) × (rest : List ℕ) × (place : ℕ) × (status : ℕ) × IsRefusal front place status × (text ≡ front ++ 44 ∷ rest) × IsBadAfter rest n

-- why there is no script: the text is not a list, and this pair is the first invalid one; or an allocation failed
abbrev pub IsListFault : List ℕ → ListFault → Type 0
IsListFault text (fault.BadList before) = ((refusals : List (ℕ × ℕ)) → IsList text refusals → ⊥) × IsBadAfter text before
IsListFault text fault.Memory = Unit {0}
