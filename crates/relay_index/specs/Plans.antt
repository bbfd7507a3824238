-- Scripts of refusals.
use Rattle.std.specs.Prelude.{ℕ, List, [], Option, None, Some, option_map, Bool, true, nat_le, ◌==◌}
use Rattle.std.specs.Map.{lookup}
use Rattle.relay_action.specs.Streams.{one_more}
use Rattle.relay_index.specs.declared.choice.Choice.{Choice}
use Rattle.relay_index.specs.declared.choice.Choice.TheVariants.{Run, Refuse}
use Rattle.relay_index.specs.declared.refusal.Refusal.{Refusal}

-- Which items are refused, by their place among all items that are run under the script, and with which status; how
-- many items were run so far; and the limit of a body. The place of an item is the count that includes it; the count
-- saturates at 2^64 - 1.
pub record Plan : Type 0 where
  pub refusals : List (ℕ × Refusal)
  pub ran : ℕ
  pub limit : Option ℕ

-- no item is refused, and none was run
abbrev pub no_script : Plan
no_script = record { refusals = []; ran = 0; limit = None }

-- the status with which the item at a place is refused, if it is
abbrev pub refusal_at : Plan → ℕ → Option ℕ
refusal_at plan place = option_map (λ (r : Refusal). r.status) (lookup (λ p. place == p) plan.refusals)

-- the choice for the next item
abbrev pub choice_by : Option ℕ → Choice
choice_by None = Run
choice_by (Some status) = Refuse status

abbrev pub choice_at : Plan → Choice
choice_at plan = choice_by (refusal_at plan (one_more plan.ran))

-- a body of this size is accepted
abbrev pub takes_by : Option ℕ → ℕ → Bool
takes_by None bytes = true
takes_by (Some most) bytes = nat_le bytes most

abbrev pub takes : Plan → ℕ → Bool
takes plan bytes = takes_by plan.limit bytes

-- from now on a body has at most this many bytes
abbrev pub with_limit : ℕ → Plan → Plan
with_limit most plan = record plan { limit = Some most }

-- one more item was run
abbrev pub after_item : Plan → Plan
after_item plan = record plan { ran = one_more plan.ran }
