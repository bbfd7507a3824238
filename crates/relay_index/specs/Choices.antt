-- The statuses with which an index may refuse a write, and what it may do with one.
use Rattle.std.specs.Prelude.{◌≢◌, ℕ, ◌≤◌}
use Rattle.relay_index.specs.declared.choice.Choice.{Choice}
use Rattle.relay_index.specs.declared.choice.Choice.TheVariants.{Run, Refuse}

-- An index may refuse a write with a status from 400 to 599, except 404, which says that a delete found no document,
-- and 409, a version conflict.
pub record MayRefuse (status : ℕ) : Type 0 where
  pub least : 400 ≤ status
  pub most : status ≤ 599
  pub no_absence : status ≢ 404
  pub no_conflict : status ≢ 409

abbrev pub MayChoose : Choice → Type 0
MayChoose Run = Unit {0}
MayChoose (Refuse status) = MayRefuse status
