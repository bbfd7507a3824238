-- How the last line of a report ends.
use Rattle.std.specs.Prelude.{◌≡◌, ◌≢◌, ℕ, suc, ◌≤◌, ◌<◌, ◌⊎◌, List, length, drop, slice_index, None, Some}
use Rattle.relay_action.specs.declared.operation.OpName.{OpName}
use Rattle.relay_report.specs.Naming.{IsNamedBy}
use Rattle.relay_report.specs.declared.mending.LastLine.{LastLine}
use Rattle.relay_report.specs.declared.mending.LastLine.TheVariants as last

-- the last line begins at this place: at the beginning of the text or after a line feed, and there is none from there
-- on; it is empty if the text is, or ends with a line feed
pub record BeginsLast (text : List ℕ) (place : ℕ) : Type 0 where
  pub within : place ≤ length text
  pub begins : (place ≡ 0) ⊎ ((before : ℕ) × (place ≡ suc before) × (slice_index text before ≡ 10))
  pub last : (k : ℕ) → place ≤ k → k < length text → slice_index text k ≢ 10

abbrev pub EndsLike : List ℕ → LastLine → Type 0
EndsLike text last.Ended = BeginsLast text (length text)
EndsLike text last.Unended = (place : ℕ) × BeginsLast text place × (place < length text) × (name : OpName) × IsNamedBy (drop place text) (Some name)
EndsLike text (last.Torn whole) = BeginsLast text whole × (whole < length text) × IsNamedBy (drop whole text) None
