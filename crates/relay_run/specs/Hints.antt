-- What the conflicts of a run most likely come from.
use Rattle.std.specs.Prelude.{◌≡◌, ℕ, ◌+◌, ◌-◌, ◌/◌, ◌^◌, ◌≤◌, List, ◌++◌, Option, None, Some, Bool, true, false, max, nat_lt, nat_le, codes, decimal, if◌then◌else◌}
use Rattle.std.specs.List.{list_any}
use Rattle.relay_results.specs.Words.{Mem}
use Rattle.relay_results.specs.declared.cause.Cause.{Cause}
use Rattle.relay_results.specs.declared.cause.Cause.TheVariants as cause
use Rattle.relay_core.specs.declared.report.Report.{Report}
use Rattle.relay_run.specs.Saying.{Written, IsSaid}

-- the epoch of a version: epoch E has the versions from E * 2^40 + 1 on
abbrev pub epoch_of : ℕ → ℕ
epoch_of version = (version - 1) / 2 ^ 40

abbrev pub stored_in : Cause → Option ℕ
stored_in (cause.Conflict stored reason) = stored
stored_in other = None

abbrev pub is_conflict_cause : Cause → Bool
is_conflict_cause (cause.Conflict stored reason) = true
is_conflict_cause other = false

-- the stored version that a conflict states
abbrev pub stored_by : Report → Option ℕ
stored_by r = stored_in r.cause

abbrev pub is_conflict : Report → Bool
is_conflict r = is_conflict_cause r.cause

abbrev pub has_conflict : List Report → Bool
has_conflict reports = list_any is_conflict reports

-- one of the conflicts states this version, and none states a higher one; or none states a version
abbrev pub IsGreatestStored : List Report → Option ℕ → Type 0
IsGreatestStored reports None = (r : Report) → Mem r reports → stored_by r ≡ None
IsGreatestStored reports (Some greatest) =
    ((r : Report) × Mem r reports × (stored_by r ≡ Some greatest))
    × ((r : Report) (version : ℕ) → Mem r reports → stored_by r ≡ Some version → version ≤ greatest)

abbrev pub higher : Option ℕ → Option ℕ → Option ℕ
higher None other = other
higher (Some one) None = Some one
higher (Some one) (Some other) = Some (max one other)

-- ---- the line

-- the highest epoch that a run may have
abbrev pub epoch_limit : ℕ
epoch_limit = 4194303

abbrev pub reach_text : ℕ → List ℕ
reach_text epoch =
    codes "the index has versions of epoch " ++ decimal epoch ++ codes ": run again with --epoch " ++ decimal (epoch + 1) ++ codes " or higher\n"

-- the greatest stored version is of the first epoch, and the run's is the second one
abbrev pub stored_text : ℕ → ℕ → List ℕ
stored_text stored epoch =
    if nat_le stored epoch then codes "the index has versions of this epoch or of an earlier one: of another run in it, or of another writer\n"
    else if nat_lt stored epoch_limit then reach_text stored
    else codes "the index has versions that no epoch is above: of another writer\n"

abbrev pub hint_for : Option ℕ → ℕ → List ℕ
hint_for None epoch = codes "the index has versions that are not below those of this run: of a higher epoch, or of another writer\n"
hint_for (Some stored) epoch = stored_text (epoch_of stored) epoch

-- the line for the greatest version that the conflicts state was said, unless there was no conflict
abbrev pub IsHintIf : Bool → List Report → ℕ → Written → Written → Type 0
IsHintIf true reports epoch old new = (stored : Option ℕ) × IsGreatestStored reports stored × IsSaid (hint_for stored epoch) old new
IsHintIf false reports epoch old new = new ≡ old

abbrev pub IsHint : List Report → ℕ → Written → Written → Type 0
IsHint reports epoch old new = IsHintIf (has_conflict reports) reports epoch old new
