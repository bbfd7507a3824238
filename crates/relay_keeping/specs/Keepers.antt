-- The keeper of the marks of a run, as contracts see it.
use Rattle.std.specs.Prelude.{◌≡◌, ℕ, Bool, true, false, List, [], ◌∷◌, ◌++◌, Option, Some, None, slice_get}
use Rattle.relay_results.specs.Words.{Mem}
use Rattle.relay_resume.specs.declared.mark.Mark.{Mark}
use Rattle.relay_resume.specs.Trails.{IsMarkOf}
use Rattle.relay_receipts.specs.declared.notice.Notice.{Notice}
use Rattle.relay_receipts.specs.Ends.{Channel}
use Rattle.relay_keeping.specs.declared.told.Told.{Told}
use Rattle.relay_keeping.specs.Histories.{history_of}

-- its channel and the number of tellers; where each producer's input is read from; the notices that were taken; and the
-- marks that it gave, each with its producer, in order
pub record Keeping : Type 0 where
  pub channel : Channel Told
  pub tellers : ℕ
  pub starts : List Mark
  pub taken : List (Notice Told)
  pub given : List (ℕ × Mark)

-- a keeper that took and gave nothing yet
abbrev pub new_keeper : Channel Told → ℕ → List Mark → Keeping
new_keeper channel tellers starts = record { channel = channel; tellers = tellers; starts = starts; taken = []; given = [] }

-- this is the mark of a producer's input in the history that these notices make
pub record IsMarkAfter (starts : List Mark) (taken : List (Notice Told)) (producer : ℕ) (mark : Mark) : Type 0 where
  pub start : Mark
  pub is_start : slice_get starts producer ≡ Some start
  pub is_mark : IsMarkOf (history_of start producer taken) mark

-- this was the mark of a producer's input in the history of what had been taken at some time
pub record WasMark (starts : List Mark) (taken : List (Notice Told)) (given : ℕ × Mark) : Type 0 where
  pub before : List (Notice Told)
  pub later : List (Notice Told)
  pub parts : taken ≡ before ++ later
  pub then_mark : IsMarkAfter starts before given.0 given.1

-- each mark that was given was one
abbrev pub AllWere : List Mark → List (Notice Told) → List (ℕ × Mark) → Type 0
AllWere starts taken given = (g : ℕ × Mark) → Mem g given → WasMark starts taken g

-- the marks that were given, and this one, if it was
abbrev pub and_given : ℕ → Option Mark → List (ℕ × Mark) → List (ℕ × Mark)
and_given producer None given = given
and_given producer (Some mark) given = given ++ (producer, mark) ∷ []

-- one more notice was taken
abbrev pub and_taken : Notice Told → Keeping → Keeping
and_taken notice k = record k { taken = k.taken ++ notice ∷ [] }

-- whether one more notice was taken; nothing else changed
abbrev pub TakesOne : Bool → Keeping → Keeping → Type 0
TakesOne true old new = (notice : Notice Told) × (new ≡ and_taken notice old)
TakesOne false old new = new ≡ old
