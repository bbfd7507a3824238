-- What is before the marks that were given, and those that were written: operations that a producer told, and that a lane
-- told as settled.
use Rattle.std.specs.Prelude.{◌≡◌, ◌⊎◌, ℕ, ◌+◌, ◌<◌, List, [], ◌∷◌, ◌++◌, flat_map, length, map, slice_get, Some}
use Rattle.relay_action.specs.declared.operation.OpName.{OpName}
use Rattle.relay_results.specs.Words.{Mem}
use Rattle.relay_core.specs.declared.report.Report.{Report}
use Rattle.relay_core.specs.declared.success.Success.{Success}
use Rattle.relay_resume.specs.declared.mark.Mark.{Mark}
use Rattle.relay_resume.specs.declared.mark.Place.{Place}
use Rattle.relay_resume.specs.declared.state.InputState.{InputState as InputOf}
use Rattle.relay_resume.specs.declared.state.State.{State}
use Rattle.relay_resume.specs.Texts.{state_text}
use Rattle.relay_resume.specs.Trails.{after}
use Rattle.relay_keeping.specs.Keepers.{WasMark}
use Rattle.relay_keeping.specs.Tellers.{InputState, LaneState, places_of}
use Rattle.relay_report.specs.Reports.{report_line}
use Rattle.relay_run.specs.Numbering.{report_on}
use Rattle.relay_run.specs.Places.{AreFirst}
use Rattle.relay_run.specs.Saving.{BeginsWith, KeepsTold, Saver}
use Rattle.relay_run.specs.Settling.{Tellings}
use Rattle.relay_run.specs.Written.{Past, Reads, Written}

-- a lane was told of this report, and its line is among those that its file was given first
pub record IsSaved (s : Saver) (r : Report) : Type 0 where
  pub saved : List Report
  pub others : List Report
  pub parts : s.reported ≡ saved ++ others
  pub lines : BeginsWith s.given (flat_map report_line (map (report_on s.before) saved))
  pub is_saved : Mem r saved

-- a lane was told that the operation with this name was applied, or of its report, which was saved
abbrev pub Ended : Saver → OpName → Type 0
Ended s name = ((x : Success) × Mem x s.applied × (x.name ≡ name)) ⊎ ((r : Report) × IsSaved s r × (r.name ≡ name))

-- one of these lanes was told so of the operation of this producer with this number
pub record IsDone (producer number : ℕ) (tells : List Saver) : Type 0 where
  pub saver : Saver
  pub is_saver : Mem saver tells
  pub name : OpName
  pub is_producer : name.producer ≡ producer
  pub is_number : name.number ≡ number
  pub ended : Ended saver name

-- The mark is the place after the first operations of this producer, so many as it counts: they end at the first of the
-- places that the producer told, and each of them was applied, or its report was saved.
pub record IsSafe (inputs : List Tellings) (tells : List Saver) (given : ℕ × Mark) : Type 0 where
  pub input : Tellings
  pub is_input : slice_get inputs given.0 ≡ Some input
  pub done : List Place
  pub first : AreFirst done input.places
  pub settled : (n : ℕ) → n < length done → IsDone given.0 (n + 1) tells
  pub mark : given.1 ≡ after input.start done

-- where each input is read from
abbrev pub starts_of : List Tellings → List Mark
starts_of inputs = map (λ (t : Tellings). t.start) inputs

-- each of them is
abbrev pub AllSafe : List Tellings → List Saver → List (ℕ × Mark) → Type 0
AllSafe inputs tells given = (g : ℕ × Mark) → Mem g given → IsSafe inputs tells g

-- ---- the states that were written

-- A mark of this producer's input in a state: it is the one that the input is read from in this run, or it is safe, and the
-- keeper had given it by then, as that of what it had taken by then.
abbrev pub Stands : List Tellings → List Saver → Past → ℕ → Mark → Type 0
Stands inputs tells past producer mark =
    ((input : Tellings) × (slice_get inputs producer ≡ Some input) × (mark ≡ input.start))
    ⊎ (Mem (producer, mark) past.given × WasMark (starts_of inputs) past.taken (producer, mark) × IsSafe inputs tells (producer, mark))

-- What was written is the text of a state: each of its inputs is the file at its path, which the producer at its position
-- reads, and its mark stands.
pub record IsSafeState (inputs : List Tellings) (tells : List Saver) (reads : Reads) (w : Written) : Type 0 where
  pub state : State
  pub text : w.text ≡ state_text state
  pub count : length state.inputs ≡ length reads.producers
  pub paths : (n p : ℕ) (i : InputOf) → slice_get reads.producers n ≡ Some p → slice_get state.inputs n ≡ Some i → slice_get reads.files p ≡ Some i.path
  pub stands : (n p : ℕ) (i : InputOf) → slice_get reads.producers n ≡ Some p → slice_get state.inputs n ≡ Some i → Stands inputs tells w.past p i.mark

-- each of them is
abbrev pub AllSafeStates : List Tellings → List Saver → Reads → List Written → Type 0
AllSafeStates inputs tells reads written = (w : Written) → Mem w written → IsSafeState inputs tells reads w

-- ---- the ends that are met

-- these told by these ends, in order
abbrev pub AreInputsOf : List Tellings → List InputState → Type 0
AreInputsOf [] [] = Unit {0}
AreInputsOf [] (v ∷ vs) = ⊥
AreInputsOf (t ∷ ts) [] = ⊥
AreInputsOf (t ∷ ts) (v ∷ vs) = ((v.start ≡ t.start) × AreFirst (places_of v) t.places) × AreInputsOf ts vs

-- a lane tells what it settles by this end
pub record IsLaneOf (s : Saver) (v : LaneState) : Type 0 where
  pub applied : v.applied ≡ s.settled.applied
  pub saved : v.saved ≡ s.settled.saved
  pub keeps : KeepsTold s

abbrev pub AreLanesOf : List Saver → List LaneState → Type 0
AreLanesOf [] [] = Unit {0}
AreLanesOf [] (v ∷ vs) = ⊥
AreLanesOf (s ∷ ss) [] = ⊥
AreLanesOf (s ∷ ss) (v ∷ vs) = IsLaneOf s v × AreLanesOf ss vs
