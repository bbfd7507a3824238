-- A run that goes on with an input at a mark of an earlier run: what both read of it.
use Rattle.std.specs.Prelude.{◌≡◌, ◌⊎◌, ℕ, ◌+◌, ◌<◌, List, [], ◌∷◌, ◌++◌, length, map, Option, None, Some, Result, Ok, Err}
use Rattle.relay_action.specs.declared.operation.Op.{Op}
use Rattle.relay_action.specs.declared.operation.OpName.{OpName}
use Rattle.relay_ndjson.specs.declared.kind.InputFault.{InputFault}
use Rattle.relay_ndjson.specs.declared.kind.LineKind.TheVariants as kind
use Rattle.relay_ndjson.specs.Operations.{Operation}
use Rattle.relay_ndjson.specs.Reading.{Reading, fresh}
use Rattle.relay_producer.specs.States.{ProducerState}
use Rattle.relay_resume.specs.declared.mark.Mark.{Mark}
use Rattle.relay_resume.specs.declared.mark.Place.{Place}
use Rattle.relay_resume.specs.Contents.{Begins, End, Holds, after_lines}
use Rattle.relay_resume.specs.GoingOn.{ComesAfter, HoldsBoth, LiesIn, text_from}
use Rattle.relay_resume.specs.Trails.{after}
use Rattle.relay_common.specs.Putting.{after_puts, named_ops}
use Rattle.relay_run.specs.declared.feed.FeedFault.{FeedFault}
use Rattle.relay_run.specs.declared.feed.FeedFault.TheVariants as fault
use Rattle.relay_run.specs.Feeding.{Feeds, FeedsAllTelling, Stops}
use Rattle.relay_run.specs.Numbering.{name_on, settled_before}
use Rattle.relay_run.specs.Places.{AreFirst}
use Rattle.relay_run.specs.Readers.{answer_of}
use Rattle.relay_run.specs.Resuming.{line_on}
use Rattle.relay_run.specs.Safe.{IsDone, IsSafe}
use Rattle.relay_run.specs.Saving.{Saver}
use Rattle.relay_run.specs.Settling.{Tellings}

-- ---- the earlier run

-- the operation that was read, but not put, if there is one
abbrev pub refused_op : (rest new : Reading) (fed after : ProducerState) (result : Result Unit FeedFault) → Stops rest new fed after result → List Operation
refused_op rest new fed after (Ok u) stops = []
refused_op rest new fed after (Err (fault.Input e)) stops = []
refused_op rest new fed after (Err fault.NumbersSpent) stops = stops.1 ∷ []
refused_op rest new fed after (Err fault.LaneGone) stops = stops.1 ∷ []
refused_op rest new fed after (Err fault.Stopped) stops = []

-- the operations that were read: those that were put, and it
abbrev pub read_ops : (old new : Reading) (before after : ProducerState) (result : Result Unit FeedFault) → Feeds old new before after result → List Operation
read_ops old new before after result feeds = feeds.ops ++ refused_op feeds.rest new (after_puts before feeds.ops) after result feeds.stops

-- Of the operations that were read of an input from a mark on, which are at the front there, these come before another mark,
-- and the others after it.
pub record Divides (index : Option (List ℕ)) (input : List ℕ) (start m : Mark) (read : List Operation) (places : List Place) : Type 0 where
  pub done : List Operation
  pub later : List Operation
  pub parts : read ≡ done ++ later
  pub many : length done ≡ length places
  pub comes : ComesAfter index input start done m
  pub lines : ℕ
  pub front : Begins index (text_from start input) read lines (after_lines lines (text_from start input))

-- the mark after the first places that a producer told of an input comes after the operations that it read first
abbrev pub PlacesDivide : Type 0
PlacesDivide = (index : Option (List ℕ)) (input : List ℕ) (m : Mark) (failed : ℕ) (new : Reading) (before put : ProducerState) (told now : Tellings)
    (result : Result Unit FeedFault) (places : List Place) →
    LiesIn now.start input → told.places ≡ [] → (feeds : FeedsAllTelling (fresh (Some (text_from now.start input)) failed index) new before put told now result)
    → AreFirst places now.places → m ≡ after now.start places
    → Divides index input now.start m (read_ops (fresh (Some (text_from now.start input)) failed index) new before put result feeds.0) places

-- The same of a mark that was given: each operation before it was applied, or its report was saved.
pub record DividesSafely (index : Option (List ℕ)) (input : List ℕ) (start m : Mark) (read : List Operation) (producer : ℕ) (tells : List Saver) : Type 0 where
  pub done : List Operation
  pub later : List Operation
  pub parts : read ≡ done ++ later
  pub settled : (n : ℕ) → n < length done → IsDone producer (n + 1) tells
  pub comes : ComesAfter index input start done m
  pub lines : ℕ
  pub front : Begins index (text_from start input) read lines (after_lines lines (text_from start input))

abbrev pub SafeMarksDivide : Type 0
SafeMarksDivide = (index : Option (List ℕ)) (input : List ℕ) (failed : ℕ) (new : Reading) (before put : ProducerState) (told : Tellings)
    (result : Result Unit FeedFault) (inputs : List Tellings) (tells : List Saver) (given : ℕ × Mark) (safe : IsSafe inputs tells given) →
    LiesIn safe.input.start input → told.places ≡ []
    → (feeds : FeedsAllTelling (fresh (Some (text_from safe.input.start input)) failed index) new before put told safe.input result)
    → DividesSafely index input safe.input.start given.1 (read_ops (fresh (Some (text_from safe.input.start input)) failed index) new before put result feeds.0) given.0 tells

-- ---- the run that goes on

-- the name of an operation
abbrev pub name_of_op : Op → OpName
name_of_op op = record { epoch = op.epoch; producer = op.producer; number = op.number }

-- What a run is fed that goes on at a mark. Behind the operations before the mark it is at the front of the input; it is the
-- first of the others, in order, and all of them if the input was put in full; and a fault of a line names this line in the
-- input. The numbers under which they are named, on from those that the mark counts, are those in the whole input.
pub record FeedsTheOthers (index : Option (List ℕ)) (input : List ℕ) (start m : Mark) (done ops : List Operation) (stopped : Option FeedFault) : Type 0 where
  pub lines : ℕ
  pub begins : Begins index (text_from start input) (done ++ ops) lines (after_lines lines (text_from start input))
  pub first : (later : List Operation) (end : End) → Holds index (text_from start input) (done ++ later) end → (more : List Operation) × (later ≡ ops ++ more)
  pub all : stopped ≡ None → Holds index (text_from start input) (done ++ ops) None
  pub others : stopped ≡ None → (later : List Operation) (end : End) → Holds index (text_from start input) (done ++ later) end → later ≡ ops
  pub broken : (e : InputFault) → stopped ≡ Some (fault.Input e) → (e.kind ≡ kind.Read) ⊎ (e.kind ≡ kind.Memory)
      ⊎ (HoldsBoth index input start m done ops (Some (e.line, e.kind)) × (line_on m e ≡ record e { line = m.line + e.line }))
  pub named : (before : List ℕ) (epoch producer : ℕ) → settled_before before producer ≡ m.count
      → map (λ op. name_on before (name_of_op op)) (named_ops epoch producer 1 ops) ≡ map name_of_op (named_ops epoch producer (m.count + 1) ops)

abbrev pub RunsGoOn : Type 0
RunsGoOn = (index : Option (List ℕ)) (input : List ℕ) (start m : Mark) (done : List Operation) (failed : ℕ) (new : Reading) (before put : ProducerState)
    (stopped : Option FeedFault) →
    ComesAfter index input start done m → (fed : Feeds (fresh (Some (text_from m input)) failed index) new before put (answer_of stopped))
    → FeedsTheOthers index input start m done fed.ops stopped

-- ---- both

-- what a run that goes on in full is fed begins with what the earlier one read after the mark
abbrev pub Repeats : Option FeedFault → (ops later : List Operation) → Type 0
Repeats stopped ops later = stopped ≡ None → (more : List Operation) × (ops ≡ later ++ more)

-- A run that goes on at a mark of an earlier run, on the same input: what that one read before the mark was settled, and
-- this one is fed the others.
abbrev pub RunsTogether : Type 0
RunsTogether = (index : Option (List ℕ)) (input : List ℕ) (failed : ℕ) (new : Reading) (before put : ProducerState) (told : Tellings)
    (result : Result Unit FeedFault) (inputs : List Tellings) (tells : List Saver) (given : ℕ × Mark) (safe : IsSafe inputs tells given)
    (failures : ℕ) (last : Reading) (begun closed : ProducerState) (stopped : Option FeedFault) →
    LiesIn safe.input.start input → told.places ≡ []
    → (feeds : FeedsAllTelling (fresh (Some (text_from safe.input.start input)) failed index) new before put told safe.input result)
    → (fed : Feeds (fresh (Some (text_from given.1 input)) failures index) last begun closed (answer_of stopped))
    → (d : DividesSafely index input safe.input.start given.1 (read_ops (fresh (Some (text_from safe.input.start input)) failed index) new before put result feeds.0) given.0 tells)
    × FeedsTheOthers index input safe.input.start given.1 d.done fed.ops stopped × Repeats stopped fed.ops d.later
