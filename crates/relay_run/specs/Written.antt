-- The states that a run writes to the file of its state, and the marks in them.
use Rattle.std.specs.Prelude.{◌≡◌, ◌⊎◌, ℕ, ◌+◌, ◌≤◌, List, [], ◌∷◌, ◌++◌, Option, Some, None, length, slice_get}
use Rattle.relay_results.specs.Words.{Mem}
use Rattle.relay_resume.specs.declared.mark.Mark.{Mark}
use Rattle.relay_resume.specs.declared.state.InputState.{InputState}
use Rattle.relay_resume.specs.declared.state.State.{State}
use Rattle.relay_resume.specs.Texts.{state_text}
use Rattle.relay_receipts.specs.declared.notice.Notice.{Notice}
use Rattle.relay_keeping.specs.declared.told.Told.{Told}
use Rattle.relay_keeping.specs.Keepers.{AllWere, IsMarkAfter, Keeping}

-- what a keeper of marks had taken, and which marks it had given, at some time
pub record Past : Type 0 where
  pub taken : List (Notice Told)
  pub given : List (ℕ × Mark)

-- before there is a keeper
abbrev pub no_past : Past
no_past = record { taken = []; given = [] }

abbrev pub past_of : Keeping → Past
past_of k = record { taken = k.taken; given = k.given }

-- of a keeper, if there is one
abbrev pub past_if : {A : Type 0} → (A → Keeping) → Option A → Past
past_if keeper None = no_past
past_if keeper (Some a) = past_of (keeper a)

-- a text that the file of a state was given, and what the keeper had taken and given by then
pub record Written : Type 0 where
  pub text : List ℕ
  pub past : Past

-- one more text was given to it
abbrev pub and_written : List ℕ → Past → List Written → List Written
and_written text past ws = ws ++ record { text = text; past = past } ∷ []

-- it was given this text besides, or nothing
abbrev pub MayWrite : List ℕ → Past → List Written → List Written → Type 0
MayWrite text past old new = (new ≡ old) ⊎ (new ≡ and_written text past old)

-- ---- the marks in a state

-- which producers read the inputs of a state, in its order, and the path of each producer's file
pub record Reads : Type 0 where
  pub producers : List ℕ
  pub files : List (List ℕ)

-- a mark of this producer's input: the one that it is read from in this run, or one that the keeper gave for it
abbrev pub IsMarked : List Mark → List (ℕ × Mark) → ℕ → Mark → Type 0
IsMarked starts given producer mark = (slice_get starts producer ≡ Some mark) ⊎ Mem (producer, mark) given

-- an input of a state that this producer reads
pub record IsRead (files : List (List ℕ)) (starts : List Mark) (given : List (ℕ × Mark)) (producer : ℕ) (input : InputState) : Type 0 where
  pub path : slice_get files producer ≡ Some input.path
  pub mark : IsMarked starts given producer input.mark

-- each input of a state is read by the producer at its position, and has a mark of that producer's input
pub record AreRead (reads : Reads) (starts : List Mark) (given : List (ℕ × Mark)) (inputs : List InputState) : Type 0 where
  pub count : length inputs ≡ length reads.producers
  pub each : (n p : ℕ) (i : InputState) → slice_get reads.producers n ≡ Some p → slice_get inputs n ≡ Some i → IsRead reads.files starts given p i

-- What was written is the text of a state, each of whose marks is the one that its input is read from in this run, or one
-- that the keeper had given by then, by what it had taken by then.
pub record IsWell (reads : Reads) (starts : List Mark) (w : Written) : Type 0 where
  pub state : State
  pub text : w.text ≡ state_text state
  pub inputs : AreRead reads starts w.past.given state.inputs
  pub were : AllWere starts w.past.taken w.past.given

-- each of them is
abbrev pub AllWell : Reads → List Mark → List Written → Type 0
AllWell reads starts written = (w : Written) → Mem w written → IsWell reads starts w

-- ---- as it goes on

-- more may have been taken and given since then
pub record IsPast (now past : Past) : Type 0 where
  pub later : List (Notice Told)
  pub more : List (ℕ × Mark)
  pub taken : now.taken ≡ past.taken ++ later
  pub given : now.given ≡ past.given ++ more

abbrev pub ArePast : Past → List Written → Type 0
ArePast now written = (w : Written) → Mem w written → IsPast now w.past

-- A run that goes on: who reads its inputs, its state, where each producer's input is read from, and what was written.
pub record Resuming : Type 0 where
  pub reads : Reads
  pub inputs : List InputState
  pub starts : List Mark
  pub written : List Written

-- nothing was given by a keeper yet
pub record IsBegun (r : Resuming) : Type 0 where
  pub count : length r.starts ≤ length r.reads.files
  pub inputs : AreRead r.reads r.starts [] r.inputs
  pub written : AllWell r.reads r.starts r.written
  pub past : (w : Written) → Mem w r.written → w.past ≡ no_past

-- a run that goes on, if it does, has these files and begins
abbrev pub BeginsAt : List (List ℕ) → Option Resuming → Type 0
BeginsAt files None = Unit {0}
BeginsAt files (Some r) = IsBegun r × (r.reads.files ≡ files)

-- what has been written so far goes by this keeper, and so does its state
pub record GoesBy (k : Keeping) (r : Resuming) : Type 0 where
  pub were : AllWere k.starts k.taken k.given
  pub inputs : AreRead r.reads k.starts k.given r.inputs
  pub written : AllWell r.reads k.starts r.written
  pub past : ArePast (past_of k) r.written

-- where a run was to be read from at each place, it is
abbrev pub StartsAt : List Mark → List Mark → Type 0
StartsAt starts now = (p : ℕ) (m : Mark) → slice_get starts p ≡ Some m → slice_get now p ≡ Some m

-- ---- a state that is kept

-- its keeper of marks, who reads its inputs, and what was written
pub record StateKeeping : Type 0 where
  pub marks : Keeping
  pub reads : Reads
  pub written : List Written

-- a keeper that gave nothing yet, of a run that goes on and begins, and whose inputs are read from where it says
abbrev pub AreBegun : Option Resuming → Option Keeping → Type 0
AreBegun None k = Unit {0}
AreBegun (Some r) None = Unit {0}
AreBegun (Some r) (Some k) = IsBegun r × StartsAt r.starts k.starts × (k.given ≡ [])

-- it is kept by this run that goes on and this keeper
abbrev pub IsKeptOf : StateKeeping → Option Resuming → Option Keeping → Type 0
IsKeptOf kept resumed marks = (r : Resuming) × (resumed ≡ Some r) × (marks ≡ Some kept.marks) × (kept.reads ≡ r.reads)

-- ---- the steps of a keeper and of a run that goes on

-- the keeper gave more marks, and nothing else changed
pub record GivesMore (old new : Keeping) : Type 0 where
  pub more : List (ℕ × Mark)
  pub is : new ≡ record old { given = old.given ++ more }
  pub were : AllWere old.starts old.taken old.given → AllWere new.starts new.taken new.given

-- it was asked for the mark of one producer's input
abbrev pub MovesOne : ℕ → (mark mark' : Mark) → (old new : Keeping) → Type 0
MovesOne producer mark mark' old new =
    ((mark' ≡ mark) × (new ≡ old)) ⊎ (IsMarkAfter old.starts old.taken producer mark' × (new ≡ record old { given = old.given ++ (producer, mark') ∷ [] }))

-- inputs that are read by these producers still are
abbrev pub StillRead : List ℕ → (old new : Keeping) → (inputs inputs' : List InputState) → Type 0
StillRead producers old new inputs inputs' =
    (files : List (List ℕ)) → AreRead (record { producers = producers; files = files }) old.starts old.given inputs → AreRead (record { producers = producers; files = files }) new.starts new.given inputs'

-- the input at this place was opened, which has this path: it is one of the state, or none
pub record OpensOne (place : ℕ) (path : List ℕ) (ps ps' : List ℕ) (is is' : List InputState) (ms ms' : List Mark) : Type 0 where
  pub count : length ms' ≡ place + 1
  pub read : (files : List (List ℕ)) → slice_get files place ≡ Some path → AreRead (record { producers = ps; files = files }) ms [] is → AreRead (record { producers = ps'; files = files }) ms' [] is'

-- the keeper of a state that is kept, and the run that goes on, if there are both
abbrev pub GoIf : Option Keeping → Option Resuming → Type 0
GoIf None r = Unit {0}
GoIf (Some k) None = Unit {0}
GoIf (Some k) (Some r) = GoesBy k r
