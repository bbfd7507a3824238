-- What a lane of a run is told of, and what it saves of that in its file.
use Rattle.std.specs.Prelude.{◌≡◌, ℕ, ◌<◌, Bool, true, false, List, [], ◌∷◌, ◌++◌, Option, Some, None, flat_map, map}
use Rattle.relay_results.specs.Words.{Mem}
use Rattle.relay_core.specs.declared.report.Report.{Report}
use Rattle.relay_core.specs.declared.success.Success.{Success}
use Rattle.relay_core.specs.Walk.{report_of}
use Rattle.relay_keeping.specs.Tellers.{LaneState, seat}
use Rattle.relay_report.specs.Reports.{report_line}
use Rattle.relay_threads.specs.declared.summary.LaneSummary.{LaneSummary}
use Rattle.relay_run.specs.Numbering.{report_on}
use Rattle.relay_run.specs.Settling.{Seat, Settled, name_of}
use Rattle.relay_threads.specs.Told.{Told, applied_of, reports_of}

-- What was written to the file of a lane, if it shows that; how many calls of it failed; whether a write of a report
-- failed; how many operations of each input were settled before the run; what the lane told of: the operations that ended as
-- applied, and the reports, each in order; and which operations it told as settled, and by which end.
pub record Saver : Type 0 where
  pub given : Option (List ℕ)
  pub failures : ℕ
  pub failed : Bool
  pub before : List ℕ
  pub applied : List Success
  pub reported : List Report
  pub settled : Settled
  pub via : Seat

abbrev pub seat_of : Saver → Seat
seat_of s = s.via

abbrev pub lane_seat : LaneState → Seat
lane_seat v = seat v.end

-- of these, what was told of the operations of one producer
abbrev pub told_by : Saver → ℕ → Option Told
told_by s p = Some (record { applied = applied_of p s.applied; reported = reports_of p (map report_of s.reported) })

-- a file was given exactly this text, if it shows what it was given
abbrev pub IsExactly : Option (List ℕ) → List ℕ → Type 0
IsExactly None text = Unit {0}
IsExactly (Some given) text = given ≡ text

-- A file was given the line of each of these reports, in order, and nothing else, and no call of it failed; or a write
-- failed, and a call of it has failed.
abbrev pub Keeps : Bool → Option (List ℕ) → ℕ → List Report → Type 0
Keeps false given failures reports = IsExactly given (flat_map report_line reports) × (failures ≡ 0)
Keeps true given failures reports = 0 < failures

-- a file was given this text first, if it shows what it was given
abbrev pub BeginsWith : Option (List ℕ) → List ℕ → Type 0
BeginsWith None text = Unit {0}
BeginsWith (Some given) text = (more : List ℕ) × (given ≡ text ++ more)

-- Told as settled were the operations that were applied, and of those that were reported the first ones, whose lines the
-- file was given before anything else: all of them, unless a write of a report failed.
pub record Settles (failed : Bool) (given : Option (List ℕ)) (before : List ℕ) (applied : List Success) (reported : List Report) (settled : Settled) : Type 0 where
  pub saved : List Report
  pub others : List Report
  pub applies : settled.applied ≡ map name_of applied
  pub reports : reported ≡ saved ++ others
  pub saves : settled.saved ≡ map (λ r. r.name) saved
  pub lines : BeginsWith given (flat_map report_line (map (report_on before) saved))
  pub all : failed ≡ false → others ≡ []

abbrev pub KeepsAll : Bool → Option (List ℕ) → ℕ → (before : List ℕ) → List Success → List Report → Settled → Type 0
KeepsAll failed given failures before applied reported settled =
    Keeps failed given failures (map (report_on before) reported) × Settles failed given before applied reported settled

abbrev pub KeepsTold : Saver → Type 0
KeepsTold s = KeepsAll s.failed s.given s.failures s.before s.applied s.reported s.settled

-- one more report was saved, or a write of it failed, or one had failed before
abbrev pub KeepsOneMore : Report → (before after : Bool) → (given now : Option (List ℕ)) → (failures failed : ℕ) → Type 0
KeepsOneMore r before after given now failures failed =
    (reports : List Report) → Keeps before given failures reports → Keeps after now failed (reports ++ r ∷ [])

-- what a file was given first it was still given first
abbrev pub GoesOn : Option (List ℕ) → Option (List ℕ) → Type 0
GoesOn given now = (text : List ℕ) → BeginsWith given text → BeginsWith now text

-- ---- the lanes of a run

-- nothing was written to any of these files, and no call of them failed
abbrev pub AreUnwritten : {F : Type 0} → (F → Option (List ℕ)) → (F → ℕ) → List F → Type 0
AreUnwritten written failed [] = Unit {0}
AreUnwritten written failed (f ∷ fs) = (IsExactly (written f) [] × (failed f ≡ 0)) × AreUnwritten written failed fs

-- none of these was given anything to tell
abbrev pub AreUntold : List LaneState → Type 0
AreUntold [] = Unit {0}
AreUntold (v ∷ vs) = ((v.applied ≡ []) × (v.saved ≡ [])) × AreUntold vs

-- none of them was told anything
abbrev pub AreNew : List Saver → Type 0
AreNew [] = Unit {0}
AreNew (s ∷ ss) = ((s.applied ≡ []) × (s.reported ≡ [])) × AreNew ss

-- each of them numbers the operations in its reports on from these
abbrev pub AllGoOnFrom : List ℕ → List Saver → Type 0
AllGoOnFrom before [] = Unit {0}
AllGoOnFrom before (s ∷ ss) = (s.before ≡ before) × AllGoOnFrom before ss

-- one more was added, which was told nothing, numbers on from these and tells by this seat
abbrev pub AddsOne : List Saver → List Saver → List ℕ → Seat → Type 0
AddsOne old new before via = (s : Saver) × (new ≡ old ++ s ∷ []) × ((s.applied ≡ []) × (s.reported ≡ [])) × (s.before ≡ before) × (s.via ≡ via)

-- whether a write of a report failed for one of them
abbrev pub SayFailed : List Saver → Bool → Type 0
SayFailed ss true = (s : Saver) × Mem s ss × (s.failed ≡ true)
SayFailed ss false = (s : Saver) → Mem s ss → s.failed ≡ false

-- what each of them was told of is kept
abbrev pub AllKeep : List Saver → Type 0
AllKeep ss = (s : Saver) → Mem s ss → KeepsTold s

-- A lane with these reports was told of exactly them: of those of each producer in the order of the lane. And its file
-- was given their lines, or a write failed.
pub record Saves (s : Saver) (reports : List Report) : Type 0 where
  pub same : (p : ℕ) → reports_of p (map report_of s.reported) ≡ reports_of p (map report_of reports)
  pub keeps : KeepsTold s

-- this holds for all lanes, in order
abbrev pub AllSave : {W : Type 0} → List Saver → List (LaneSummary W) → Type 0
AllSave [] [] = Unit {0}
AllSave [] (l ∷ ls) = ⊥
AllSave (s ∷ ss) [] = ⊥
AllSave (s ∷ ss) (l ∷ ls) = Saves s l.reports.items × AllSave ss ls
