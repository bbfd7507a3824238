-- What is written at the end of a run, and the exit status.
use Rattle.std.specs.Prelude.{◌≡◌, ◌⊎◌, ℕ, List, [], ◌++◌, Option, Result, Ok, Err, Bool, false, true, codes}
use Rattle.std.specs.Io.KnownBytes.{append_known}
use Rattle.relay_action.specs.Streams.{FailedSince}
use Rattle.relay_words.specs.declared.exit.Exit.{Exit}
use Rattle.relay_words.specs.declared.exit.Exit.TheVariants as exit
use Rattle.relay_threads.specs.declared.fault.FinishFault.{FinishFault}
use Rattle.relay_threads.specs.declared.fault.FinishFaultKind.{FinishFaultKind}
use Rattle.relay_threads.specs.declared.fault.FinishFaultKind.TheVariants as kind
use Rattle.relay_threads.specs.declared.summary.LaneSummary.{LaneSummary}
use Rattle.relay_threads.specs.declared.summary.Summary.{Summary}
use Rattle.relay_core.specs.declared.report.Report.{Report}
use Rattle.relay_run.specs.Faults.{worse}
use Rattle.relay_run.specs.Outcomes.{TellsOf, finish_fault_text}

-- a stream: what was written, and how many calls failed
abbrev pub Written : Type 0
Written = Option (List ℕ) × ℕ

-- a call failed, or none did and this text was written
abbrev pub IsSaid : List ℕ → Written → Written → Type 0
IsSaid text old new = FailedSince old.1 new.1 ⊎ ((new.0 ≡ append_known old.0 text) × (new.1 ≡ old.1))

-- this text is said first, and then one more
abbrev pub SaysTwo : List ℕ → Written → Written → Type 0
SaysTwo text old new = (mid : Written) × (more : List ℕ) × IsSaid text old mid × IsSaid more mid new

-- a lane that is gone counts as a device fault
abbrev pub exit_of_finish : FinishFaultKind → Exit
exit_of_finish kind.LaneMemory = exit.Memory
exit_of_finish kind.LaneGone = exit.Device
exit_of_finish kind.Memory = exit.Memory

-- a failed write of the summary has a message, and counts as a device fault
abbrev pub failed_text : List ℕ
failed_text = codes "write failed\n"

-- The summary with these reports was written, given how many operations of each input were settled before the run, and there was no message; or a write of it failed, and there was one.
abbrev pub SaysSummary : {W : Type 0} → List ℕ → List (LaneSummary W) → List Report → Exit → Written → Written → Written → Written → Exit → Type 0
SaysSummary done lanes reports before out out' err err' end =
    (text : List ℕ) × (reported : Exit) × TellsOf done lanes reports text reported
    × (((out'.0 ≡ append_known out.0 text) × (out'.1 ≡ out.1) × (err' ≡ err) × (end ≡ worse before reported))
    ⊎ (FailedSince out.1 out'.1 × IsSaid failed_text err err' × (end ≡ worse before exit.Device)))

-- The faults of the files were written first, as this text. If the relay did not finish well, a message followed,
-- nothing was written to `out`, and there are no reports; otherwise the summary was written.
abbrev pub Concludes : {W : Type 0} → List ℕ → List ℕ → Exit → Result (Summary W) FinishFault → List Report → Written → Written → Written → Written → Exit → Type 0
Concludes done text before (Ok summary) reports out out' err err' end =
    (mid : Written) × IsSaid text err mid × SaysSummary done summary.lanes.items reports before out out' mid err' end
Concludes done text before (Err f) reports out out' err err' end =
    (mid : Written) × IsSaid text err mid × IsSaid (finish_fault_text f) mid err' × (out' ≡ out) × (end ≡ worse before (exit_of_finish f.kind))
    × (reports ≡ [])

-- the message for a file with this name that could not be created or written
abbrev pub file_failed_text : List ℕ → List ℕ → List ℕ
file_failed_text name what = name ++ codes ": " ++ what ++ codes " failed\n"

-- If a write of a report to the file with this name failed, that has a message, and counts as a device fault.
abbrev pub SaysSaved : List ℕ → Bool → Exit → Written → Written → Exit → Type 0
SaysSaved name false before err err' end = (err' ≡ err) × (end ≡ before)
SaysSaved name true before err err' end = IsSaid (file_failed_text name (codes "write")) err err' × (end ≡ worse before exit.Device)
