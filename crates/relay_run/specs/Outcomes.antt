-- The lines at the end of a run.
use Rattle.std.specs.Prelude.{◌≡◌, ℕ, ◌+◌, ◌*◌, ◌^◌, List, [], ◌∷◌, ◌++◌, length, codes, decimal, flat_map, map, IsPermutation}
use Rattle.std.specs.List.Sorted.{IsNonDecreasingBy}
use Rattle.relay_action.specs.declared.operation.OpName.{OpName}
use Rattle.relay_core.specs.declared.report.Report.{Report}
use Rattle.relay_common.specs.Counts.{counts_line, total}
use Rattle.relay_run.specs.Numbering.{report_on}
use Rattle.relay_words.specs.declared.exit.Exit.{Exit}
use Rattle.relay_words.specs.declared.exit.Exit.TheVariants as exit
use Rattle.relay_threads.specs.declared.fault.StartFault.{StartFault}
use Rattle.relay_threads.specs.declared.fault.StartFault.TheVariants as start
use Rattle.relay_threads.specs.declared.fault.FinishFault.{FinishFault}
use Rattle.relay_threads.specs.declared.fault.FinishFaultKind.{FinishFaultKind}
use Rattle.relay_threads.specs.declared.fault.FinishFaultKind.TheVariants as kind
use Rattle.relay_threads.specs.declared.summary.LaneSummary.{LaneSummary}
use Rattle.relay_words.specs.Texts.{name_text, document_text, cause_text}

-- `report P:N INDEX/ID CAUSE` and a line end
abbrev pub report_line : Report → List ℕ
report_line r = codes "report " ++ name_text r.name ++ codes " " ++ document_text r.key ++ codes " " ++ cause_text r.cause ++ codes "\n"

-- the lines of the reports, and then the counts
abbrev pub outcome_text : List Report → ℕ → ℕ → List ℕ
outcome_text reports applied already = flat_map report_line reports ++ counts_line applied already (length reports)

-- the position of a name in the order: by producer, and then by number, which is below 2^64
abbrev pub place_of : OpName → ℕ
place_of name = name.producer * 2 ^ 64 + name.number

-- the reports are in the order of their names
abbrev pub AreInOrder : List Report → Type 0
AreInOrder reports = IsNonDecreasingBy (λ r. place_of r.name) reports

-- the exit status if these operations are reported
abbrev pub exit_of_reports : List Report → Exit
exit_of_reports [] = exit.Done
exit_of_reports (r ∷ rs) = exit.Reported

module _ {W : Type 0} where
  -- the reports of all lanes
  abbrev pub reports_of : List (LaneSummary W) → List Report
  reports_of [] = []
  reports_of (s ∷ ss) = s.reports.items ++ reports_of ss

  -- these are the reports of all lanes, under the numbers of the whole inputs and in the order of their names, and the
  -- text has them and the counts of all lanes
  pub record TellsOf (before : List ℕ) (lanes : List (LaneSummary W)) (reports : List Report) (text : List ℕ) (end : Exit) : Type 0 where
    pub same : IsPermutation (map (report_on before) (reports_of lanes)) reports
    pub order : AreInOrder reports
    pub lines : text ≡ outcome_text reports (total (λ s. s.applied) 0 lanes) (total (λ s. s.already) 0 lanes)
    pub ends : end ≡ exit_of_reports (reports_of lanes)

-- the message for a relay that was not started
abbrev pub start_fault_text : StartFault → List ℕ
start_fault_text start.BadConfig = codes "start: BadConfig\n"
start_fault_text start.WireCount = codes "start: WireCount\n"
start_fault_text start.Memory = codes "start: Memory\n"
start_fault_text start.Thread = codes "start: Thread\n"

-- the name of a fault of `finish`
abbrev pub kind_name : FinishFaultKind → List ℕ
kind_name kind.LaneMemory = codes "LaneMemory"
kind_name kind.LaneGone = codes "LaneGone"
kind_name kind.Memory = codes "Memory"

-- the message for a relay that did not finish well
abbrev pub finish_fault_text : FinishFault → List ℕ
finish_fault_text f = codes "lane " ++ decimal f.lane ++ codes ": " ++ kind_name f.kind ++ codes "\n"
