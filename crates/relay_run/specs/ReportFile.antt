-- What is written if the file for the reports is not opened, and the exit status.
use Rattle.std.specs.Prelude.{List, ℕ, None, codes}
use Rattle.relay_words.specs.declared.exit.Exit.{Exit}
use Rattle.relay_words.specs.declared.exit.Exit.TheVariants as exit
use Rattle.relay_run.specs.declared.report_file.FileOption.{FileOption}
use Rattle.relay_run.specs.declared.report_file.FileOption.TheVariants as option
use Rattle.relay_run.specs.declared.report_file.ReportFile.{ReportFile}
use Rattle.relay_run.specs.declared.report_file.ReportFileFault.{ReportFileFault}
use Rattle.relay_run.specs.declared.report_file.ReportFileFault.TheVariants as fault
use Rattle.relay_run.specs.Saving.{AreUnwritten}
use Rattle.relay_run.specs.Saying.{file_failed_text}

-- no call of any of these handles failed; a file does not show what was written to it
abbrev pub AreNewHandles : List (ReportFile × ℕ) → Type 0
AreNewHandles handles = AreUnwritten (λ h. None) (λ h. h.1) handles

-- a file that is read, or written for another purpose
abbrev pub not_apart_text : FileOption → List ℕ
not_apart_text option.Report = codes "error: --report FILE has to be a file of its own: not '-', and none of those that are read\n"
not_apart_text option.SkipInvalid =
    codes "error: --skip-invalid FILE has to be a file of its own: not '-', none of those that are read, and not that of --report\n"

abbrev pub not_empty_text : FileOption → List ℕ
not_empty_text option.Report = codes "error: --report FILE is not empty: --append adds to it, and otherwise it has to be a new or an empty file\n"
not_empty_text option.SkipInvalid = codes "error: --skip-invalid FILE is not empty: --append adds to it, and otherwise it has to be a new or an empty file\n"

-- the message for a file that this option names
abbrev pub report_file_text : FileOption → List ℕ → ReportFileFault → List ℕ
report_file_text o name (fault.Open reason) = file_failed_text name (codes "create")
report_file_text o name fault.Input = not_apart_text o
report_file_text o name fault.Content = not_empty_text o
report_file_text o name (fault.Mend reason) = file_failed_text name (codes "append")
report_file_text o name fault.Memory = codes ""

-- a file that the command line should not have named is a usage fault
abbrev pub exit_of_report_file : ReportFileFault → Exit
exit_of_report_file (fault.Open reason) = exit.Device
exit_of_report_file fault.Input = exit.Usage
exit_of_report_file fault.Content = exit.Usage
exit_of_report_file (fault.Mend reason) = exit.Device
exit_of_report_file fault.Memory = exit.Memory
