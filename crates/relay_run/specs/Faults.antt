-- The message for a file that was not put in full, and the exit status after it.
use Rattle.std.specs.Prelude.{ℕ, Bool, true, false, List, [], ◌∷◌, ◌++◌, Option, None, Some, codes, decimal, if◌then◌else◌, nat_lt}
use Rattle.relay_ndjson.specs.declared.kind.LineKind.TheVariants as kind
use Rattle.relay_ndjson.specs.declared.kind.LineKind.{LineKind}
use Rattle.relay_ndjson.specs.Kinds.{name_of}
use Rattle.relay_words.specs.declared.exit.Exit.{Exit}
use Rattle.relay_words.specs.declared.exit.Exit.TheVariants as exit
use Rattle.relay_words.specs.Exits.{exit_of_kind}
use Rattle.relay_run.specs.declared.feed.FeedFault.{FeedFault}
use Rattle.relay_run.specs.declared.feed.FeedFault.TheVariants as feed
use Rattle.relay_run.specs.declared.faults.FileFault.{FileFault}
use Rattle.relay_run.specs.declared.faults.FileFault.TheVariants as fault

-- what follows the name of the file
abbrev pub line_fault_text : ℕ → LineKind → List ℕ
line_fault_text line kind.Read = codes "read failed"
line_fault_text line kind.Memory = codes "out of memory"
line_fault_text line other = codes "line " ++ decimal line ++ codes ": " ++ name_of other

-- the message line for a file; empty for a lane that is gone and for a run that stopped, which have messages of their own
abbrev pub file_fault_line : List ℕ → FileFault → List ℕ
file_fault_line file fault.Open = file ++ codes ": open failed\n"
file_fault_line file (fault.Feed (feed.Input e)) = file ++ codes ": " ++ line_fault_text e.line e.kind ++ codes "\n"
file_fault_line file (fault.Feed feed.NumbersSpent) = file ++ codes ": NumbersSpent\n"
file_fault_line file (fault.Feed feed.LaneGone) = []
file_fault_line file (fault.Feed feed.Stopped) = []

-- why a file was not put in full: it was not opened, or this stopped its producer
abbrev pub file_fault : Bool → Option FeedFault → Option FileFault
file_fault false stop = Some fault.Open
file_fault true None = None
file_fault true (Some stop) = Some (fault.Feed stop)

-- a file that cannot be opened or read counts as a device fault
abbrev pub exit_of_file : FileFault → Exit
exit_of_file fault.Open = exit.Device
exit_of_file (fault.Feed (feed.Input e)) = exit_of_kind e.kind
exit_of_file (fault.Feed feed.NumbersSpent) = exit.Input
exit_of_file (fault.Feed feed.LaneGone) = exit.Done
exit_of_file (fault.Feed feed.Stopped) = exit.Done

-- of several exit statuses the one with the highest rank is used; from the highest: a failed allocation, a device
-- fault, an input fault, a usage error, reported operations
abbrev pub rank : Exit → ℕ
rank exit.Done = 0
rank exit.Reported = 1
rank exit.Usage = 2
rank exit.Input = 3
rank exit.Device = 4
rank exit.Memory = 5

abbrev pub worse : Exit → Exit → Exit
worse a b = if nat_lt (rank a) (rank b) then b else a

-- ---- all files

-- the message for a file, and what is said beneath it, if there is a fault
abbrev pub said_of : List ℕ → Option FileFault → List ℕ → List ℕ
said_of file None beneath = []
said_of file (Some f) beneath = file_fault_line file f ++ beneath

abbrev pub worse_by : Exit → Option FileFault → Exit
worse_by end None = end
worse_by end (Some f) = worse end (exit_of_file f)

-- the messages for files, in order, given for each whether it was opened, what stopped its producer, and what is said
-- beneath its message, if it has one
abbrev pub faults_text : List (List ℕ) → List Bool → List (Option FeedFault) → List (List ℕ) → List ℕ
faults_text [] opened stops beneath = []
faults_text (file ∷ files) [] stops beneath = []
faults_text (file ∷ files) (was ∷ opened) [] beneath = []
faults_text (file ∷ files) (was ∷ opened) (stop ∷ stops) [] = []
faults_text (file ∷ files) (was ∷ opened) (stop ∷ stops) (line ∷ beneath) = said_of file (file_fault was stop) line ++ faults_text files opened stops beneath

-- the exit status after these faults, if it would otherwise have been this one
abbrev pub exit_of_files : Exit → List Bool → List (Option FeedFault) → Exit
exit_of_files end [] stops = end
exit_of_files end (was ∷ opened) [] = end
exit_of_files end (was ∷ opened) (stop ∷ stops) = exit_of_files (worse_by end (file_fault was stop)) opened stops
