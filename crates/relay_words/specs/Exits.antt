-- Exit statuses.
use Rattle.std.specs.Prelude.{ℕ}
use Rattle.relay_ndjson.specs.declared.kind.LineKind.{LineKind}
use Rattle.relay_ndjson.specs.declared.kind.LineKind.TheVariants as kind
use Rattle.relay_words.specs.declared.exit.Exit.{Exit}
use Rattle.relay_words.specs.declared.exit.Exit.TheVariants as exit

-- 0 done, 1 usage, 2 input fault, 3 device fault, 4 out of memory, 5 operations reported
abbrev pub status_of : Exit → ℕ
status_of exit.Done = 0
status_of exit.Usage = 1
status_of exit.Input = 2
status_of exit.Device = 3
status_of exit.Memory = 4
status_of exit.Reported = 5

-- a failed read is a device fault, and a failed allocation has its own status; all other kinds are faults of the
-- input
abbrev pub exit_of_kind : LineKind → Exit
exit_of_kind kind.Read = exit.Device
exit_of_kind kind.Memory = exit.Memory
exit_of_kind other = exit.Input
