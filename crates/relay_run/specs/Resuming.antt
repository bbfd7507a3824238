-- What is told of an input that a run goes on with.
use Rattle.std.specs.Prelude.{◌+◌, Bool, true, false, Option, Some}
use Rattle.relay_ndjson.specs.declared.kind.LineKind.{LineKind}
use Rattle.relay_ndjson.specs.declared.kind.LineKind.TheVariants as kind
use Rattle.relay_ndjson.specs.declared.kind.InputFault.{InputFault}
use Rattle.relay_ndjson.specs.Operations.{saturating_count}
use Rattle.relay_resume.specs.declared.mark.Mark.{Mark}
use Rattle.relay_run.specs.declared.feed.FeedFault.{FeedFault}
use Rattle.relay_run.specs.declared.feed.FeedFault.TheVariants as fault

-- the fault of a line by its number in the whole input
abbrev pub line_on : Mark → InputFault → InputFault
line_on start e = record e { line = saturating_count (e.line + start.line) }

-- a read that failed, which a stop may have ended
abbrev pub read_fault : Bool → Mark → InputFault → FeedFault
read_fault true start e = fault.Stopped
read_fault false start e = fault.Input (line_on start e)

-- why an input that is read from a mark on was not put in full, as it is told, given what was wrong
abbrev pub told_input : LineKind → Bool → Mark → InputFault → FeedFault
told_input kind.Read was_ended start e = read_fault was_ended start e
told_input other was_ended start e = fault.Input (line_on start e)

abbrev pub told_fault : Option FeedFault → Bool → Mark → Option FeedFault
told_fault (Some (fault.Input e)) was_ended start = Some (told_input e.kind was_ended start e)
told_fault other was_ended start = other
