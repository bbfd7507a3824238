-- What a line says of what goes wrong.
use Rattle.std.specs.Prelude.{ℕ, ◌/◌, ◌%◌, List, ◌++◌, codes, decimal, string_bytes, Option, None, Some}
use Rattle.relay_results.specs.declared.cause.Loss.{Loss}
use Rattle.relay_results.specs.declared.cause.Loss.TheVariants as loss
use Rattle.relay_progress.specs.declared.event.Event.{Event}
use Rattle.relay_progress.specs.declared.event.Event.TheVariants as event
use Rattle.relay_progress.specs.declared.line.Progress.{Progress}

abbrev pub reason_name : Loss → List ℕ
reason_name loss.Refused = codes "connection refused"
reason_name loss.Unreachable = codes "no connection"
reason_name loss.TimedOut = codes "timed out"
reason_name loss.Closed = codes "connection closed"
reason_name loss.Unreadable = codes "unreadable answer"
reason_name loss.Memory = codes "out of memory"

-- a number of seconds, with tenths, of which the rest is cut off
abbrev pub seconds_text : ℕ → List ℕ
seconds_text millis = decimal (millis / 1000) ++ codes "." ++ decimal ((millis / 100) % 10)

abbrev pub down_text : Loss → List ℕ
down_text reason = codes "down: " ++ reason_name reason

abbrev pub up_text : ℕ → ℕ → List ℕ
up_text millis sends = codes "up again after " ++ seconds_text millis ++ codes " s, sends " ++ decimal sends

abbrev pub too_large_text : List ℕ
too_large_text = codes "too large: a request got 413, and is sent again in halves"

abbrev pub conflicts_text : ℕ → List ℕ
conflicts_text count = codes "conflicts: " ++ decimal count

abbrev pub start_text : ℕ → ℕ → List ℕ
start_text epoch lanes = codes "start: epoch " ++ decimal epoch ++ codes ", lanes " ++ decimal lanes

abbrev pub event_text : Event → List ℕ
event_text (event.Down reason) = down_text reason
event_text (event.Up millis sends) = up_text millis sends
event_text event.TooLarge = too_large_text
event_text (event.Conflicts count) = conflicts_text count
event_text (event.Start epoch lanes) = start_text epoch lanes

-- the type of the error of a refusal, or none if a whole request was refused
abbrev pub whole_request : List ℕ
whole_request = codes " for a whole request"

abbrev pub kind_text : Option (List ℕ) → List ℕ
kind_text None = whole_request
kind_text (Some kind) = codes " " ++ kind

abbrev pub refusal_text : ℕ → Option (List ℕ) → List ℕ
refusal_text status kind = codes "refused: " ++ decimal status ++ kind_text kind

-- the end of a run, with its counts
abbrev pub end_text : Progress → List ℕ
end_text p =
    codes "end: sent " ++ decimal p.operations ++ codes " operations in " ++ decimal p.requests ++ codes " requests, settled " ++ decimal p.settled
    ++ codes ", refused " ++ decimal p.refused ++ codes ", repeats " ++ decimal p.repeats
