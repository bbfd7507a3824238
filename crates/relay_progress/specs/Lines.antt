-- The lines that show the progress of a run.
use Rattle.std.specs.Prelude.{ℕ, ◌*◌, ◌/◌, ◌==◌, min, List, [], ◌∷◌, ◌++◌, Bool, true, false, Option, None, Some, codes, decimal, if◌then◌else◌}
use Rattle.relay_progress.specs.declared.counts.Trouble.{Trouble}
use Rattle.relay_progress.specs.declared.counts.Trouble.TheVariants as trouble
use Rattle.relay_progress.specs.declared.line.Progress.{Progress}

-- the percentage that was read; 100 if there is nothing to read
abbrev pub share : ℕ → ℕ → ℕ
share read size = if size == 0 then 100 else min read size * 100 / size

-- what was read, `R bytes`, or `R of S bytes (P %)` if the sizes of the files are known
abbrev pub read_text : ℕ → Option ℕ → List ℕ
read_text read None = decimal read ++ codes " bytes"
read_text read (Some size) = decimal read ++ codes " of " ++ decimal size ++ codes " bytes (" ++ decimal (share read size) ++ codes " %)"

-- how long ago the last answer arrived
abbrev pub ago_text : ℕ → List ℕ
ago_text seconds = codes "last answer " ++ decimal seconds ++ codes " s ago"

-- when it arrived
abbrev pub answer_text : Option ℕ → List ℕ
answer_text None = codes "no answer yet"
answer_text (Some seconds) = ago_text seconds

-- the part about requests and operations
abbrev pub counts_text : Progress → List ℕ
counts_text p =
    codes ", sent " ++ decimal p.operations ++ codes " operations in " ++ decimal p.requests ++ codes " requests, settled " ++ decimal p.settled
    ++ codes ", refused " ++ decimal p.refused ++ codes ", repeats " ++ decimal p.repeats ++ codes ", out " ++ decimal p.out

-- `read R of S bytes (P %), sent N operations in Q requests, settled T, refused X, repeats U, out V, last answer W s ago`
abbrev pub progress_text : Progress → List ℕ
progress_text p = codes "read " ++ read_text p.read p.size ++ counts_text p ++ codes ", " ++ answer_text p.idle

-- the line as it is written: on a terminal over the previous one, of which nothing is left, and cut at the right edge, since the
-- terminal does not wrap while it is written (DECAWM, mode 7 of the DEC VT100); otherwise as a line of its own
abbrev pub erase_rest : List ℕ
erase_rest = 27 ∷ codes "[K"

abbrev pub wrap_off : List ℕ
wrap_off = 27 ∷ codes "[?7l"

abbrev pub wrap_on : List ℕ
wrap_on = 27 ∷ codes "[?7h"

abbrev pub written_text : Bool → List ℕ → List ℕ
written_text true text = codes "\r" ++ wrap_off ++ text ++ erase_rest ++ wrap_on
written_text false text = text ++ codes "\n"

-- ---- connections

abbrev pub trouble_name : Trouble → List ℕ
trouble_name trouble.None = codes "connected"
trouble_name trouble.Refused = codes "connection refused, trying again"
trouble_name trouble.TimedOut = codes "connection timed out, trying again"
trouble_name trouble.Other = codes "no connection, trying again"

-- the line about connections to an address; on a terminal it replaces the previous line
abbrev pub trouble_text : Bool → List ℕ → Trouble → List ℕ
trouble_text over address t = (if over then codes "\r" ++ erase_rest else []) ++ address ++ codes ": " ++ trouble_name t ++ codes "\n"
