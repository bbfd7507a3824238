-- For text that is still to be written, with the number of bytes that were written before it.
use Rattle.std.specs.Prelude.{◌≡◌, ◌⊎◌, ℕ, ◌+◌, ◌<◌, min, List, ◌++◌, length, take, Option, Result, Err}
use Rattle.std.specs.Io.KnownBytes.{append_known}
use Rattle.relay_action.specs.Streams.{most}
use Rattle.relay_commands.specs.Calls.{NoneFails, OneFails}
use Rattle.relay_commands.specs.declared.lines.LinesFault.{LinesFault}
use Rattle.relay_commands.specs.declared.lines.LinesFault.TheVariants as fault

-- of everything that there is to write, this text is still to be written, and this many bytes were written
pub record WritesAllBut (before now : Option (List ℕ)) (all text : List ℕ) (sent : ℕ) : Type 0 where
  pub front : List ℕ
  pub whole : all ≡ front ++ text
  pub writes : now ≡ append_known before front
  pub count : sent ≡ min (length front) most

-- part of the text was written, and the rest is still to be written
pub record Moves (text : List ℕ) (sent : ℕ) (before : Option (List ℕ)) (rest : List ℕ) (count : ℕ) (after : Option (List ℕ)) : Type 0 where
  pub part : List ℕ
  pub whole : text ≡ part ++ rest
  pub writes : after ≡ append_known before part
  pub count_is : count ≡ min (sent + length part) most

-- not all of the text was written, and this many bytes were written in all
pub record MovesPart (text : List ℕ) (sent : ℕ) (before after : Option (List ℕ)) (count : ℕ) : Type 0 where
  pub cut : ℕ
  pub less : cut < length text
  pub writes : after ≡ append_known before (take cut text)
  pub count_is : count ≡ min (sent + cut) most

-- one of the writes that were to write the text failed
pub record BreaksOff (text : List ℕ) (sent : ℕ) (before : Option (List ℕ)) (failed : ℕ) (after : Option (List ℕ)) (count : ℕ) (total : ℕ) : Type 0 where
  pub part : MovesPart text sent before after total
  pub call : OneFails failed count

-- the text was written, and the result is unchanged
pub record Finishes (answer : Result ℕ LinesFault) (text : List ℕ) (before : Option (List ℕ)) (failed : ℕ) (after : Option (List ℕ)) (count : ℕ) (result : Result ℕ LinesFault) : Type 0 where
  pub same : result ≡ answer
  pub writes : after ≡ append_known before text
  pub calls : NoneFails failed count

-- the text was written, or a write failed, which is the result instead
abbrev pub FinishesOrFails : Result ℕ LinesFault → List ℕ → ℕ → Option (List ℕ) → ℕ → Option (List ℕ) → ℕ → Result ℕ LinesFault → Type 0
FinishesOrFails answer text sent before failed after count result =
    Finishes answer text before failed after count result
    ⊎ ((n : ℕ) × BreaksOff text sent before failed after count n × (result ≡ Err (fault.Write n)))

-- The result if text is still to be written: after a failed write nothing more is written; a failed allocation
-- remains the result even if a write fails.
abbrev pub Closes : Result ℕ LinesFault → List ℕ → ℕ → Option (List ℕ) → ℕ → Option (List ℕ) → ℕ → Result ℕ LinesFault → Type 0
Closes (Err (fault.Write m)) text sent before failed after count result =
    (result ≡ Err (fault.Write m)) × (after ≡ before) × NoneFails failed count
Closes (Err fault.Memory) text sent before failed after count result =
    Finishes (Err fault.Memory) text before failed after count result
    ⊎ ((n : ℕ) × BreaksOff text sent before failed after count n × (result ≡ Err fault.Memory))
Closes other text sent before failed after count result = FinishesOrFails other text sent before failed after count result
