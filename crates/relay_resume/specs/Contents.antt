-- What a text of a producer's input holds: its operations, in order, and why there are no more; and what follows the first of
-- them.
use Rattle.std.specs.Prelude.{◌≡◌, ℕ, ◌+◌, ◌<◌, ◌^◌, ◌⊎◌, List, [], ◌∷◌, ◌++◌, length, drop, Option, None, Some}
use Rattle.relay_ndjson.specs.declared.kind.InputFault.{InputFault}
use Rattle.relay_ndjson.specs.declared.kind.LineKind.{LineKind}
use Rattle.relay_ndjson.specs.declared.kind.LineKind.TheVariants as kind
use Rattle.relay_ndjson.specs.Operations.{Operation, TakesOperation, HoldsNoMore, Breaks, line_count}
use Rattle.relay_ndjson.specs.Reading.{Reading, Ends, Fails, fresh}
use Rattle.relay_words.specs.Taken.{TakesAll}
use Rattle.relay_resume.specs.Lines.{lines_length}

-- what follows the first lines of a text, so many
abbrev pub after_lines : ℕ → List ℕ → List ℕ
after_lines count text = drop (lines_length count text) text

-- these operations are at the front of a text, one after another; they have so many lines, with the blank lines before
-- each; and this follows
abbrev pub Begins : Option (List ℕ) → List ℕ → List Operation → ℕ → List ℕ → Type 0
Begins default text [] count rest = (count ≡ 0) × (rest ≡ text)
Begins default text (op ∷ ops) count rest =
    (n : ℕ) × (mid : List ℕ) × (more : ℕ) × TakesOperation default (Some text) (Some mid) n op × Begins default mid ops more rest
    × (count ≡ n + line_count op.1 + more)

-- why a text holds no more operations: only blank lines are left, or its line with this number, from 1, has this fault
abbrev pub End : Type 0
End = Option (ℕ × LineKind)

-- the same, of a text with so many lines before
abbrev pub lines_on : ℕ → End → End
lines_on count None = None
lines_on count (Some fault) = Some (count + fault.0, fault.1)

-- this follows so many lines, and it is why there are no more operations
abbrev pub EndsSo : Option (List ℕ) → ℕ → List ℕ → End → Type 0
EndsSo default count rest None = HoldsNoMore (Some rest)
EndsSo default count rest (Some fault) = (at : ℕ) × Breaks default (Some rest) at fault.1 × (fault.0 ≡ count + at)

-- A text holds these operations, in this order, and this is why it holds no more.
pub record Holds (default : Option (List ℕ)) (text : List ℕ) (ops : List Operation) (end : End) : Type 0 where
  pub count : ℕ
  pub rest : List ℕ
  pub begins : Begins default text ops count rest
  pub ends : EndsSo default count rest end

-- ---- what follows the first operations

-- a text holds one list of operations, and there is one reason why it holds no more
abbrev pub HoldOnce : Type 0
HoldOnce = (default : Option (List ℕ)) (text : List ℕ) (ops others : List Operation) (end other : End) →
    Holds default text ops end → Holds default text others other → (ops ≡ others) × (end ≡ other)

-- operations at the front of a text are the first that it holds
abbrev pub FirstOnes : Type 0
FirstOnes = (default : Option (List ℕ)) (text rest : List ℕ) (ops all : List Operation) (count : ℕ) (end : End) →
    Begins default text ops count rest → Holds default text all end → (more : List Operation) × (all ≡ ops ++ more)

-- what follows operations is what follows as many lines as they have
abbrev pub LinesAreFirst : Type 0
LinesAreFirst = (default : Option (List ℕ)) (text rest : List ℕ) (ops : List Operation) (count : ℕ) →
    Begins default text ops count rest → rest ≡ after_lines count text

-- After its first operations, which have so many lines, a text holds exactly the others; and it ends there as the whole
-- does, at the same line.
pub record GoesOn (default : Option (List ℕ)) (text : List ℕ) (done later : List Operation) (end : End) : Type 0 where
  pub count : ℕ
  pub there : End
  pub begins : Begins default text done count (after_lines count text)
  pub holds : Holds default (after_lines count text) later there
  pub ends : end ≡ lines_on count there

abbrev pub HoldTheOthers : Type 0
HoldTheOthers = (default : Option (List ℕ)) (text : List ℕ) (done later : List Operation) (end : End) →
    Holds default text (done ++ later) end → GoesOn default text done later end

-- and the other way round, whatever is read first
abbrev pub HoldTogether : Type 0
HoldTogether = (default : Option (List ℕ)) (text : List ℕ) (done later : List Operation) (count : ℕ) (end : End) →
    Begins default text done count (after_lines count text) → Holds default (after_lines count text) later end
    → Holds default text (done ++ later) (lines_on count end)

-- ---- as it is read

-- Operations that were read of a text from its start on are at its front; their number of lines is what the reader
-- counted, and what follows is ahead of it.
abbrev pub ReadFromTheFront : Type 0
ReadFromTheFront = (default : Option (List ℕ)) (text : List ℕ) (failed : ℕ) (new : Reading) (ops : List Operation) →
    length text < 2 ^ 64 → TakesAll (fresh (Some text) failed default) new ops
    → Begins default text ops new.count (after_lines new.count text) × (new.ahead ≡ Some (after_lines new.count text))

-- if the reader then ended, the text holds these and only blank lines follow
abbrev pub ReadToTheEnd : Type 0
ReadToTheEnd = (default : Option (List ℕ)) (text : List ℕ) (failed : ℕ) (rest new : Reading) (ops : List Operation) →
    length text < 2 ^ 64 → TakesAll (fresh (Some text) failed default) rest ops → Ends rest new → Holds default text ops None

-- if it returned a fault of a line, the text holds these and this line has this fault
abbrev pub ReadToTheFault : Type 0
ReadToTheFault = (default : Option (List ℕ)) (text : List ℕ) (failed : ℕ) (rest new : Reading) (ops : List Operation) (e : InputFault) →
    length text < 2 ^ 64 → TakesAll (fresh (Some text) failed default) rest ops → Fails rest new e
    → (e.kind ≡ kind.Read) ⊎ (e.kind ≡ kind.Memory) ⊎ Holds default text ops (Some (e.line, e.kind))

-- What is read of a text from after its first operations on is, behind them, at the front of the whole.
abbrev pub ReadOn : Type 0
ReadOn = (default : Option (List ℕ)) (text : List ℕ) (failed count : ℕ) (new : Reading) (done later : List Operation) →
    length text < 2 ^ 64 → Begins default text done count (after_lines count text)
    → TakesAll (fresh (Some (after_lines count text)) failed default) new later
    → Begins default text (done ++ later) (count + new.count) (after_lines (count + new.count) text)
