-- The operations of an input with their lines, by the producer grammar.
use Rattle.std.specs.Prelude.{◌≡◌, ℕ, ◌+◌, ◌≤◌, List, [], ◌∷◌, ◌++◌, Option}
use Rattle.relay_action.specs.declared.key.DocKey.{DocKey}
use Rattle.relay_action.specs.declared.action.Action.{Action}
use Rattle.relay_action.specs.declared.action.Action.TheVariants.{Index, Delete}
use Rattle.relay_action.specs.declared.action.ActionKind.TheVariants as action
use Rattle.relay_ndjson.specs.Lines.{TakesBlank}
use Rattle.relay_ndjson.specs.LineReading.{TakesBytes, end_bytes}
use Rattle.relay_ndjson.specs.Metadata.{Says}
use Rattle.relay_ndjson.specs.Operations.{Operation, TakesOperation, blank_limit, line_count}
use Rattle.relay_ndjson.specs.declared.lines.LineEnd.{LineEnd}
use Rattle.relay_ndjson.specs.declared.lines.LineEnd.TheVariants as end

-- a line byte for byte, with a line feed after a last line that has none
abbrev pub whole_line : List ℕ → LineEnd → List ℕ
whole_line text end.Open = text ++ 10 ∷ []
whole_line text end.Feed = text ++ end_bytes end.Feed
whole_line text end.ReturnFeed = text ++ end_bytes end.ReturnFeed

-- the lines of an operation at the front: an action line, and for an index action its source
abbrev pub HasLines : Option (List ℕ) → Option (List ℕ) → Option (List ℕ) → DocKey → Action → List ℕ → Type 0
HasLines default old new key (Index source) lines =
    (text : List ℕ) × (rest : Option (List ℕ)) × (first : LineEnd) × (last : LineEnd) × TakesBytes old rest text first
    × Says default text action.Index key.index key.id × TakesBytes rest new source.text last
    × (lines ≡ whole_line text first ++ whole_line source.text last)
HasLines default old new key Delete lines =
    (text : List ℕ) × (first : LineEnd) × TakesBytes old new text first
    × Says default text action.Delete key.index key.id × (lines ≡ whole_line text first)

-- this many lines were taken: blank lines, and then those of an operation
pub record TakesLines (default old new : Option (List ℕ)) (count : ℕ) (lines : List ℕ) : Type 0 where
  pub blank : ℕ
  pub front : Option (List ℕ)
  pub op : Operation
  pub few : blank ≤ blank_limit
  pub skipped : TakesBlank blank old front
  pub own : HasLines default front new op.0 op.1 lines
  pub count_is : count ≡ blank + line_count op.1

-- what is taken from the front with its lines is an operation of the producer grammar
abbrev pub LinesAreOperations : Type 0
LinesAreOperations = (default old new : Option (List ℕ)) (count : ℕ) (lines : List ℕ) (t : TakesLines default old new count lines) →
    TakesOperation default old new t.blank t.op
