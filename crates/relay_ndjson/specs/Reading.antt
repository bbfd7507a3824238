-- The state of a reader of operations, and what each call of `next` returns.
use Rattle.std.specs.Prelude.{◌≡◌, ℕ, ◌+◌, ◌<◌, List, [], length, slice_index, false, Option, None, Some, Result, Ok, Err}
use Rattle.std.specs.Io.KnownBytes.{prepend_known}
use Rattle.relay_action.specs.Limits.{is_line_end}
use Rattle.relay_ndjson.specs.declared.kind.LineKind.TheVariants as kind
use Rattle.relay_ndjson.specs.declared.kind.InputFault.{InputFault}
use Rattle.relay_ndjson.specs.declared.parser.Phase.{Phase}
use Rattle.relay_ndjson.specs.declared.parser.Phase.TheVariants as phase
use Rattle.relay_ndjson.specs.Operations.{Operation, saturating_count, TakesOperation, HoldsNoMore, IsFault, Position, Stops, UsesBytes, line_count}

-- a parser: what was read ahead, the number of lines taken and of their bytes, the line of the last action, and the default
-- index
pub record Parsing : Type 0 where
  pub held : List ℕ
  pub count : ℕ
  pub used : ℕ
  pub line : ℕ
  pub phase : Phase
  pub default : Option (List ℕ)

-- a parser before its first call
abbrev pub start : Option (List ℕ) → Parsing
start default = record { held = []; count = 0; used = 0; line = 0; phase = phase.Open; default = default }

-- a byte that is not a line end, and two line feeds after it: so a whole operation, or what breaks the grammar, was
-- read
abbrev pub HoldsTwoLines : List ℕ → Type 0
HoldsTwoLines held =
    (start : ℕ) × (first : ℕ) × (second : ℕ) × (start < first) × (first < second) × (second < length held)
    × (is_line_end (slice_index held start) ≡ false) × (slice_index held first ≡ 10) × (slice_index held second ≡ 10)

-- a parser and its stream: the bytes that were not used yet, if they are known, those of them that were read, the number of
-- lines taken and of their bytes, and the number of failed calls of the stream
pub record Reading : Type 0 where
  pub ahead : Option (List ℕ)
  pub held : List ℕ
  pub count : ℕ
  pub used : ℕ
  pub line : ℕ
  pub phase : Phase
  pub default : Option (List ℕ)
  pub failed : ℕ

abbrev pub reading : Option (List ℕ) → ℕ → Parsing → Reading
reading left failed p =
    record { ahead = prepend_known p.held left; held = p.held; count = p.count; used = p.used; line = p.line; phase = p.phase; default = p.default; failed = failed }

-- a parser and its stream before the first call
abbrev pub fresh : Option (List ℕ) → ℕ → Option (List ℕ) → Reading
fresh ahead failed default =
    record { ahead = ahead; held = []; count = 0; used = 0; line = 0; phase = phase.Open; default = default; failed = failed }

-- the position of the parser in its stream
abbrev pub position_of : Reading → Position
position_of r = record { ahead = r.ahead; held = r.held; count = r.count }

-- an operation was taken
pub record Takes (old new : Reading) (n : ℕ) (op : Operation) : Type 0 where
  pub lines : TakesOperation old.default old.ahead new.ahead n op
  pub line : new.line ≡ saturating_count (old.count + n + 1)
  pub count : new.count ≡ saturating_count (old.count + n + line_count op.1)
  pub used : UsesBytes old.used new.used old.ahead new.ahead
  pub phase : new.phase ≡ phase.Open
  pub default : new.default ≡ old.default

-- only blank lines were left
pub record Ends (old new : Reading) : Type 0 where
  pub lines : HoldsNoMore old.ahead
  pub line : new.line ≡ old.line
  pub phase : new.phase ≡ phase.Ended

-- a fault was returned, of the line in which the reader stopped
pub record Fails (old new : Reading) (e : InputFault) : Type 0 where
  pub fault : IsFault old.default old.ahead old.count e
  pub stops : Stops old.default (position_of old) (position_of new) e
  pub line : new.line ≡ old.line
  pub phase : new.phase ≡ phase.Failed e.line

abbrev pub Answers : Reading → Reading → Result (Option Operation) InputFault → Type 0
Answers old new (Ok (Some op)) = (n : ℕ) × Takes old new n op
Answers old new (Ok None) = Ends old new
Answers old new (Err e) = Fails old new e

-- after the end there are no more operations, and after a fault `Failed` is returned with its line
abbrev pub Steps : Phase → Reading → Reading → Result (Option Operation) InputFault → Type 0
Steps phase.Open old new result = Answers old new result
Steps phase.Ended old new result = (result ≡ Ok None) × (new ≡ old)
Steps (phase.Failed line) old new result = (result ≡ Err (record { line = line; kind = kind.Failed })) × (new ≡ old)
