-- A reader of lines, and what it takes from its stream.
use Rattle.std.specs.Prelude.{◌≡◌, ℕ, ◌⊎◌, List, [], ◌∷◌, ◌++◌, Bool, true, false, Option, Result, Ok, Err, ◌==◌}
use Rattle.std.specs.List.{list_any}
use Rattle.std.specs.Io.KnownBytes.{IsAtEnd, prepend_known}
use Rattle.relay_action.specs.Streams.{one_more}
use Rattle.relay_ndjson.specs.declared.kind.InputFault.{InputFault}
use Rattle.relay_ndjson.specs.declared.kind.LineKind.TheVariants as kind
use Rattle.relay_ndjson.specs.declared.lines.LineEnd.{LineEnd}
use Rattle.relay_ndjson.specs.declared.lines.LineEnd.TheVariants as end
use Rattle.relay_ndjson.specs.Lines.{IsLineBefore, IsLong, TakesText}

-- the bytes that end a line
abbrev pub end_bytes : LineEnd → List ℕ
end_bytes end.Feed = 10 ∷ []
end_bytes end.ReturnFeed = 13 ∷ 10 ∷ []
end_bytes end.Open = []

-- a reader of lines: what was read ahead, the last line taken and what ended it, and the number of lines taken
pub record LineReading : Type 0 where
  pub held : List ℕ
  pub text : List ℕ
  pub end : LineEnd
  pub count : ℕ

-- a line ends within the bytes
abbrev pub holds_end : List ℕ → Bool
holds_end bytes = list_any (λ b. b == 10) bytes

-- a line with this text was taken and counted; or none was left; or this is why none was taken, with the line's number
abbrev pub TakesNext : Option (List ℕ) → Option (List ℕ) → ℕ → ℕ → List ℕ → Result Bool InputFault → Type 0
TakesNext old new count after text (Ok true) = TakesText old new text × (after ≡ one_more count)
TakesNext old new count after text (Ok false) = IsAtEnd old × (new ≡ old) × (after ≡ count)
TakesNext old new count after text (Err e) =
    (e.line ≡ one_more count) × ((e.kind ≡ kind.Read) ⊎ (e.kind ≡ kind.Memory) ⊎ ((e.kind ≡ kind.LineLong) × IsLong old))

-- a line with this text was taken from the front, and its bytes are the text and what ends it
pub record TakesBytes (old new : Option (List ℕ)) (text : List ℕ) (end : LineEnd) : Type 0 where
  pub line : IsLineBefore new text (text ++ end_bytes end)
  pub taken : old ≡ prepend_known (text ++ end_bytes end) new
