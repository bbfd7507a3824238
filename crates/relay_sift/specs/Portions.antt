-- The portions of a producer's input that belong together, and which of them are left out. Where an operation has a
-- fault, its action line still tells how many lines it has, if it is an action line of the bulk API; otherwise nobody
-- can say where the next operation begins, and all that follows is one portion, which is passed on.
use Rattle.std.specs.Prelude.{ℕ, List, [], ◌∷◌, ◌++◌, codes, decimal, Option, None, Some, Bool, true, false, option_map, unwrap_or, is_some, if◌then◌else◌, flat_map}
use Rattle.relay_action.specs.Streams.{one_more}
use Rattle.relay_ndjson.specs.Kinds.{name_of}
use Rattle.relay_ndjson.specs.Metadata.{line_fault, source_line_fault}
use Rattle.relay_ndjson.specs.declared.kind.InputFault.{InputFault}
use Rattle.relay_ndjson.specs.declared.kind.LineKind.{LineKind}
use Rattle.relay_ndjson.specs.declared.kind.LineKind.TheVariants as kind
use Rattle.relay_sift.specs.declared.asking.Extent.{Extent}
use Rattle.relay_sift.specs.declared.asking.Extent.TheVariants as extent
use Rattle.relay_sift.specs.Asking.{extent_of}
use Rattle.relay_sift.specs.Texts.{closing, is_long, line_feeds, line_text, lines_of}

-- lines that belong together: the number of the first, the first itself and all their bytes; their first fault; and
-- whether it can be told that they end there, or else they are all that follows. What can be told and has no fault is
-- passed on, and with a fault it is left out; the rest is passed on, with its fault
pub record Portion : Type 0 where
  pub line : ℕ
  pub first : List ℕ
  pub bytes : List ℕ
  pub fault : Option InputFault
  pub told : Bool

abbrev pub extent_of_text : List ℕ → Extent
extent_of_text [] = extent.One
extent_of_text (byte ∷ bytes) = extent_of (byte ∷ bytes)

-- how many lines belong together, by the first: a blank line is alone, and what cannot be told is lost
abbrev pub extent_of_line : List ℕ → Extent
extent_of_line line = if is_long line then extent.Lost else extent_of_text (line_text line)

abbrev pub fault_at : ℕ → LineKind → InputFault
fault_at line k = record { line = line; kind = k }

-- ---- the first fault of lines that belong together; `line` is the number of the first

abbrev pub own_fault : Option (List ℕ) → List ℕ → Option LineKind
own_fault default [] = None
own_fault default (byte ∷ bytes) = line_fault default (byte ∷ bytes)

-- of a line alone
abbrev pub alone_fault : Option (List ℕ) → ℕ → List ℕ → Option InputFault
alone_fault default line text = option_map (fault_at line) (own_fault default text)

-- this fault, or else the other
abbrev pub first_fault : Option InputFault → Option InputFault → Option InputFault
first_fault None other = other
first_fault (Some fault) other = Some fault

-- of an action line and the line of its source
abbrev pub pair_fault : Option (List ℕ) → ℕ → List ℕ → List ℕ → Option InputFault
pair_fault default line text source =
    first_fault (option_map (fault_at line) (line_fault default text)) (option_map (fault_at (one_more line)) (source_line_fault source))

-- of an action line whose source is missing
abbrev pub open_fault : Option (List ℕ) → ℕ → List ℕ → Option InputFault
open_fault default line text = first_fault (option_map (fault_at line) (line_fault default text)) (Some (fault_at line kind.SourceMissing))

-- ---- the portions

abbrev pub alone : Option (List ℕ) → ℕ → List ℕ → Portion
alone default count line =
    record { line = one_more count; first = line; bytes = line; fault = alone_fault default (one_more count) (line_text line); told = true }

abbrev pub pair : Option (List ℕ) → ℕ → List ℕ → List ℕ → Portion
pair default count line source =
    record { line = one_more count; first = line; bytes = line ++ source; fault = pair_fault default (one_more count) (line_text line) (line_text source); told = true }

abbrev pub unfinished : Option (List ℕ) → ℕ → List ℕ → Portion
unfinished default count line =
    record { line = one_more count; first = line; bytes = line; fault = open_fault default (one_more count) (line_text line); told = true }

-- the fault of what cannot be told apart: its first line is too long, or has a fault, or else the next one is too long
abbrev pub lost_fault : Option (List ℕ) → ℕ → List ℕ → InputFault
lost_fault default n line =
    if is_long line then fault_at n kind.LineLong
    else unwrap_or (option_map (fault_at n) (line_fault default (line_text line))) (fault_at (one_more n) kind.LineLong)

abbrev pub lost : Option (List ℕ) → ℕ → List ℕ → List (List ℕ) → List Portion
lost default count line lines =
    record { line = one_more count; first = line; bytes = line ++ flat_map (λ line. line) lines; fault = Some (lost_fault default (one_more count) line); told = false } ∷ []

abbrev pub by_extent : {A : Type 0} → Extent → A → A → A → A
by_extent extent.Lost if_lost if_one if_two = if_lost
by_extent extent.One if_lost if_one if_two = if_one
by_extent extent.Two if_lost if_one if_two = if_two

-- the portions of lines, `count` lines after the start of the input
abbrev pub portions : Option (List ℕ) → ℕ → List (List ℕ) → List Portion
portions default count [] = []
portions default count (line ∷ []) =
    by_extent (extent_of_line line) (lost default count line []) (alone default count line ∷ []) (unfinished default count line ∷ [])
portions default count (line ∷ source ∷ lines) =
    by_extent (extent_of_line line) (lost default count line (source ∷ lines)) (alone default count line ∷ portions default (one_more count) (source ∷ lines))
    (if is_long source then lost default count line (source ∷ lines) else pair default count line source ∷ portions default (one_more (one_more count)) lines)

-- ---- what becomes of a portion

-- what is passed on: of a portion with a fault only its line feeds, so that the lines after it keep their numbers
abbrev pub passed_of : List ℕ → Option InputFault → List ℕ
passed_of bytes fault = if is_some fault then line_feeds bytes else bytes

abbrev pub passed : Portion → List ℕ
passed p = if p.told then passed_of p.bytes p.fault else p.bytes

-- the line before the lines of a portion that is left out: what is wrong, and where
abbrev pub kind_part : InputFault → List ℕ
kind_part e = codes "{\"invalid\":{\"kind\":\"" ++ name_of e.kind ++ codes "\",\"line\":"

abbrev pub place_part : ℕ → InputFault → List ℕ
place_part producer e = decimal e.line ++ codes ",\"producer\":" ++ decimal producer ++ codes "}}\n"

abbrev pub left_out_by : ℕ → List ℕ → Option InputFault → List ℕ
left_out_by producer bytes None = []
left_out_by producer bytes (Some e) = kind_part e ++ place_part producer e ++ bytes ++ closing bytes

-- what is written of a portion that is left out: that line, and its own lines, byte for byte
abbrev pub left_out : ℕ → Portion → List ℕ
left_out producer p = if p.told then left_out_by producer p.bytes p.fault else []

-- ---- whole texts

-- the text in which the lines of invalid operations are blank
abbrev pub sifted : Option (List ℕ) → ℕ → List ℕ → List ℕ
sifted default count text = flat_map passed (portions default count (lines_of text))

-- what is written of the invalid operations
abbrev pub sifted_out : ℕ → Option (List ℕ) → ℕ → List ℕ → List ℕ
sifted_out producer default count text = flat_map (left_out producer) (portions default count (lines_of text))
