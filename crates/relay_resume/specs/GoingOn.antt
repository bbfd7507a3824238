-- Going on with an input at a mark: what is before the mark, and what is read from it on.
use Rattle.std.specs.Prelude.{◌≡◌, ℕ, ◌+◌, ◌<◌, ◌≤◌, ◌^◌, List, [], ◌∷◌, ◌++◌, length, drop, IfSome, Option, None, Some, option_map}
use Rattle.relay_ndjson.specs.Operations.{Operation, TakesOperation, line_count}
use Rattle.relay_ndjson.specs.Reading.{Reading, fresh}
use Rattle.relay_words.specs.Taken.{TakesAll}
use Rattle.relay_resume.specs.declared.mark.Mark.{Mark}
use Rattle.relay_resume.specs.declared.mark.Place.{Place}
use Rattle.relay_resume.specs.Contents.{Begins, End, Holds, lines_on}
use Rattle.relay_resume.specs.Places.{place_after, place_behind}
use Rattle.relay_resume.specs.Trails.{AreSettled, History, IsMarkOf, after}

-- what is read of an input from a mark on
abbrev pub text_from : Mark → List ℕ → List ℕ
text_from m input = drop m.offset input

-- The mark lies in an input of fewer than 2^64 bytes: there is a byte at least for each line before it, and a line for
-- each operation.
pub record LiesIn (m : Mark) (input : List ℕ) : Type 0 where
  pub size : length input < 2 ^ 64
  pub offset : m.offset ≤ length input
  pub line : m.line ≤ m.offset
  pub count : m.count ≤ m.line

-- Each of these places is the one after the last line of the operation at its position, in a text that is read from a
-- mark on; the operations are at the front of what follows so many of its lines.
abbrev pub ArePlaces : Option (List ℕ) → Mark → List ℕ → ℕ → List ℕ → List Operation → List Place → Type 0
ArePlaces default start text before rest [] places = places ≡ []
ArePlaces default start text before rest (op ∷ ops) [] = ⊥
ArePlaces default start text before rest (op ∷ ops) (p ∷ ps) =
    (n : ℕ) × (mid : List ℕ) × TakesOperation default (Some rest) (Some mid) n op × (p ≡ place_after start (before + n + line_count op.1) text)
    × ArePlaces default start text (before + n + line_count op.1) mid ops ps

-- those of operations at the front of an input that is read from a mark on
abbrev pub ArePlacesFrom : Option (List ℕ) → Mark → List ℕ → List Operation → List Place → Type 0
ArePlacesFrom default start input ops places = ArePlaces default start (text_from start input) 0 (text_from start input) ops places

-- The mark is the one after these operations of an input that is read from an earlier mark on: they are at the front there,
-- what is read from the mark on is what follows them, and it counts their lines and them.
pub record ComesAfter (default : Option (List ℕ)) (input : List ℕ) (start : Mark) (done : List Operation) (m : Mark) : Type 0 where
  pub lines : ℕ
  pub begins : Begins default (text_from start input) done lines (text_from m input)
  pub line : m.line ≡ start.line + lines
  pub count : m.count ≡ start.count + length done
  pub lies : LiesIn m input

-- the mark after the places of operations is the one after these operations
abbrev pub MarksComeAfter : Type 0
MarksComeAfter = (default : Option (List ℕ)) (input : List ℕ) (start : Mark) (done : List Operation) (places : List Place) →
    LiesIn start input → ArePlacesFrom default start input done places → ComesAfter default input start done (after start places)

-- of what was put of an input, these are settled, and the mark is the one after them; others were put behind them
pub record IsMarkOfInput (default : Option (List ℕ)) (input : List ℕ) (h : History) (ops : List Operation) (m : Mark) : Type 0 where
  pub done : List Operation
  pub later : List Operation
  pub parts : ops ≡ done ++ later
  pub settled : AreSettled (length done) h.settled
  pub comes : ComesAfter default input h.start done m

-- the mark of a history in which operations of an input were put, in order, each by the place after its last line
abbrev pub HistoriesComeAfter : Type 0
HistoriesComeAfter = (default : Option (List ℕ)) (input : List ℕ) (h : History) (ops : List Operation) (m : Mark) →
    LiesIn h.start input → ArePlacesFrom default h.start input ops h.puts → IsMarkOf h m → IsMarkOfInput default input h ops m

-- what follows a mark holds exactly the others, and it ends, or has a fault, at the line of the input at which the whole does
pub record HoldsOn (default : Option (List ℕ)) (input : List ℕ) (start m : Mark) (later : List Operation) (end : End) : Type 0 where
  pub there : End
  pub holds : Holds default (text_from m input) later there
  pub ends : lines_on start.line end ≡ lines_on m.line there

abbrev pub HoldFromMarks : Type 0
HoldFromMarks = (default : Option (List ℕ)) (input : List ℕ) (start m : Mark) (done later : List Operation) (end : End) →
    ComesAfter default input start done m → Holds default (text_from start input) (done ++ later) end
    → HoldsOn default input start m later end

-- and the other way round, whatever is read first
pub record HoldsBoth (default : Option (List ℕ)) (input : List ℕ) (start m : Mark) (done later : List Operation) (there : End) : Type 0 where
  pub end : End
  pub holds : Holds default (text_from start input) (done ++ later) end
  pub ends : lines_on start.line end ≡ lines_on m.line there

abbrev pub HoldWithMarks : Type 0
HoldWithMarks = (default : Option (List ℕ)) (input : List ℕ) (start m : Mark) (done later : List Operation) (there : End) →
    ComesAfter default input start done m → Holds default (text_from m input) later there
    → HoldsBoth default input start m done later there

-- a mark after operations that were read from a mark on comes after all of them
abbrev pub MarksChain : Type 0
MarksChain = (default : Option (List ℕ)) (input : List ℕ) (start m last : Mark) (done later : List Operation) →
    ComesAfter default input start done m → ComesAfter default input m later last → ComesAfter default input start (done ++ later) last

-- ---- the places that a reader knows

-- what a reader of a text has used has the lines of the operations that it returned: the place so many lines and bytes
-- behind a mark is the one after these lines
abbrev pub ReadersKnowPlaces : Type 0
ReadersKnowPlaces = (default : Option (List ℕ)) (start : Mark) (text : List ℕ) (failed : ℕ) (new : Reading) (ops : List Operation) →
    length text < 2 ^ 64 → TakesAll (fresh (Some text) failed default) new ops → place_behind start new.count new.used ≡ place_after start new.count text

-- ---- a source that goes on

-- what follows a position among the bytes of a source, if both are known
abbrev pub bytes_from : Option ℕ → Option (List ℕ) → Option (List ℕ)
bytes_from None bytes = None
bytes_from (Some n) bytes = option_map (drop n) bytes

-- a source whose position and bytes were known goes on at a mark: what follows its position is now what follows the mark
abbrev pub GoesTo : Mark → (old new : Option ℕ) (bytes now : Option (List ℕ)) → Type 0
GoesTo m old new bytes now = IfSome old (λ _. IfSome bytes (λ input. bytes_from new now ≡ Some (text_from m input)))
