-- The last bytes of an input that are kept, and the line of a fault among them.
use Rattle.std.specs.Prelude.{◌≡◌, ◌⊎◌, ℕ, ◌+◌, ◌-◌, ◌<◌, min, List, [], ◌∷◌, ◌++◌, length, drop, Bool, true, false, ◌||◌, nat_lt, flat_map, Option, None, Some, MatchOption, if◌then◌else◌}
use Rattle.relay_action.specs.Streams.{most}
use Rattle.relay_ndjson.specs.declared.kind.InputFault.{InputFault}
use Rattle.relay_sift.specs.About.{IsSaid}
use Rattle.relay_sift.specs.Texts.{first_of, line_feeds, line_text, lines_of}

-- how many bytes at the end of an input are kept
abbrev pub room : ℕ
room = 65536

-- the number of line feeds before what is kept, the bytes that are kept, the older ones before the newer ones, whether
-- others came before them, and whether an allocation failed, so that nothing is found any more
pub record Keeping : Type 0 where
  pub before : ℕ
  pub older : List ℕ
  pub newer : List ℕ
  pub is_cut : Bool
  pub is_lost : Bool

abbrev pub nothing_kept : Keeping
nothing_kept = record { before = 0; older = []; newer = []; is_cut = false; is_lost = false }

abbrev pub bytes_kept : Keeping → List ℕ
bytes_kept k = k.older ++ k.newer

-- what is kept is the end of the text, and if that is not all of it, it is longer than 64 KiB
pub record Keeps (text : List ℕ) (k : Keeping) : Type 0 where
  pub front : List ℕ
  pub whole : text ≡ front ++ bytes_kept k
  pub before : k.before ≡ length (line_feeds front)
  pub all : k.is_cut ≡ false → front ≡ []
  pub enough : k.is_cut ≡ true → room < length (bytes_kept k)

-- the same, unless an allocation failed
abbrev pub KeepsUnlessLost : List ℕ → Keeping → Type 0
KeepsUnlessLost text k = k.is_lost ≡ false → Keeps text k

-- ---- lines by their numbers, from 1

-- the text of a line; there is none after the last
abbrev pub line_of : ℕ → List ℕ → List ℕ
line_of n text = line_text (first_of (drop (n - 1) (lines_of text)))

-- the text from a line on
abbrev pub from_line : ℕ → List ℕ → List ℕ
from_line n text = flat_map (λ line. line) (drop (n - 1) (lines_of text))

-- a line that began more than 64 KiB before the end of the text, or no line
abbrev pub IsFarBack : ℕ → List ℕ → Type 0
IsFarBack n text = (n ≡ 0) ⊎ (room < length (from_line n text))

-- what is said beneath this fault of a text; it may be nothing if its line is far back
abbrev pub IsSaidIn : InputFault → List ℕ → List ℕ → Type 0
IsSaidIn fault text said = IsSaid fault.kind (line_of fault.line text) said ⊎ ((said ≡ []) × IsFarBack fault.line text)

-- what is said beneath a fault of any text that this is the end of
abbrev pub IsSaidOf : InputFault → Keeping → List ℕ → Type 0
IsSaidOf fault k said = (text : List ℕ) → Keeps text k → k.is_lost ≡ false → IsSaidIn fault text said

-- ---- private steps

abbrev pub is_some_byte : List ℕ → Bool
is_some_byte [] = false
is_some_byte (byte ∷ bytes) = true

-- the older bytes are dropped
abbrev pub turned : Keeping → Keeping
turned k =
    record { before = min (k.before + length (line_feeds k.older)) most; older = k.newer; newer = []; is_cut = k.is_cut || is_some_byte k.older; is_lost = k.is_lost }

-- unless there is room for this many
abbrev pub with_room : ℕ → Keeping → Keeping
with_room n k = if nat_lt room (length k.newer + n) then turned k else k

-- the number of the first line that is kept whole
abbrev pub first_whole : Keeping → ℕ
first_whole k = k.before + (if k.is_cut then 2 else 1)

-- how many lines of what is kept come before this one, if it is kept whole
abbrev pub lines_before : ℕ → Keeping → Option ℕ
lines_before n k = if k.is_lost || nat_lt n (first_whole k) then None else Some (n - 1 - k.before)

-- the text of a line, given how many come before it
abbrev pub IsLineKept : ℕ → Keeping → Option (List ℕ) → Type 0
IsLineKept n k found =
    MatchOption found (lines_before n k ≡ None)
    (λ line. (feeds : ℕ) × (lines_before n k ≡ Some feeds) × (line ≡ line_text (first_of (drop feeds (lines_of (bytes_kept k))))))
