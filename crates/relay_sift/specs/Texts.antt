-- The lines of a text.
use Rattle.std.specs.Prelude.{ℕ, ◌-◌, List, [], ◌∷◌, ◌==◌, ◌&&◌, Bool, length, take, slice_index, nat_lt, if◌then◌else◌}
use Rattle.relay_ndjson.specs.Lines.{line_limit}

abbrev pub onto_first : ℕ → List (List ℕ) → List (List ℕ)
onto_first byte [] = (byte ∷ []) ∷ []
onto_first byte (line ∷ lines) = (byte ∷ line) ∷ lines

-- the lines of a text, each with its line feed; the last may have none
abbrev pub lines_of : List ℕ → List (List ℕ)
lines_of [] = []
lines_of (byte ∷ bytes) = if byte == 10 then (10 ∷ []) ∷ lines_of bytes else onto_first byte (lines_of bytes)

-- the first line, if there is one
abbrev pub first_of : List (List ℕ) → List ℕ
first_of [] = []
first_of (line ∷ lines) = line

-- whether the last byte is this one
abbrev pub ends_with : ℕ → List ℕ → Bool
ends_with byte bytes = nat_lt 0 (length bytes) && (slice_index bytes (length bytes - 1) == byte)

-- all bytes but the last
abbrev pub but_last : List ℕ → List ℕ
but_last bytes = take (length bytes - 1) bytes

-- without a carriage return at the end
abbrev pub without_return : List ℕ → List ℕ
without_return bytes = if ends_with 13 bytes then but_last bytes else bytes

-- a line without what ends it: a line feed, or a carriage return and a line feed
abbrev pub line_text : List ℕ → List ℕ
line_text line = if ends_with 10 line then without_return (but_last line) else line

-- whether a line is longer than any may be
abbrev pub is_long : List ℕ → Bool
is_long line = nat_lt line_limit (length (line_text line))

-- the line feeds of a text, one for each line that ends in it
abbrev pub line_feeds : List ℕ → List ℕ
line_feeds [] = []
line_feeds (byte ∷ bytes) = if byte == 10 then 10 ∷ line_feeds bytes else line_feeds bytes

-- a line feed, if the text does not end with one
abbrev pub closing : List ℕ → List ℕ
closing text = if ends_with 10 text then [] else 10 ∷ []
