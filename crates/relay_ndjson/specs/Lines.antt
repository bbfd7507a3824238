-- Lines at the front of a stream. A line ends with the byte 10 (LF); one byte 13 (CR) before it is dropped.
use Rattle.std.specs.Prelude.{◌≡◌, ◌≢◌, ℕ, zero, suc, ◌+◌, ◌-◌, ◌<◌, ◌≤◌, ◌⊎◌, List, [], ◌∷◌, ◌++◌, length, Bool, true, false, ◌==◌, IsTrue, Option, slice_index}
use Rattle.std.specs.List.{list_any}
use Rattle.std.specs.Io.KnownBytes.{prepend_known, IsAtEnd}
use Rattle.relay_ndjson.specs.declared.kind.LineKind.{LineKind}
use Rattle.relay_ndjson.specs.declared.kind.LineKind.TheVariants as kind

-- the maximum length of a line without its end, in bytes
abbrev pub line_limit : ℕ
line_limit = 1114112

-- the maximum number of bytes read at a time
abbrev pub piece_limit : ℕ
piece_limit = 65536

-- no line ends within these bytes
abbrev pub IsUnbroken : List ℕ → Type 0
IsUnbroken bytes = list_any (λ b. b == 10) bytes ≡ false

-- the last line that ends within the first `to` bytes ends here, or 0 if none does
abbrev pub EndsLinesAt : ℕ → ℕ → List ℕ → Type 0
EndsLinesAt ends to bytes =
    (ends ≤ to) × (0 < ends → slice_index bytes (ends - 1) ≡ 10) × ((k : ℕ) → ends ≤ k → k < to → slice_index bytes k ≢ 10)

-- there is a line feed at this position or after it
abbrev pub HoldsFeedFrom : ℕ → List ℕ → Type 0
HoldsFeedFrom start bytes = (feed : ℕ) × (start ≤ feed) × (feed < length bytes) × (slice_index bytes feed ≡ 10)

-- `raw` is a line before its line feed: the text, possibly followed by one carriage return
abbrev pub IsRaw : List ℕ → List ℕ → Type 0
IsRaw text raw = (raw ≡ text ++ 13 ∷ []) ⊎ ((raw ≡ text) × (slice_index raw (length raw - 1) ≢ 13))

-- the bytes are too many for a line, whatever follows them
abbrev pub IsPastLimit : List ℕ → Type 0
IsPastLimit raw = (line_limit < length raw) × ((length raw ≡ line_limit + 1) → slice_index raw line_limit ≢ 13)

-- the bytes are a line with its end, and this is its text
abbrev pub IsLine : List ℕ → List ℕ → Type 0
IsLine text bytes = (raw : List ℕ) × IsUnbroken raw × IsRaw text raw × (length text ≤ line_limit) × (bytes ≡ raw ++ 10 ∷ [])

-- the same, or a last line without an end
abbrev pub IsLineBefore : Option (List ℕ) → List ℕ → List ℕ → Type 0
IsLineBefore rest text bytes = IsLine text bytes ⊎ (IsUnbroken text × (text ≢ []) × (length text ≤ line_limit) × (bytes ≡ text) × IsAtEnd rest)

-- a line with this text was taken from the front
pub record TakesText (old new : Option (List ℕ)) (text : List ℕ) : Type 0 where
  pub bytes : List ℕ
  pub line : IsLineBefore new text bytes
  pub taken : old ≡ prepend_known bytes new

-- the first line is too long
pub record IsLong (old : Option (List ℕ)) : Type 0 where
  pub raw : List ℕ
  pub rest : Option (List ℕ)
  pub unbroken : IsUnbroken raw
  pub taken : old ≡ prepend_known raw rest
  pub past : IsPastLimit raw ⊎ ((line_limit < length raw) × IsAtEnd rest)

-- the bytes are part of one line, with or without its end
abbrev pub IsOfOneLine : List ℕ → Type 0
IsOfOneLine bytes = IsUnbroken bytes ⊎ ((raw : List ℕ) × IsUnbroken raw × (bytes ≡ raw ++ 10 ∷ []))

-- this many blank lines were taken
abbrev pub TakesBlank : ℕ → Option (List ℕ) → Option (List ℕ) → Type 0
TakesBlank zero old new = new ≡ old
TakesBlank (suc n) old new = (mid : Option (List ℕ)) × TakesText old mid [] × TakesBlank n mid new

-- ---- faults

-- whether a read failed
abbrev pub is_read : LineKind → Bool
is_read kind.Read = true
is_read other = false

-- a fault of the first line: nothing beyond this line was used; and if a read failed, it failed inside the line, and
-- what is held does not end the line
pub record StopsInLine (old new : Option (List ℕ)) (held : List ℕ) (k : LineKind) : Type 0 where
  pub used : List ℕ
  pub rest : old ≡ prepend_known used new
  pub part : IsOfOneLine used
  pub short : length used ≤ line_limit + 2
  pub cut : IsTrue (is_read k) → IsUnbroken used × (held ≡ [])
