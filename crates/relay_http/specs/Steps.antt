-- The private steps of a connection.
use Rattle.std.specs.Prelude.{◌≡◌, ◌≤◌, ◌⊎◌, ◌^◌, ◌&&◌, ◌==◌, nat_lt, ℕ, List, [], ◌∷◌, ◌++◌, length, take, Bool, false, if◌then◌else◌, Option, Some, None, Result, Ok, Err}
use Rattle.std.specs.Char.{is_ascii_digit}
use Rattle.std.specs.Io.KnownBytes.{IsAtEnd, append_known, prepend_known}
use Rattle.std.specs.List.{list_all}
use Rattle.std.specs.Str.Parse.{digits_value}
use Rattle.httparse.specs.Ascii.{crlf_bytes}
use Rattle.relay_http.specs.ChunkedBody.{IsSizeLine, IsTrailerText, IsChunkedAfter}
use Rattle.relay_http.specs.Forms.{Form, Begins, Took, Fails}
use Rattle.relay_http.specs.WrittenRequest.{SendsFront}
use Rattle.relay_http.specs.declared.buffered.Buffered.{Buffered}
use Rattle.relay_http.specs.declared.chunk.SizeLine.{SizeLine}
use Rattle.relay_http.specs.declared.fault.HttpFault.{HttpFault}
use Rattle.relay_http.specs.declared.fault.HttpFault.TheVariants as fault

-- the bytes to come: those of the window, and then those that the stream has left
abbrev pub pending : {S : Type 0} → (S → Option (List ℕ)) → Buffered S → Option (List ℕ)
pending left c = prepend_known c.window (left c.stream)

-- this many bytes moved from the front of the stream to the end of the window; 0 only at the end of the stream
pub record Grown (before after : List ℕ) (old new : Option (List ℕ)) (count : ℕ) : Type 0 where
  pub bytes : List ℕ
  pub length_is : length bytes ≡ count
  pub window : after ≡ before ++ bytes
  pub stream : old ≡ prepend_known bytes new
  pub end : count ≡ 0 → IsAtEnd old

-- this many bytes, at most `most`, moved from the front to the end of a list; 0 only at the end of the stream
pub record Moved (old new left : Option (List ℕ)) (before after : List ℕ) (most n : ℕ) : Type 0 where
  pub bytes : List ℕ
  pub length_is : length bytes ≡ n
  pub bound : n ≤ most
  pub split : old ≡ prepend_known bytes new
  pub appended : after ≡ before ++ bytes
  pub end : n ≡ 0 → (new ≡ left) × IsAtEnd left

-- this many bytes moved from the front to the end of a list
pub record TookData (size : ℕ) (old new : Option (List ℕ)) (before after : List ℕ) : Type 0 where
  pub piece : List ℕ
  pub length_is : length piece ≡ size
  pub split : old ≡ prepend_known piece new
  pub appended : after ≡ before ++ piece

-- the result of a search for a message at the front of a buffer: a message and its length; none so far; or none,
-- whatever bytes follow
abbrev pub Finds : {A : Type 0} → Form A → List ℕ → Result (Option (A × ℕ)) HttpFault → Type 0
Finds M bytes (Ok (Some found)) = (found.1 ≤ length bytes) × M (take found.1 bytes) false found.0
Finds M bytes (Ok None) = ¬ (Begins M bytes)
Finds M bytes (Err f) = IsOfBytes f × ((more : List ℕ) → ¬ (Begins M (bytes ++ more)))
  where
    IsOfBytes : HttpFault → Type 0
    IsOfBytes f = (f ≡ fault.Malformed) ⊎ (f ≡ fault.HeadLong)

-- the result of reading a message, where `old` and `new` are the bytes to come before and after the call, and `left`
-- those not yet read after it
abbrev pub Answers : {A : Type 0} → Form A → Option (List ℕ) → Option (List ℕ) → Option (List ℕ) → Result A HttpFault → Type 0
Answers M old new left (Ok value) = Took M old new value
Answers M old new left (Err f) = Fails M old left f

-- a chunk-size line, as a search finds it
abbrev pub IsLine : Form SizeLine
IsLine bytes ends line = IsSizeLine bytes ends line.size

-- the end of a chunk, whatever the value
abbrev pub IsCrlf : {A : Type 0} → Form A
IsCrlf bytes ends value = bytes ≡ crlf_bytes

-- a trailer, whatever the value
abbrev pub IsTrailer : {A : Type 0} → Form A
IsTrailer bytes ends value = IsTrailerText bytes

-- there are this many bytes and CRLF at the front
pub record IsChunkThere (size : ℕ) (stream : List ℕ) : Type 0 where
  pub content : List ℕ
  pub rest : List ℕ
  pub size_is : length content ≡ size
  pub split : stream ≡ content ++ (crlf_bytes ++ rest)

-- the content of a chunk and CRLF were taken from the front, and the content was added to a list
pub record TookChunk (size : ℕ) (old new : Option (List ℕ)) (before after : List ℕ) : Type 0 where
  pub piece : List ℕ
  pub length_is : length piece ≡ size
  pub split : old ≡ prepend_known (piece ++ crlf_bytes) new
  pub appended : after ≡ before ++ piece

-- what may follow a chunk-size line: the content, CRLF and further chunks
pub record IsDataAfter (limit : ℕ) (before : List ℕ) (size : ℕ) (bytes : List ℕ) (ends : Bool) (content : List ℕ) : Type 0 where
  pub piece : List ℕ
  pub more : List ℕ
  pub size_is : length piece ≡ size
  pub chunked : IsChunkedAfter limit (before ++ piece) more ends content
  pub bytes_are : bytes ≡ piece ++ (crlf_bytes ++ more)

-- what may follow the content of a chunk: CRLF and further chunks
pub record IsEndAfter (limit : ℕ) (before : List ℕ) (bytes : List ℕ) (ends : Bool) (content : List ℕ) : Type 0 where
  pub more : List ℕ
  pub chunked : IsChunkedAfter limit before more ends content
  pub bytes_are : bytes ≡ crlf_bytes ++ more

-- what may follow a line of size 0: the trailer
pub record IsLastAfter (limit : ℕ) (before : List ℕ) (bytes : List ℕ) (ends : Bool) (content : List ℕ) : Type 0 where
  pub trailer_is : IsTrailerText bytes
  pub content_is : content ≡ before
  pub size : length content ≤ limit

-- the digits from the first that is not 0
abbrev pub significant : List ℕ → List ℕ
significant [] = []
significant (b ∷ bytes) = if b == 48 then significant bytes else b ∷ bytes

-- 1*DIGIT, below 2 ^ 64
abbrev pub fits_number : List ℕ → Bool
fits_number text = nat_lt 0 (length text) && (list_all is_ascii_digit text && nat_lt (digits_value 10 text) (2 ^ 64))

-- ---- a request is written piece by piece

-- A head was gathered, of which a prefix was sent; or a prefix was sent, and no more; or an allocation failed, and
-- nothing was sent.
abbrev pub Begun : List ℕ → List ℕ → Option (List ℕ) → Option (List ℕ) → Result (Unit {0}) HttpFault → Type 0
Begun head text old new (Ok _) = (piece : List ℕ) × (new ≡ append_known old piece) × (piece ++ text ≡ head)
Begun head text old new (Err fault.Write) = SendsFront head old new
Begun head text old new (Err fault.Memory) = new ≡ old
Begun head text old new (Err f) = ⊥

-- a text was sent, or a prefix of it
abbrev pub SendsBoth : List ℕ → Option (List ℕ) → Option (List ℕ) → Result (Unit {0}) HttpFault → Type 0
SendsBoth text old new (Ok _) = new ≡ append_known old text
SendsBoth text old new (Err fault.Write) = SendsFront text old new
SendsBoth text old new (Err f) = ⊥

-- what was gathered was sent, and nothing is gathered; or a prefix was sent
abbrev pub Flushes : List ℕ → List ℕ → Option (List ℕ) → Option (List ℕ) → Result (Unit {0}) HttpFault → Type 0
Flushes before after old new (Ok _) = (new ≡ append_known old before) × (after ≡ [])
Flushes before after old new (Err fault.Write) = SendsFront before old new
Flushes before after old new (Err f) = ⊥

-- Lines were added to what was gathered, of which a prefix was sent. If an allocation failed, all that was gathered
-- before was sent, and no more.
abbrev pub Gathers : List ℕ → List ℕ → List ℕ → Option (List ℕ) → Option (List ℕ) → Result (Unit {0}) HttpFault → Type 0
Gathers lines before after old new (Ok _) = (piece : List ℕ) × (new ≡ append_known old piece) × (piece ++ after ≡ before ++ lines)
Gathers lines before after old new (Err fault.Write) = SendsFront (before ++ lines) old new
Gathers lines before after old new (Err fault.Memory) = new ≡ append_known old before
Gathers lines before after old new (Err f) = ⊥
