-- A chunked body (RFC 9112, section 7.1).
use Rattle.std.specs.Prelude.{◌≡◌, ℕ, ◌+◌, ◌<◌, ◌≤◌, Bool, List, [], ◌++◌, length, flat_map, All}
use Rattle.std.specs.List.{AllByRecursion}
use Rattle.relay_http.specs.Forms.{Form}
use Rattle.httparse.specs.Ascii.{crlf_bytes}
use Rattle.httparse.specs.Grammar.{ChunkLine, IsChunkLine, print_chunk_line, chunk_size, Field, IsField, LineEnd, print_section}

abbrev pub size_line_limit : ℕ
size_line_limit = 256

abbrev pub trailer_limit : ℕ
trailer_limit = 16384

abbrev pub trailer_fields : ℕ
trailer_fields = 64

-- a chunk-size line within its limit
pub record FitsLine (l : ChunkLine) : Type 0 where
  pub grammar : IsChunkLine l
  pub size : length (print_chunk_line l) ≤ size_line_limit

-- the bytes are a chunk-size line with this size
pub record IsSizeLine (bytes : List ℕ) (ends : Bool) (size : ℕ) : Type 0 where
  pub line : ChunkLine
  pub fits : FitsLine line
  pub bytes_are : bytes ≡ print_chunk_line line
  pub size_is : size ≡ chunk_size line

-- a chunk-size line, that many bytes, and CRLF
pub record Chunk : Type 0 where
  pub line : ChunkLine
  pub content : List ℕ

abbrev pub print_chunk : Chunk → List ℕ
print_chunk c = print_chunk_line c.line ++ (c.content ++ crlf_bytes)

pub record IsChunk (c : Chunk) : Type 0 where
  pub fits : FitsLine c.line
  pub size_is : chunk_size c.line ≡ length c.content
  pub some : 0 < length c.content

-- trailer fields and an empty line
pub record IsTrailerText (bytes : List ℕ) : Type 0 where
  pub fields : List Field
  pub last : LineEnd
  pub grammar : All IsField fields
  pub size : length (print_section fields last) ≤ trailer_limit
  pub count : length fields ≤ trailer_fields
  pub bytes_are : bytes ≡ print_section fields last

-- the bytes are chunks, a line of size 0 and a trailer; the content is what came before, and theirs
pub record IsChunkedAfter (limit : ℕ) (before : List ℕ) (bytes : List ℕ) (ends : Bool) (content : List ℕ) : Type 0 where
  pub chunks : List Chunk
  pub each : AllByRecursion IsChunk chunks
  pub zero_line : ChunkLine
  pub zero_fits : FitsLine zero_line
  pub zero_is : chunk_size zero_line ≡ 0
  pub trailer : List ℕ
  pub trailer_is : IsTrailerText trailer
  pub content_is : content ≡ before ++ flat_map (λ c. c.content) chunks
  pub size : length content ≤ limit
  pub bytes_are : bytes ≡ flat_map print_chunk chunks ++ (print_chunk_line zero_line ++ trailer)

-- the bytes are a chunked body with at most `limit` bytes of content
abbrev pub IsChunked : ℕ → Form (List ℕ)
IsChunked limit = IsChunkedAfter limit []

-- there are chunks at the front, and then a chunk-size line that takes the content over the limit
pub record IsLongChunked (limit : ℕ) (before : List ℕ) (stream : List ℕ) : Type 0 where
  pub chunks : List Chunk
  pub each : AllByRecursion IsChunk chunks
  pub line : ChunkLine
  pub fits : FitsLine line
  pub past : limit < length before + length (flat_map (λ c. c.content) chunks) + chunk_size line
  pub rest : List ℕ
  pub split : stream ≡ flat_map print_chunk chunks ++ (print_chunk_line line ++ rest)
