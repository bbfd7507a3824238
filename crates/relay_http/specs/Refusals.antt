-- Why a message is refused: what is at the front of the stream, for each fault.
use Rattle.std.specs.Prelude.{◌≡◌, ◌⊎◌, ℕ, ◌<◌, ◌≤◌, List, ◌++◌, length, take, flat_map, Ok}
use Rattle.std.specs.List.{AllByRecursion}
use Rattle.httparse.specs.Ascii.{crlf_bytes}
use Rattle.httparse.specs.Grammar.{ResponseHead, print_response, HasNoResponse, NeverHasResponse, HasNoRequest, NeverHasRequest, HasNoSection, NeverHasSection, ChunkLine, chunk_size, print_chunk_line, HasNoChunkLine, NeverHasChunkLine}
use Rattle.httparse.specs.Spans.{ResponseExceeds, RequestExceeds, SectionExceeds}
use Rattle.relay_http.specs.Body.{IsLongBody}
use Rattle.relay_http.specs.ChunkedBody.{size_line_limit, trailer_limit, trailer_fields, FitsLine, Chunk, IsChunk, print_chunk}
use Rattle.relay_http.specs.Forms.{Begins}
use Rattle.relay_http.specs.Reply.{head_limit, field_limit, interim_limit, IsInterim, IsHeads, ReplyStates, ReplyPasses}
use Rattle.relay_http.specs.Request.{IsRequestInfo, RequestStates, RequestPasses}
use Rattle.relay_http.specs.declared.fault.HttpFault.{HttpFault}
use Rattle.relay_http.specs.declared.fault.HttpFault.TheVariants as fault
use Rattle.relay_http.specs.declared.framing.Framing.{Framing}
use Rattle.relay_http.specs.declared.framing.Framing.TheVariants as framing

-- ---- pieces

-- A piece is too long: it does not end within the maximum number of bytes, or it has too many fields.
abbrev pub OverrunsHead : List ℕ → Type 0
OverrunsHead s = ((head_limit ≤ length s) × HasNoResponse (take head_limit s)) ⊎ ResponseExceeds field_limit s

abbrev pub OverrunsRequestHead : List ℕ → Type 0
OverrunsRequestHead s = ((head_limit ≤ length s) × HasNoRequest (take head_limit s)) ⊎ RequestExceeds field_limit s

abbrev pub OverrunsTrailer : List ℕ → Type 0
OverrunsTrailer s = ((trailer_limit ≤ length s) × HasNoSection (take trailer_limit s)) ⊎ SectionExceeds trailer_fields s

abbrev pub OverrunsLine : List ℕ → Type 0
OverrunsLine s = (size_line_limit ≤ length s) × HasNoChunkLine (take size_line_limit s)

-- the end of a chunk is never too long
abbrev pub OverrunsNever : List ℕ → Type 0
OverrunsNever s = ⊥

-- there is no CRLF, and more bytes will not make one
abbrev pub NeverHasCrlf : List ℕ → Type 0
NeverHasCrlf s = (more rest : List ℕ) → ¬ (s ++ more ≡ crlf_bytes ++ rest)

-- the fault of a piece: Malformed if the bytes there break its grammar, HeadLong if they exceed its limits
abbrev pub PieceFault : (List ℕ → Type 0) → (List ℕ → Type 0) → List ℕ → HttpFault → Type 0
PieceFault breaks overruns s fault.Malformed = breaks s
PieceFault breaks overruns s fault.HeadLong = overruns s
PieceFault breaks overruns s fault.BodyLong = ⊥
PieceFault breaks overruns s fault.CodedBody = ⊥
PieceFault breaks overruns s fault.BothLengths = ⊥
PieceFault breaks overruns s fault.Ended = Unit {0}
PieceFault breaks overruns s fault.Read = Unit {0}
PieceFault breaks overruns s fault.Write = ⊥
PieceFault breaks overruns s fault.TooManyInterim = ⊥
PieceFault breaks overruns s fault.Memory = Unit {0}
PieceFault breaks overruns s fault.Broken = ⊥

-- ---- chunked bodies

-- there are chunks at the front, and P holds after them
pub record AfterChunks (P : List ℕ → Type 0) (stream : List ℕ) : Type 0 where
  pub chunks : List Chunk
  pub each : AllByRecursion IsChunk chunks
  pub rest : List ℕ
  pub there : P rest
  pub split : stream ≡ flat_map print_chunk chunks ++ rest

-- there is a chunk-size line at the front, and P holds of its size and the bytes after it
pub record AfterSizeLine (P : ℕ → List ℕ → Type 0) (stream : List ℕ) : Type 0 where
  pub line : ChunkLine
  pub fits : FitsLine line
  pub rest : List ℕ
  pub there : P (chunk_size line) rest
  pub split : stream ≡ print_chunk_line line ++ rest

-- there are this many bytes at the front, and no CRLF after them
pub record HasNoChunkEnd (size : ℕ) (stream : List ℕ) : Type 0 where
  pub content : List ℕ
  pub rest : List ℕ
  pub size_is : length content ≡ size
  pub none : NeverHasCrlf rest
  pub split : stream ≡ content ++ rest

-- after a chunk-size line: no trailer after the last chunk, or no CRLF after the content
abbrev pub BreaksAfterLine : ℕ → List ℕ → Type 0
BreaksAfterLine size s = ((size ≡ 0) × NeverHasSection s) ⊎ ((0 < size) × HasNoChunkEnd size s)

abbrev pub OverrunsAfterLine : ℕ → List ℕ → Type 0
OverrunsAfterLine size s = (size ≡ 0) × OverrunsTrailer s

-- what follows, a chunk or the end of the body, breaks the grammar; or its line or its trailer is too long
abbrev pub BreaksChunk : List ℕ → Type 0
BreaksChunk s = NeverHasChunkLine s ⊎ AfterSizeLine BreaksAfterLine s

abbrev pub OverrunsChunk : List ℕ → Type 0
OverrunsChunk s = OverrunsLine s ⊎ AfterSizeLine OverrunsAfterLine s

-- ---- bodies

-- only a chunked body has a grammar
abbrev pub BreaksBody : Framing → List ℕ → Type 0
BreaksBody framing.Absent s = ⊥
BreaksBody (framing.Sized n) s = ⊥
BreaksBody framing.Chunked s = AfterChunks BreaksChunk s
BreaksBody framing.ToEnd s = ⊥

abbrev pub OverrunsBody : Framing → List ℕ → Type 0
OverrunsBody framing.Absent s = ⊥
OverrunsBody (framing.Sized n) s = ⊥
OverrunsBody framing.Chunked s = AfterChunks OverrunsChunk s
OverrunsBody framing.ToEnd s = ⊥

-- the fault of a body with this framing and at most `limit` bytes
abbrev pub BodyFault : ℕ → Framing → List ℕ → HttpFault → Type 0
BodyFault limit f s fault.Malformed = BreaksBody f s
BodyFault limit f s fault.HeadLong = OverrunsBody f s
BodyFault limit f s fault.BodyLong = IsLongBody limit f s
BodyFault limit f s fault.CodedBody = ⊥
BodyFault limit f s fault.BothLengths = ⊥
BodyFault limit f s fault.Ended = Unit {0}
BodyFault limit f s fault.Read = Unit {0}
BodyFault limit f s fault.Write = ⊥
BodyFault limit f s fault.TooManyInterim = ⊥
BodyFault limit f s fault.Memory = Unit {0}
BodyFault limit f s fault.Broken = ⊥

-- ---- replies

-- there are at most eight interim heads at the front, and P holds after them
pub record AfterInterim (P : List ℕ → Type 0) (stream : List ℕ) : Type 0 where
  pub interim : List ResponseHead
  pub few : length interim ≤ interim_limit
  pub dropped : AllByRecursion IsInterim interim
  pub rest : List ℕ
  pub there : P rest
  pub split : stream ≡ flat_map print_response interim ++ rest

-- the heads of a reply are at the front, and P holds of their framing and the bytes after them
pub record AfterHeads (P : Framing → List ℕ → Type 0) (stream : List ℕ) : Type 0 where
  pub heads : Begins IsHeads stream
  pub framing : Framing
  pub framed : heads.value.framing ≡ Ok framing
  pub there : P framing heads.rest

-- The fault for what is at the front of the stream in place of a reply. Malformed: the heads say so, or a head or a
-- chunked body breaks the grammar. HeadLong: a head, a chunk-size line or a trailer is too long. BodyLong: the heads
-- say so, or the body exceeds its limit. The other faults of the bytes: the heads say so.
abbrev pub ReplyFault : List ℕ → HttpFault → Type 0
ReplyFault s fault.Malformed = ReplyStates s fault.Malformed ⊎ (AfterInterim NeverHasResponse s ⊎ AfterHeads BreaksBody s)
ReplyFault s fault.HeadLong = AfterInterim OverrunsHead s ⊎ AfterHeads OverrunsBody s
ReplyFault s fault.BodyLong = ReplyStates s fault.BodyLong ⊎ ReplyPasses s
ReplyFault s fault.CodedBody = ReplyStates s fault.CodedBody
ReplyFault s fault.BothLengths = ReplyStates s fault.BothLengths
ReplyFault s fault.Ended = Unit {0}
ReplyFault s fault.Read = Unit {0}
ReplyFault s fault.Write = ⊥
ReplyFault s fault.TooManyInterim = ReplyStates s fault.TooManyInterim
ReplyFault s fault.Memory = Unit {0}
ReplyFault s fault.Broken = ⊥

-- ---- requests

-- the head of a request is at the front, and P holds of its framing and the bytes after it
pub record AfterRequestHead (P : Framing → List ℕ → Type 0) (stream : List ℕ) : Type 0 where
  pub head : Begins IsRequestInfo stream
  pub framing : Framing
  pub framed : head.value.framing ≡ Ok framing
  pub there : P framing head.rest

-- the same for a request, which has no interim heads
abbrev pub RequestFault : List ℕ → HttpFault → Type 0
RequestFault s fault.Malformed = RequestStates s fault.Malformed ⊎ (NeverHasRequest s ⊎ AfterRequestHead BreaksBody s)
RequestFault s fault.HeadLong = OverrunsRequestHead s ⊎ AfterRequestHead OverrunsBody s
RequestFault s fault.BodyLong = RequestStates s fault.BodyLong ⊎ RequestPasses s
RequestFault s fault.CodedBody = RequestStates s fault.CodedBody
RequestFault s fault.BothLengths = RequestStates s fault.BothLengths
RequestFault s fault.Ended = Unit {0}
RequestFault s fault.Read = Unit {0}
RequestFault s fault.Write = ⊥
RequestFault s fault.TooManyInterim = ⊥
RequestFault s fault.Memory = Unit {0}
RequestFault s fault.Broken = ⊥
