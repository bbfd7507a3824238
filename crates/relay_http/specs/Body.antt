-- The body of a message (RFC 9112, section 6).
use Rattle.std.specs.Prelude.{◌≡◌, ℕ, ◌<◌, ◌≤◌, Bool, true, List, [], length}
use Rattle.relay_http.specs.ChunkedBody.{IsChunked, IsLongChunked}
use Rattle.relay_http.specs.Forms.{Form}
use Rattle.relay_http.specs.declared.framing.Framing.{Framing}
use Rattle.relay_http.specs.declared.framing.Framing.TheVariants.{Absent, Sized, Chunked, ToEnd}

-- exactly n bytes
pub record IsSized (n : ℕ) (text : List ℕ) (ends : Bool) (content : List ℕ) : Type 0 where
  pub length_is : length text ≡ n
  pub same : content ≡ text

-- everything up to the end of the stream
pub record IsRest (limit : ℕ) (text : List ℕ) (ends : Bool) (content : List ℕ) : Type 0 where
  pub whole : ends ≡ true
  pub size : length text ≤ limit
  pub same : content ≡ text

-- the bytes are a body with this framing and at most `limit` bytes of content, and this is the content
abbrev pub IsBody : ℕ → Framing → Form (List ℕ)
IsBody limit Absent = IsSized 0
IsBody limit (Sized n) = IsSized n
IsBody limit Chunked = IsChunked limit
IsBody limit ToEnd = IsRest limit

-- more than the limit is left
abbrev pub IsLongRest : ℕ → List ℕ → Type 0
IsLongRest limit stream = limit < length stream

-- a body with this framing at the front exceeds the limit
abbrev pub IsLongBody : ℕ → Framing → List ℕ → Type 0
IsLongBody limit Absent stream = ⊥
IsLongBody limit (Sized n) stream = ⊥
IsLongBody limit Chunked stream = IsLongChunked limit [] stream
IsLongBody limit ToEnd stream = IsLongRest limit stream
