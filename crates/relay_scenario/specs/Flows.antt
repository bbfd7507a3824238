-- Text that is gathered, written piece by piece and counted.
use Rattle.std.specs.Prelude.{◌≡◌, ◌≢◌, ℕ, ◌+◌, min, List, [], ◌++◌, length, Option}
use Rattle.std.specs.Io.KnownBytes.{append_known}
use Rattle.relay_action.specs.Streams.{most}

-- what a writer shows, and the number of bytes written since the start, which saturates at 2^64 - 1
pub record Sink : Type 0 where
  pub shown : Option (List ℕ)
  pub sent : ℕ

abbrev pub sink : Option (List ℕ) → ℕ → Sink
sink shown sent = record { shown = shown; sent = sent }

-- before the first byte
abbrev pub fresh_sink : Option (List ℕ) → Sink
fresh_sink shown = sink shown 0

-- after these bytes
abbrev pub with_sent : Sink → List ℕ → Sink
with_sent s bytes = record { shown = append_known s.shown bytes; sent = min (s.sent + length bytes) most }

-- Some text was still to be written, and more was added. Part of all this was written, and the rest is still to be
-- written.
pub record Flows (more text : List ℕ) (before : Sink) (rest : List ℕ) (after : Sink) : Type 0 where
  pub front : List ℕ
  pub whole : text ++ more ≡ front ++ rest
  pub writes : after ≡ with_sent before front

-- a prefix of a text was written
pub record IsFront (before after : Option (List ℕ)) (text : List ℕ) : Type 0 where
  pub front : List ℕ
  pub later : List ℕ
  pub whole : text ≡ front ++ later
  pub writes : after ≡ append_known before front

-- the same, counted, and not all of it
pub record IsWrittenInPart (before after : Sink) (text : List ℕ) : Type 0 where
  pub front : List ℕ
  pub later : List ℕ
  pub whole : text ≡ front ++ later
  pub writes : after ≡ with_sent before front
  pub not_all : later ≢ []

-- Some text was still to be written, and more was added. A prefix of all this was written, and not all, since a write
-- failed.
pub record Breaks (text : List ℕ) (before after : Sink) : Type 0 where
  pub more : List ℕ
  pub cut : IsWrittenInPart before after (text ++ more)
