-- The body of a bulk request (OpenSearch, bulk API): lines of JSON, each with its line feed.
use Rattle.std.specs.Prelude.{◌≡◌, ℕ, List, ◌∷◌, ◌++◌, Bool, ◌||◌, ◌==◌}
use Rattle.std.specs.List.{list_all}
use Rattle.relay_ndjson.specs.Lines.{IsUnbroken, IsRaw}

-- the bytes begin with a line that has this text, and the rest follows: the line feed is not part of the text, nor is
-- one carriage return before it
abbrev pub BeginsWithLine : List ℕ → List ℕ → List ℕ → Type 0
BeginsWithLine bytes rest text = (raw : List ℕ) × IsUnbroken raw × IsRaw text raw × (bytes ≡ raw ++ 10 ∷ rest)

-- a line of blanks and tabs
abbrev pub is_blank : List ℕ → Bool
is_blank line = list_all (λ b. b == 32 || b == 9) line
