-- What the variant of a leaf shows by itself, even of a number that is out of range.
use Rattle.std.specs.Prelude.{List, ℕ, Bool, true, false, Option, Some, None}
use Rattle.serde_json.specs.Data.{Num}
use Rattle.serde_json.specs.Read.{number_of}
use Rattle.relay_json.specs.declared.leaf.Leaf.{Leaf}
use Rattle.relay_json.specs.declared.leaf.Leaf.TheVariants as leaf

abbrev pub shows_null : Leaf → Bool
shows_null leaf.Null = true
shows_null (leaf.Bool b) = false
shows_null (leaf.Number s) = false
shows_null (leaf.String s) = false
shows_null leaf.Array = false
shows_null leaf.Object = false

abbrev pub text_shown : Leaf → Option (List ℕ)
text_shown leaf.Null = None
text_shown (leaf.Bool b) = None
text_shown (leaf.Number s) = None
text_shown (leaf.String s) = Some s.now
text_shown leaf.Array = None
text_shown leaf.Object = None

-- nothing of a number that is out of range
abbrev pub number_shown : Leaf → Option Num
number_shown leaf.Null = None
number_shown (leaf.Bool b) = None
number_shown (leaf.Number s) = number_of s.now
number_shown (leaf.String s) = None
number_shown leaf.Array = None
number_shown leaf.Object = None
