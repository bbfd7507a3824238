-- The version that the reason of an error states: OpenSearch ends that of a version conflict with
-- `current version [N] is higher or equal to the one provided [M]` (external versioning).
use Rattle.std.specs.Prelude.{◌≡◌, ℕ, ◌≤◌, List, ◌∷◌, ◌++◌, length, codes, Option, None, Some}
use Rattle.relay_results.specs.Numerals.{IsNumber}

-- the words before a stored version
abbrev pub stored_mark : List ℕ
stored_mark = codes "current version ["

-- the mark is in the text, with this before and after it, and at no later place
pub record IsLastMark (text before after : List ℕ) : Type 0 where
  pub is_there : text ≡ before ++ (stored_mark ++ after)
  pub last : (front rest : List ℕ) → text ≡ front ++ (stored_mark ++ rest) → length front ≤ length before

-- After the last mark the text has this number, in decimal digits, and then a `]` (byte 93). What is before the mark may
-- hold anything, since the id of the document is there.
pub record StatesStored (text : List ℕ) (version : ℕ) : Type 0 where
  pub before : List ℕ
  pub digits : List ℕ
  pub after : List ℕ
  pub mark : IsLastMark text before (digits ++ 93 ∷ after)
  pub number : IsNumber digits version

-- the stored version that a reason states, if there is a reason and it states one
abbrev pub SaysStored : Option (List ℕ) → Option ℕ → Type 0
SaysStored None stored = stored ≡ None
SaysStored (Some text) None = (version : ℕ) → StatesStored text version → ⊥
SaysStored (Some text) (Some version) = StatesStored text version
