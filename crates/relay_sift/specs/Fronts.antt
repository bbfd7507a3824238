-- For the private steps that find the portion at the front of what was read. `later` is what is still to be read.
use Rattle.std.specs.Prelude.{◌≡◌, ◌⊎◌, ℕ, ◌<◌, ◌≤◌, List, [], ◌∷◌, ◌++◌, length, take, drop, Bool, true, false, IsTrue, Option, Some}
use Rattle.relay_action.specs.Streams.{one_more}
use Rattle.relay_ndjson.specs.Metadata.{line_fault}
use Rattle.relay_ndjson.specs.declared.kind.InputFault.{InputFault}
use Rattle.relay_ndjson.specs.declared.kind.LineKind.TheVariants as kind
use Rattle.relay_sift.specs.declared.asking.Extent.TheVariants as extent
use Rattle.relay_sift.specs.declared.lines.FirstLine.{FirstLine}
use Rattle.relay_sift.specs.declared.lines.FirstLine.TheVariants as first
use Rattle.relay_sift.specs.declared.front.Judged.{Judged}
use Rattle.relay_sift.specs.declared.front.Judged.TheVariants as judged
use Rattle.relay_sift.specs.declared.front.Front.{Front}
use Rattle.relay_sift.specs.declared.front.Front.TheVariants as front
use Rattle.relay_sift.specs.Texts.{is_long, lines_of}
use Rattle.relay_sift.specs.Portions.{extent_of_text, own_fault, portions}

-- the first line was found; or it is too long, whatever follows; or there is none; or more has to be read
abbrev pub Begins : List ℕ → List ℕ → FirstLine → Type 0
Begins bytes later (first.Whole n) =
    (0 < n) × (n ≤ length bytes) × (lines_of (bytes ++ later) ≡ take n bytes ∷ lines_of (drop n bytes ++ later)) × (is_long (take n bytes) ≡ false)
Begins bytes later first.Long = (line : List ℕ) × (lines : List (List ℕ)) × (lines_of (bytes ++ later) ≡ line ∷ lines) × (is_long line ≡ true)
Begins bytes later first.Absent = (bytes ≡ []) × (later ≡ [])
Begins bytes later first.Partial = Unit {0}

-- the same for all that may follow; nothing does after the end
abbrev pub IsFirst : List ℕ → Bool → FirstLine → Type 0
IsFirst bytes ended found = (later : List ℕ) → (IsTrue ended → later ≡ []) → Begins bytes later found

-- how many lines belong to a line with this text, and its own fault
abbrev pub Judges : Option (List ℕ) → List ℕ → Judged → Type 0
Judges default text (judged.Lost fault) = (extent_of_text text ≡ extent.Lost) × (line_fault default text ≡ Some fault)
Judges default text (judged.Alone fault) = (extent_of_text text ≡ extent.One) × (fault ≡ own_fault default text)
Judges default text (judged.Pair fault) = (extent_of_text text ≡ extent.Two) × (fault ≡ line_fault default text)

-- nothing can be told apart any more; the first line has this many bytes, unless it is too long
pub record Rests (default : Option (List ℕ)) (count : ℕ) (bytes later : List ℕ) (n : ℕ) (fault : InputFault) : Type 0 where
  pub first : List ℕ
  pub within : n ≤ length bytes
  pub is : portions default count (lines_of (bytes ++ later)) ≡ record { line = one_more count; first = first; bytes = bytes ++ later; fault = Some fault; told = false } ∷ []
  pub line : (first ≡ take n bytes) ⊎ (fault.kind ≡ kind.LineLong)

-- the first portion was found; or nothing can be told apart any more; or nothing is left; or more has to be read
abbrev pub Fronts : Option (List ℕ) → ℕ → List ℕ → List ℕ → Front → Type 0
Fronts default count bytes later (front.Portion first n after fault) =
    (n ≤ length bytes)
    × (portions default count (lines_of (bytes ++ later))
    ≡ record { line = one_more count; first = take first bytes; bytes = take n bytes; fault = fault; told = true } ∷ portions default after (lines_of (drop n bytes ++ later)))
    × (first ≤ n)
Fronts default count bytes later (front.Rest first fault) = Rests default count bytes later first fault
Fronts default count bytes later front.Absent = (bytes ≡ []) × (later ≡ [])
Fronts default count bytes later front.Partial = Unit {0}

abbrev pub IsFront : Option (List ℕ) → ℕ → List ℕ → Bool → Front → Type 0
IsFront default count bytes ended found = (later : List ℕ) → (IsTrue ended → later ≡ []) → Fronts default count bytes later found

-- the same for what is still to be read, if it is known
abbrev pub FrontsAt : Option (List ℕ) → Option (List ℕ) → ℕ → List ℕ → Front → Type 0
FrontsAt left default count bytes found = (later : List ℕ) → left ≡ Some later → Fronts default count bytes later found

-- a portion is within the bytes
abbrev pub IsWithin : List ℕ → Front → Type 0
IsWithin bytes (front.Portion first n after fault) = (n ≤ length bytes) × (first ≤ n)
IsWithin bytes (front.Rest first fault) = first ≤ length bytes
IsWithin bytes front.Absent = Unit {0}
IsWithin bytes front.Partial = Unit {0}
