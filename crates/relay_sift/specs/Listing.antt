-- The faults of an input, and how they are listed.
use Rattle.std.specs.Prelude.{◌≡◌, ℕ, ◌+◌, ◌==◌, min, List, [], ◌∷◌, ◌++◌, codes, decimal, length, Bool, true, false, IsTrue, ◌&&◌, nat_lt, Option, None, Some, option_map, Result, Ok, Err, if◌then◌else◌}
use Rattle.relay_action.specs.Streams.{most, one_more, FailedSince}
use Rattle.std.specs.Io.KnownBytes.{append_known, IsAtEnd}
use Rattle.relay_ndjson.specs.Kinds.{name_of}
use Rattle.relay_ndjson.specs.Operations.{blank_limit}
use Rattle.relay_ndjson.specs.declared.kind.InputFault.{InputFault}
use Rattle.relay_ndjson.specs.declared.kind.LineKind.TheVariants as kind
use Rattle.relay_sift.specs.declared.checking.CheckFault.{CheckFault}
use Rattle.relay_sift.specs.declared.checking.CheckFault.TheVariants as fault
use Rattle.relay_sift.specs.declared.fault.SiftFault.{SiftFault}
use Rattle.relay_sift.specs.declared.fault.SiftFault.TheVariants as sift
use Rattle.relay_sift.specs.About.{IsSaid}
use Rattle.relay_sift.specs.Portions.{Portion, fault_at, portions}
use Rattle.relay_sift.specs.Texts.{line_text, lines_of}

-- a fault, and the text of the first line of those that belong together
pub record Finding : Type 0 where
  pub fault : InputFault
  pub action : List ℕ

abbrev pub findings_of : List ℕ → Option InputFault → List Finding
findings_of action None = []
findings_of action (Some fault) = record { fault = fault; action = action } ∷ []

abbrev pub is_empty : List ℕ → Bool
is_empty [] = true
is_empty (byte ∷ bytes) = false

abbrev pub is_blank : Portion → Bool
is_blank p = p.told && is_empty (line_text p.first)

-- the faults of portions that follow this many blank lines; the blank line after too many is the last
abbrev pub findings : ℕ → List Portion → List Finding
findings blank [] = []
findings blank (p ∷ ps) =
    if is_blank p then (if nat_lt blank blank_limit then findings (blank + 1) ps else findings_of [] (Some (fault_at p.line kind.LineLong)))
    else findings_of (line_text p.first) p.fault ++ findings 0 ps

-- the faults of a text
abbrev pub findings_in : Option (List ℕ) → List ℕ → List Finding
findings_in default text = findings 0 (portions default 0 (lines_of text))

-- the line of a fault
abbrev pub fault_line : InputFault → List ℕ
fault_line e = codes "line " ++ decimal e.line ++ codes ": " ++ name_of e.kind ++ codes "\n"

-- a line for each, and beneath it what it is about
abbrev pub AreListed : List Finding → List ℕ → Type 0
AreListed [] text = text ≡ []
AreListed (f ∷ fs) text =
    (about : List ℕ) × (rest : List ℕ) × IsSaid f.fault.kind f.action about × AreListed fs rest × (text ≡ fault_line f.fault ++ (about ++ rest))

-- the faults of a text were written, and this is their number
pub record Lists (fs : List Finding) (old new : Option (List ℕ)) (n : ℕ) : Type 0 where
  pub said : List ℕ
  pub listed : AreListed fs said
  pub written : new ≡ append_known old said
  pub number : n ≡ min (length fs) most

-- a read failed, or a write, or neither
abbrev pub FailsIn : {T : Type 0} → Result T CheckFault → ℕ → ℕ → ℕ → ℕ → Type 0
FailsIn (Ok x) read reads written writes = (reads ≡ read) × (writes ≡ written)
FailsIn (Err fault.Read) read reads written writes = FailedSince read reads × (writes ≡ written)
FailsIn (Err fault.Write) read reads written writes = (reads ≡ read) × FailedSince written writes
FailsIn (Err fault.Memory) read reads written writes = (reads ≡ read) × (writes ≡ written)
FailsIn (Err fault.Endless) read reads written writes = (reads ≡ read) × (writes ≡ written)

-- ---- private steps

-- an input that is being checked: its default index; what was read and not used yet, and whether the reader has ended;
-- the number of lines before that, and how many at their end are blank; and the number of faults
pub record Survey : Type 0 where
  pub default : Option (List ℕ)
  pub held : List ℕ
  pub ended : Bool
  pub count : ℕ
  pub blank : ℕ
  pub faults : ℕ

abbrev pub survey_of : Option (List ℕ) → Survey
survey_of default = record { default = default; held = []; ended = false; count = 0; blank = 0; faults = 0 }

abbrev pub ahead_with : Survey → List ℕ → List Finding
ahead_with s left = findings s.blank (portions s.default s.count (lines_of (s.held ++ left)))

-- the faults that are ahead, if what is left is known; and none
abbrev pub ahead : Option (List ℕ) → Survey → Option (List Finding)
ahead left s = option_map (λ l. ahead_with s l) left

abbrev pub none_ahead : Option (List ℕ) → Option (List Finding)
none_ahead left = option_map (λ l. []) left

-- these faults were written
abbrev pub Writes : List Finding → Option (List ℕ) → Option (List ℕ) → Type 0
Writes fs old new = (said : List ℕ) × AreListed fs said × (new ≡ append_known old said)

-- the text of one fault
abbrev pub IsFindingText : InputFault → List ℕ → List ℕ → Type 0
IsFindingText e action text = (about : List ℕ) × IsSaid e.kind action about × (text ≡ fault_line e ++ about)

-- that many more faults; a count saturates
abbrev pub with_faults : ℕ → Survey → Survey
with_faults n s = record s { faults = if n == 0 then s.faults else one_more s.faults }

-- some of the faults ahead were written and counted; these are those that are left
pub record Checks (before after : Option (List Finding)) (old new : Option (List ℕ)) (n m : ℕ) : Type 0 where
  pub found : List Finding
  pub said : List ℕ
  pub listed : AreListed found said
  pub taken : before ≡ option_map (λ fs. found ++ fs) after
  pub written : new ≡ append_known old said
  pub number : (k : ℕ) → n ≡ min k most → m ≡ min (k + length found) most

-- after a step, which may be the last
abbrev pub StepsTo : Bool → Option (List ℕ) → Option (List ℕ) → Option (List ℕ) → Option (List ℕ) → Survey → Survey → Type 0
StepsTo true left later old new s t =
    Checks (ahead left s) (ahead later t) old new s.faults t.faults × (IsTrue t.ended → IsAtEnd later)
StepsTo false left later old new s t = Checks (ahead left s) (none_ahead left) old new s.faults t.faults

-- ---- faults of the streams: none but the last call failed

abbrev pub FailsToRead : {T : Type 0} → Result T CheckFault → ℕ → ℕ → Type 0
FailsToRead (Ok x) old new = new ≡ old
FailsToRead (Err fault.Read) old new = FailedSince old new
FailsToRead (Err fault.Write) old new = ⊥
FailsToRead (Err fault.Memory) old new = new ≡ old
FailsToRead (Err fault.Endless) old new = ⊥

abbrev pub FailsToWrite : {T : Type 0} → Result T CheckFault → ℕ → ℕ → Type 0
FailsToWrite (Ok x) old new = new ≡ old
FailsToWrite (Err fault.Read) old new = ⊥
FailsToWrite (Err fault.Write) old new = FailedSince old new
FailsToWrite (Err fault.Memory) old new = new ≡ old
FailsToWrite (Err fault.Endless) old new = ⊥

-- of the bytes that are read ahead
abbrev pub FailsOnce : {T : Type 0} → Result T SiftFault → ℕ → ℕ → Type 0
FailsOnce (Ok x) old new = new ≡ old
FailsOnce (Err sift.Read) old new = FailedSince old new
FailsOnce (Err sift.Write) old new = ⊥
FailsOnce (Err sift.Memory) old new = new ≡ old
