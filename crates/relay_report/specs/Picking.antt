-- For the steps of `pick`: one operation, those up to a number, and the text that is written for them.
use Rattle.std.specs.Prelude.{◌≡◌, ◌≢◌, ℕ, ◌+◌, ◌⊎◌, List, [], ◌++◌, length, Bool, true, false, if◌then◌else◌, Option, Result, Ok, Err}
use Rattle.std.specs.Io.KnownBytes.{append_known}
use Rattle.relay_action.specs.Streams.{FailedSince}
use Rattle.relay_ndjson.specs.Operations.{HoldsNoMore, IsFault, Position, saturating_count}
use Rattle.relay_ndjson.specs.declared.kind.InputFault.{InputFault}
use Rattle.relay_ndjson.specs.declared.kind.LineKind.{LineKind}
use Rattle.relay_ndjson.specs.declared.kind.LineKind.TheVariants as kind
use Rattle.relay_report.specs.Operations.{TakesLines}
use Rattle.relay_report.specs.Picks.{TakesAll, WritesFront, picked_lines}
use Rattle.relay_report.specs.declared.picking.PickFault.{PickFault}
use Rattle.relay_report.specs.declared.picking.PickFault.TheVariants as fault

-- a failed allocation has its own fault
abbrev pub pick_fault_by : InputFault → LineKind → PickFault
pick_fault_by e kind.Memory = fault.Memory
pick_fault_by e other = fault.Input e

abbrev pub fault_of : InputFault → PickFault
fault_of e = pick_fault_by e e.kind

-- an operation was taken, and its lines were added to a text if it is wanted; or none was left; or why none was taken
abbrev pub PicksNext : (ℕ → Bool) → ℕ → Option (List ℕ) → Position → Position → List ℕ → List ℕ → Result Bool PickFault → Type 0
PicksNext wanted k default old new before after (Ok true) =
    (lines : List ℕ) × (count : ℕ) × TakesLines default old.ahead new.ahead count lines × (new.count ≡ saturating_count (old.count + count))
    × (after ≡ before ++ (if wanted k then lines else []))
PicksNext wanted k default old new before after (Ok false) = HoldsNoMore old.ahead × (after ≡ before)
PicksNext wanted k default old new before after (Err (fault.Input e)) =
    IsFault default old.ahead old.count e × (e.kind ≢ kind.Memory) × (after ≡ before)
PicksNext wanted k default old new before after (Err fault.Write) = ⊥
PicksNext wanted k default old new before after (Err fault.Memory) = Unit {0}

-- part of a text was written, and the rest is still to be written
pub record Moves (text rest : List ℕ) (before after : Option (List ℕ)) : Type 0 where
  pub moved : List ℕ
  pub whole : text ≡ moved ++ rest
  pub written : after ≡ append_known before moved

-- why no more operations were taken
abbrev pub StopsAt : ℕ → Option (List ℕ) → Option (List ℕ) → ℕ → List (List ℕ) → Result ℕ PickFault → Type 0
StopsAt last default rest count items (Ok n) = (n ≡ length items) × ((n ≡ last) ⊎ HoldsNoMore rest)
StopsAt last default rest count items (Err (fault.Input e)) = IsFault default rest (saturating_count count) e × (e.kind ≢ kind.Memory)
StopsAt last default rest count items (Err fault.Write) = Unit {0}
StopsAt last default rest count items (Err fault.Memory) = Unit {0}

-- how much was written of everything, when this text is still to be written; after a failed write or allocation
-- nothing more is
abbrev pub Leaves : Option (List ℕ) → Option (List ℕ) → List ℕ → List ℕ → Result ℕ PickFault → Type 0
Leaves before now all text (Err fault.Write) = WritesFront before now all
Leaves before now all text (Err fault.Memory) = WritesFront before now all
Leaves before now all text other = Moves all text before now

pub record PicksTo (wanted : ℕ → Bool) (last : ℕ) (default old before now : Option (List ℕ)) (text : List ℕ) (result : Result ℕ PickFault) : Type 0 where
  pub items : List (List ℕ)
  pub rest : Option (List ℕ)
  pub count : ℕ
  pub taken : TakesAll default old rest count items
  pub stops : StopsAt last default rest count items result
  pub written : Leaves before now (picked_lines wanted 1 items) text result

-- nothing more is written
abbrev pub is_over : Result ℕ PickFault → Bool
is_over (Err fault.Write) = true
is_over (Err fault.Memory) = true
is_over other = false

-- the text was written, and the result is unchanged; or a write failed
abbrev pub ClosesOrFails : Result ℕ PickFault → List ℕ → Option (List ℕ) → ℕ → Option (List ℕ) → ℕ → Result ℕ PickFault → Type 0
ClosesOrFails so_far text before failed after count result =
    ((result ≡ so_far) × (after ≡ append_known before text) × (count ≡ failed))
    ⊎ ((result ≡ Err fault.Write) × WritesFront before after text × FailedSince failed count)

abbrev pub Closes : Result ℕ PickFault → List ℕ → Option (List ℕ) → ℕ → Option (List ℕ) → ℕ → Result ℕ PickFault → Type 0
Closes (Err fault.Write) text before failed after count result = (result ≡ Err fault.Write) × (after ≡ before) × (count ≡ failed)
Closes (Err fault.Memory) text before failed after count result = (result ≡ Err fault.Memory) × (after ≡ before) × (count ≡ failed)
Closes so_far text before failed after count result = ClosesOrFails so_far text before failed after count result
