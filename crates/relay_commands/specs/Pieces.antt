-- For the steps of `apply`: the body, which is read piece by piece, and its answer, which is written.
use Rattle.std.specs.Prelude.{◌≡◌, ◌≢◌, ℕ, ◌+◌, ◌<◌, ◌≤◌, List, [], ◌++◌, length, take, Option, Result, Ok, Err}
use Rattle.std.specs.Io.KnownBytes.{append_known, prepend_known, IsAtEnd}
use Rattle.relay_action.specs.Streams.{one_more}
use Rattle.relay_index.specs.States.{State}
use Rattle.relay_index.specs.Plans.{Plan}
use Rattle.relay_commands.specs.Applies.{GivesBody, IsOutput, PassesLimit, TakesSome, body_limit}
use Rattle.relay_commands.specs.Calls.{NoneFails, OneFails}
use Rattle.relay_commands.specs.declared.apply.ApplyFault.{ApplyFault}
use Rattle.relay_commands.specs.declared.apply.ApplyFault.TheVariants as fault
use Rattle.relay_commands.specs.declared.body.Part.{Part}
use Rattle.relay_commands.specs.declared.body.Part.TheVariants.{More, End}

-- some bytes of the body were taken, or it has ended
abbrev pub TakesPiece : Option (List ℕ) → Option (List ℕ) → List ℕ → List ℕ → Part → Type 0
TakesPiece old new before after More =
    (bytes : List ℕ) × (bytes ≢ []) × (after ≡ before ++ bytes) × (length after ≤ body_limit + 1) × (old ≡ prepend_known bytes new)
TakesPiece old new before after End = (after ≡ before) × IsAtEnd old × (new ≡ old)

-- why a body was not read
abbrev pub IsBodyFault : Option (List ℕ) → Option (List ℕ) → ApplyFault → Type 0
IsBodyFault old new fault.BodyLong = PassesLimit old new
IsBodyFault old new fault.Read = TakesSome old new
IsBodyFault old new (fault.Write sent) = ⊥
IsBodyFault old new fault.Memory = TakesSome old new

-- why a piece was not added: a read failed, and nothing was taken; or an allocation for the bytes that were taken did
abbrev pub IsPieceFault : Option (List ℕ) → Option (List ℕ) → List ℕ → ApplyFault → Type 0
IsPieceFault old new before fault.BodyLong = ⊥
IsPieceFault old new before fault.Read = new ≡ old
IsPieceFault old new before (fault.Write sent) = ⊥
IsPieceFault old new before fault.Memory =
    (bytes : List ℕ) × (length before + length bytes ≤ body_limit + 1) × (old ≡ prepend_known bytes new)

-- the number of failed calls of the reader after this result
abbrev pub failed_by : {T : Type 0} → Result T ApplyFault → ℕ → ℕ
failed_by (Ok x) n = n
failed_by (Err fault.Read) n = one_more n
failed_by (Err other) n = n

-- the lines of the answer to the body that the reader returned
pub record IsAnswered (index : State) (plan : Plan) (old new : Option (List ℕ)) (out : List ℕ) : Type 0 where
  pub body : List ℕ
  pub gives : GivesBody old new body
  pub output : IsOutput index plan body out

-- the text was written, or after a failed write exactly the first of its bytes
abbrev pub WritesOutput : {T : Type 0} → Option (List ℕ) → Option (List ℕ) → ℕ → ℕ → List ℕ → Result T ApplyFault → Type 0
WritesOutput before after failed count out (Ok x) = (after ≡ append_known before out) × NoneFails failed count
WritesOutput before after failed count out (Err (fault.Write sent)) =
    (sent < length out) × (after ≡ append_known before (take sent out)) × OneFails failed count
WritesOutput before after failed count out (Err other) = ⊥
