-- What `relay apply` reads, and what it writes.
use Rattle.std.specs.Prelude.{◌≡◌, ℕ, ◌+◌, ◌<◌, ◌≤◌, List, ◌++◌, length, take, decimal, Option, Result, Ok, Err}
use Rattle.std.specs.Io.KnownBytes.{append_known, prepend_known, IsAtEnd}
use Rattle.relay_ndjson.specs.Bulk.{line_end}
use Rattle.relay_index.specs.States.{State}
use Rattle.relay_index.specs.Plans.{Plan}
use Rattle.relay_index.specs.Serving.{under, answer_of, Answers}
use Rattle.relay_commands.specs.declared.apply.ApplyFault.{ApplyFault}
use Rattle.relay_commands.specs.declared.apply.ApplyFault.TheVariants as fault

-- the maximum size of the body of a bulk request, in bytes
abbrev pub body_limit : ℕ
body_limit = 16777216

-- the reader returned these bytes and then its end, and they are within the limit of a body
pub record GivesBody (old new : Option (List ℕ)) (body : List ℕ) : Type 0 where
  pub within : length body ≤ body_limit
  pub whole : old ≡ prepend_known body new
  pub at_end : IsAtEnd new

-- no more was taken from the reader than it takes to see that a body is too long
pub record TakesSome (old new : Option (List ℕ)) : Type 0 where
  pub bytes : List ℕ
  pub within : length bytes ≤ body_limit + 1
  pub whole : old ≡ prepend_known bytes new

-- exactly one byte more than a body may have was taken from the reader
pub record PassesLimit (old new : Option (List ℕ)) : Type 0 where
  pub bytes : List ℕ
  pub past : length bytes ≡ body_limit + 1
  pub whole : old ≡ prepend_known bytes new

-- the answer of an index to the body, under the script
pub record IsAnswer (index : State) (plan : Plan) (body : List ℕ) (status : ℕ) (text : List ℕ) : Type 0 where
  pub after : State
  pub end : Plan
  pub answers : Answers body (under index plan) (answer_of status text) (under after end)

-- the lines of an answer: its status and its text
abbrev pub answer_lines : ℕ → List ℕ → List ℕ
answer_lines status text = decimal status ++ line_end ++ text ++ line_end

-- these are the lines of the answer to the body
pub record IsOutput (index : State) (plan : Plan) (body out : List ℕ) : Type 0 where
  pub status : ℕ
  pub text : List ℕ
  pub answer : IsAnswer index plan body status text
  pub lines : out ≡ answer_lines status text

-- What was written, by how it ended: the lines of the answer to the body that was read; after a failed write exactly
-- the first of their bytes; otherwise nothing.
abbrev pub Applies : {T : Type 0} → State → Plan → Option (List ℕ) → Option (List ℕ) → Option (List ℕ) → Option (List ℕ) → Result T ApplyFault → Type 0
Applies index plan old new before after (Ok x) =
    (body : List ℕ) × (out : List ℕ) × GivesBody old new body × IsOutput index plan body out × (after ≡ append_known before out)
Applies index plan old new before after (Err fault.BodyLong) = PassesLimit old new × (after ≡ before)
Applies index plan old new before after (Err fault.Read) = TakesSome old new × (after ≡ before)
Applies index plan old new before after (Err (fault.Write sent)) =
    (body : List ℕ) × (out : List ℕ) × GivesBody old new body × IsOutput index plan body out × (sent < length out)
    × (after ≡ append_known before (take sent out))
Applies index plan old new before after (Err fault.Memory) = TakesSome old new × (after ≡ before)
