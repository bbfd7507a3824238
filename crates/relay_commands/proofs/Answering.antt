-- The answer to a body that was read, once it was sent.
use Rattle.std.proofs.Common.{ℕ, List, Option, Result, Ok, Err}
use Rattle.relay_index.specs.States.{State}
use Rattle.relay_index.specs.Plans.{Plan}
use Rattle.relay_commands.specs.Applies.{Applies}
use Rattle.relay_commands.specs.Pieces.{IsAnswered, WritesOutput}
use Rattle.relay_commands.specs.Calls.{FailsOnceInApply, NoneFails}
use Rattle.relay_commands.specs.declared.apply.ApplyFault.{ApplyFault}
use Rattle.relay_commands.specs.declared.apply.ApplyFault.TheVariants as fault

pub sends : {T : Type 0} (index : State) (plan : Plan) (old new before after : Option (List ℕ)) (failed count : ℕ) (out : List ℕ) (r : Result T ApplyFault) → IsAnswered index plan old new out → WritesOutput before after failed count out r → Applies index plan old new before after r
sends index plan old new before after failed count out (Ok x) is s = (is.body, out, is.gives, is.output, s.0)
sends index plan old new before after failed count out (Err fault.BodyLong) is s = absurd s
sends index plan old new before after failed count out (Err fault.Read) is s = absurd s
sends index plan old new before after failed count out (Err (fault.Write n)) is s = (is.body, out, is.gives, is.output, s.0, s.1)
sends index plan old new before after failed count out (Err fault.Memory) is s = absurd s

pub calls : {T : Type 0} (before after : Option (List ℕ)) (reads reads_after failed count : ℕ) (out : List ℕ) (r : Result T ApplyFault) → NoneFails reads reads_after → WritesOutput before after failed count out r → FailsOnceInApply reads reads_after failed count r
calls before after reads reads_after failed count out (Ok x) none s = (none, s.1)
calls before after reads reads_after failed count out (Err fault.BodyLong) none s = absurd s
calls before after reads reads_after failed count out (Err fault.Read) none s = absurd s
calls before after reads reads_after failed count out (Err (fault.Write n)) none s = (none, s.2)
calls before after reads reads_after failed count out (Err fault.Memory) none s = absurd s
