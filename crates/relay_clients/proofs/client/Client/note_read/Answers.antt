use Rattle.std.proofs.Common.{rules}
use Rattle.relay_clients.proofs.Taking.{taken_none}
use Rattle.relay_clients.proofs.client.Client.note_read.Goals as goal

-- nothing was received since the snapshot, and there is an answer to send
pub invariant_of-self-inside : goal.invariant_of-self-inside
invariant_of-self-inside c = ((λ serving. taken_none _ _ _ (search rules) (search rules) (search rules)), tt)
