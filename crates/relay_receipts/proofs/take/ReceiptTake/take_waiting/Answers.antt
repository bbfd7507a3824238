use Rattle.relay_receipts.proofs.Keeping.{is_taker-kept, takes, well_taken-kept}
use Rattle.relay_receipts.proofs.take.ReceiptTake.take_waiting.Goals as goal

pub recv_as-requires-clause-rule : goal.recv_as-requires-clause-rule
recv_as-requires-clause-rule g c = (takes _ _ c.self.invariant.1, λ queued passes h at. tt)

pub invariant_of-self : goal.invariant_of-self
invariant_of-self g c =
    let rule = c.recv_as.ensures.rule in
    (c.recv_as.ensures.channel.0, is_taker-kept _ _ _ c.recv_as.result c.self.invariant.1 rule, well_taken-kept _ _ _ c.recv_as.result c.self.invariant.2 rule)

pub returns-clause-well_taken : goal.returns-clause-well_taken
returns-clause-well_taken g c = well_taken-kept _ _ _ c.recv_as.result c.self.invariant.2 c.recv_as.ensures.rule
