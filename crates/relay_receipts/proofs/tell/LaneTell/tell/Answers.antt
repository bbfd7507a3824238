use Rattle.std.proofs.Common.{◌∙◌}
use Rattle.relay_receipts.proofs.Keeping.{sends}
use Rattle.relay_receipts.proofs.tell.LaneTell.tell.Goals as goal

pub send_as-requires-clause-rule : goal.send_as-requires-clause-rule
send_as-requires-clause-rule g c =
    let i = c.self.invariant in
    (sends _ _ _ _ i.1 i.2 (i.3 ∙ c.if-self.false), λ queued passes h at. tt)
