use Rattle.relay_sift.proofs.Sifting.{empty_iff}
use Rattle.relay_sift.proofs.pending.Pending.is_empty.Goals as goal

pub returns : goal.returns
returns c = empty_iff c.args.self.now c.is_empty.result (rw c.held.ensures at c.is_empty.ensures)
