use Rattle.std.proofs.Common.{ap, sym, refl, ◌+◌, true}
use Rattle.relay_queue.proofs.Mails.{done-push}
use Rattle.relay_queue.proofs.Keeping.{sends}
use Rattle.relay_queue.proofs.sender.LanePut.close.Goals as goal

pub send_as-requires-clause-rule : goal.send_as-requires-clause-rule
send_as-requires-clause-rule g c =
    let i = c.self.invariant in
    (sends true _ _ _ _ i.1 i.2 i.3 (ap (λ n. n + 1) (sym i.4)) (λ undone. done-push _ _ refl), λ queued passes h at. tt)
