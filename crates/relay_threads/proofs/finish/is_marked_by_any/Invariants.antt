use Rattle.relay_threads.proofs.Firsts.{NoneBefore}
use Rattle.relay_threads.proofs.finish.is_marked_by_any.Given as goal

abbrev pub invariant-loop-sender : goal.invariant-loop-sender
invariant-loop-sender l = NoneBefore (λ r. r.items) l.fn.rows.items l.fn.lane l.sender
