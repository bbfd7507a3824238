use Rattle.std.specs.Vec.Iter.{into_iter_items}
use Rattle.relay_serve.proofs.Serving.{JoinsServed}
use Rattle.relay_serve.proofs.workers.join_all.Given as goal

-- the first threads have ended, and the others are left
abbrev pub invariant-threads : goal.invariant-threads
invariant-threads g l = JoinsServed l.fn.threads.items (into_iter_items l.thread-iterator) l.closed.items l.receipts.items l.spoken.items
