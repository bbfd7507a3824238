use Rattle.std.proofs.Common.{◌≡◌, vec_len}
use Rattle.std.specs.List.{All}
use Rattle.relay_queue.specs.Ends.{Queue}
use Rattle.relay_queues_tests.proofs.queue.tests.start_all.Given as goal

abbrev pub invariant-loop-put : goal.invariant-loop-put
invariant-loop-put g l =
    (queue : Queue) → All (λ p. p.queue ≡ queue) l.fn.puts.items
    → All (λ p. p.queue ≡ queue) l.puts.items × All (λ t. t.promise.put.value.queue ≡ queue) l.threads.items

abbrev pub decreases-loop-put : goal.decreases-loop-put
decreases-loop-put g l = vec_len l.puts
