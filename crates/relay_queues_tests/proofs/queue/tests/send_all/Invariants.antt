use Rattle.std.proofs.Common.{◌≡◌}
use Rattle.relay_queues_tests.proofs.queue.tests.send_all.Given as goal

abbrev pub invariant-loop-sent : goal.invariant-loop-sent
invariant-loop-sent g l = l.put.queue ≡ l.fn.put.queue
