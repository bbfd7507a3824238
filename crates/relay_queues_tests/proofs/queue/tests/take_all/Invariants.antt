use Rattle.std.proofs.Common.{◌≡◌}
use Rattle.relay_queues_tests.proofs.queue.tests.take_all.Given as goal

abbrev pub invariant-loop : goal.invariant-loop
invariant-loop g l = l.take.queue ≡ l.fn.take.queue
