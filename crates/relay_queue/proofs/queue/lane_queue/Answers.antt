use Rattle.relay_queue.proofs.Keeping.{begins}
use Rattle.relay_queue.proofs.queue.lane_queue.Goals as goal

pub bounded_with-requires-clause-rule : goal.bounded_with-requires-clause-rule
bounded_with-requires-clause-rule c = begins
