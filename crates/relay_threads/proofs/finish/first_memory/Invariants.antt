use Rattle.relay_threads.specs.Faults.{ends_as, is_memory}
use Rattle.relay_threads.proofs.Firsts.{NoneBelow}
use Rattle.relay_threads.proofs.finish.first_memory.Given as goal

abbrev pub invariant-loop-lane : goal.invariant-loop-lane
invariant-loop-lane g l = NoneBelow (ends_as is_memory l.fn.ends.items) l.lane
