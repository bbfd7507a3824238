use Rattle.relay_producer.specs.Signals.{body_of}
use Rattle.relay_producer.proofs.Sending.{IsSentBelow}
use Rattle.relay_producer.proofs.lanes.send_to_all.Given as goal

abbrev pub invariant-loop-lane : goal.invariant-loop-lane
invariant-loop-lane g l = IsSentBelow (body_of l.signal) l.lane l.taken l.fn.ends.items l.ends.items
