use Rattle.std.proofs.Common.{◌≡◌, length}
use Rattle.relay_producer.specs.States.{AreFresh}
use Rattle.relay_queues_tests.proofs.producer.lanes.make.Given as goal

abbrev pub invariant-loop-lane : goal.invariant-loop-lane
invariant-loop-lane l = record {
  first : AreFresh 0 l.lanes.first.items × (length l.lanes.first.items ≡ l._lane);
  second : AreFresh 1 l.lanes.second.items × (length l.lanes.second.items ≡ l._lane);
  control : AreFresh 2 l.lanes.control.items × (length l.lanes.control.items ≡ l._lane);
}
