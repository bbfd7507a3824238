use Rattle.std.proofs.Common.{◌≡◌, ◌+◌, ◌++◌, map, vec_len}
use Rattle.std.specs.Vec.Iter.{into_iter_items, into_iter_len}
use Rattle.relay_queue.specs.Ends.{fresh_puts}
use Rattle.relay_threads.specs.Lanes.{queues_of, wires_of, tells_of, AreLanesOf}
use Rattle.relay_threads.specs.Relay.{NoneOut}
use Rattle.relay_threads.proofs.start.make_lanes.Given as goal

abbrev pub invariant-loop-wire : goal.invariant-loop-wire
invariant-loop-wire g l = record {
  count : vec_len l.columns + into_iter_len l.wire-iterator ≡ l.fn.config.lanes;
  lanes : AreLanesOf l.fn.config l.lanes.items;
  wires : wires_of l.lanes.items ++ into_iter_items l.wire-iterator ≡ l.fn.wires.items;
  puts : map (λ c. c.items) l.columns.items ≡ map (λ q. fresh_puts q (l.fn.config.producers + 1)) (queues_of l.lanes.items);
  out : NoneOut g.W.Wire.out (into_iter_items l.wire-iterator);
  paces : into_iter_len l.paces ≡ into_iter_len l.wire-iterator;
  tells : into_iter_len l.tells ≡ into_iter_len l.wire-iterator;
  told : tells_of l.lanes.items ++ into_iter_items l.tells ≡ l.fn.tells.items;
}
