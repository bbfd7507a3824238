use Rattle.std.proofs.Common.{◌≡◌, ◌+◌, map, vec_len, List}
use Rattle.relay_queue.specs.Ends.{Queue, fresh_puts}
use Rattle.relay_threads.proofs.Dealing.{DealsOn}
use Rattle.relay_threads.proofs.start.deal.Given as goal

abbrev pub invariant-loop-left : goal.invariant-loop-left
invariant-loop-left l = record {
  len : vec_len l.producers + l.left ≡ l.fn.count;
  dealt : (queues : List Queue) → map (λ c. c.items) l.fn.columns.items ≡ map (λ q. fresh_puts q (l.fn.count + 1)) queues → DealsOn queues l.fn.epoch (map (λ c. c.items) l.columns.items) l.left l.producers.items;
}

abbrev pub decreases-loop-left : goal.decreases-loop-left
decreases-loop-left l = l.left
