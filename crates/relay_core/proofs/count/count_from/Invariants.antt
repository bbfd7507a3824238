use Rattle.std.proofs.Common.{◌≡◌, ◌+◌, ◌≤◌, drop}
use Rattle.std.specs.Prelude.{map}
use Rattle.relay_held.specs.Queues.{candidates_kept}
use Rattle.relay_core.specs.Counting.{counted_after, closes_count}
use Rattle.relay_core.specs.Walk.{item_of_kept}
use Rattle.relay_core.proofs.count.count_from.Given as goal

abbrev pub invariant-candidates : goal.invariant-candidates
invariant-candidates l = record {
  held : l.held ≡ record l.fn.held { looks = l.held.looks };
  looks : l.held.looks + l.fn.from ≤ l.fn.held.looks + l.at;
  rise : l.fn.held.looks ≤ l.held.looks;
  tally : counted_after (map item_of_kept (drop l.at (candidates_kept l.fn.held.list l.fn.held.clock))) l.tally ≡ counted_after (map item_of_kept (drop l.fn.from (candidates_kept l.fn.held.list l.fn.held.clock))) l.fn.start;
  closed : closes_count (map item_of_kept (drop l.at (candidates_kept l.fn.held.list l.fn.held.clock))) l.tally ≡ closes_count (map item_of_kept (drop l.fn.from (candidates_kept l.fn.held.list l.fn.held.clock))) l.fn.start;
}
