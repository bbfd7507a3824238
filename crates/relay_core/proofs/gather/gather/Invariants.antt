use Rattle.std.proofs.Common.{◌≡◌, ◌+◌, ◌≤◌, [], drop, length}
use Rattle.std.specs.Prelude.{map, min}
use Rattle.relay_held.specs.Queues.{candidates_kept}
use Rattle.relay_core.specs.Walk.{items_of_kept, item_of_kept}
use Rattle.relay_core.specs.Rule.{gathering_after, closes}
use Rattle.relay_core.proofs.Going.{BelowFirst}
use Rattle.relay_core.proofs.gather.gather.Given as goal

abbrev pub invariant-candidates : goal.invariant-candidates
invariant-candidates l = record {
  held : l.held ≡ record l.fn.held { looks = l.held.looks };
  within : l.at ≤ length (candidates_kept l.fn.held.list l.fn.held.clock);
  looks : l.held.looks ≤ l.fn.held.looks + l.at;
  below : BelowFirst (drop l.at (candidates_kept l.fn.held.list l.fn.held.clock)) l.batcher.items;
  rise : l.fn.held.looks ≤ l.held.looks;
  looked : min (l.fn.held.looks + length l.batcher.items) 18446744073709551615 ≤ l.held.looks;
  batch : gathering_after (map item_of_kept (drop l.at (candidates_kept l.fn.held.list l.fn.held.clock))) l.batcher ≡ gathering_after (items_of_kept l.fn.held.list l.fn.held.clock l.fn.held.list) (record { limits = l.fn.limits; items = [] });
  closed : closes (map item_of_kept (drop l.at (candidates_kept l.fn.held.list l.fn.held.clock))) l.batcher ≡ closes (items_of_kept l.fn.held.list l.fn.held.clock l.fn.held.list) (record { limits = l.fn.limits; items = [] });
}
