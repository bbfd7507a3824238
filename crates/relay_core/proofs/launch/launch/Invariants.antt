use Rattle.std.proofs.Common.{◌≡◌, ◌+◌, ◌-◌, ◌≤◌, ◌++◌, take, drop, vec_len, vec_capacity}
use Rattle.std.specs.Prelude.{map}
use Rattle.relay_held.specs.Queues.{candidates_kept, Rises}
use Rattle.relay_core.specs.Walk.{item_of_kept, launched_kept, freight}
use Rattle.relay_core.proofs.launch.launch.Given as goal

abbrev pub invariant-places : goal.invariant-places
invariant-places l = record {
  rises : Rises l.held.list;
  clock : l.held.clock ≡ l.fn.held.clock;
  looks : l.held.looks ≡ l.fn.held.looks;
  left : candidates_kept l.held.list l.held.clock ≡ drop l.place (candidates_kept l.fn.held.list l.fn.held.clock);
  room : vec_len l.writes + (l.count - l.place) ≤ vec_capacity l.writes;
  held : launched_kept l.held.clock l.held.list l.number l.place (map item_of_kept (take (l.count - l.place) (drop l.place (candidates_kept l.fn.held.list l.fn.held.clock)))) ≡ launched_kept l.fn.held.clock l.fn.held.list l.number 0 (map item_of_kept (take l.count (candidates_kept l.fn.held.list l.fn.held.clock)));
  writes : l.writes.items ++ freight l.held.list (map item_of_kept (take (l.count - l.place) (drop l.place (candidates_kept l.fn.held.list l.fn.held.clock)))) ≡ l.fn.writes.items ++ freight l.fn.held.list (map item_of_kept (take l.count (candidates_kept l.fn.held.list l.fn.held.clock)));
}
