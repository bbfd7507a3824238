use Rattle.std.proofs.Common.{◌≡◌, ◌≤◌, ◌++◌, length}
use Rattle.relay_delay.specs.Heaps.{insert_all, IsMoving}
use Rattle.relay_delay.proofs.queue.come_due.Given as goal

abbrev pub invariant-due : goal.invariant-due
invariant-due l = record {
  moving : IsMoving l.clock l.front.items l.ready l.later;
  same : insert_all l.later.entries (l.front.items ++ l.ready.entries) ≡ insert_all l.initial.later.entries (l.initial.front.items ++ l.initial.ready.entries);
  capacity : l.front.cap ≡ l.initial.front.cap;
  ready_room : l.initial.ready.room ≤ l.ready.room;
  later_room : l.later.room ≡ l.initial.later.room;
}

abbrev pub decreases-due : goal.decreases-due
decreases-due l = length l.later.entries
