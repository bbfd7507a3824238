use Rattle.std.proofs.Common.{◌≡◌, ◌≤◌, ◌++◌, length}
use Rattle.relay_delay.proofs.queue.add.Given as goal

abbrev pub invariant-back : goal.invariant-back
invariant-back l = record {
  kept : l.front.items ++ l.ready.entries ≡ l.initial.front.items ++ l.initial.ready.entries;
  capacity : l.front.cap ≡ l.initial.front.cap;
  room : l.initial.ready.room ≤ l.ready.room;
}

abbrev pub decreases-back : goal.decreases-back
decreases-back l = length l.front.items
