use Rattle.std.proofs.Common.{◌≡◌, ◌-◌, ◌++◌, length}
use Rattle.relay_delay.proofs.queue.bring_all.Given as goal

abbrev pub invariant-front : goal.invariant-front
invariant-front l = record {
  kept : l.front.items ++ l.ready.entries ≡ l.initial.front.items ++ l.initial.ready.entries;
  room : l.ready.room ≡ l.initial.ready.room;
  capacity : l.front.cap ≡ l.initial.front.cap;
}

abbrev pub decreases-front : goal.decreases-front
decreases-front l = l.count - length l.front.items
