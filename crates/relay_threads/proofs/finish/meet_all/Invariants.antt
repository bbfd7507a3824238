use Rattle.std.proofs.Common.{◌≡◌, ◌+◌, vec_len}
use Rattle.std.specs.Vec.Iter.{into_iter_items, into_iter_len}
use Rattle.relay_threads.proofs.Meeting.{MeetsOn}
use Rattle.relay_threads.proofs.finish.meet_all.Given as goal

abbrev pub invariant-loop-end : goal.invariant-loop-end
invariant-loop-end l = record {
  same : l.taken ≡ l.fn.taken;
  left : l.sender + into_iter_len l.end-iterator ≡ vec_len l.fn.column;
  meets : MeetsOn l.fn.taken.queue l.fn.taken.taken l.fn.column.items (into_iter_items l.end-iterator) l.sender;
}
