use Rattle.std.proofs.Common.{◌≡◌, ◌++◌, length, vec_len, vec_capacity}
use Rattle.std.specs.List.{AllZip}
use Rattle.std.specs.Vec.Iter.{into_iter_items}
use Rattle.relay_producer.specs.Ends.{Closes}
use Rattle.relay_producer.proofs.lanes.close_all.Given as goal

abbrev pub invariant-loop-end : goal.invariant-loop-end
invariant-loop-end g l = record {
  closed : AllZip Closes l.yielded l.closed.items;
  all : l.yielded ++ into_iter_items l.end-iterator ≡ l.fn.ends.items;
  count : vec_len l.closed ≡ length l.yielded;
  room : vec_capacity l.closed ≡ vec_capacity l.fn.closed;
}
