use Rattle.std.proofs.Common.{◌≡◌, ◌+◌, ◌++◌, map, vec_len}
use Rattle.std.specs.Vec.Iter.{into_iter_items, into_iter_len}
use Rattle.relay_run.specs.Saving.{AreNew, AllGoOnFrom, AreUntold, AreUnwritten, lane_seat, seat_of}
use Rattle.relay_run.proofs.telling.add_tells.Given as goal

abbrev pub invariant-loop-file : goal.invariant-loop-file
invariant-loop-file g l = record {
  count : vec_len l.tells + into_iter_len l.file-iterator ≡ vec_len l.fn.files;
  new : AreNew l.tells.items;
  before : AllGoOnFrom l.fn.numbering.before l.tells.items;
  settled : AreUntold (into_iter_items l.settled);
  seats : map seat_of l.tells.items ++ map lane_seat (into_iter_items l.settled) ≡ map lane_seat l.fn.settled.items;
  lanes : into_iter_len l.settled ≡ into_iter_len l.file-iterator;
  left : AreUnwritten g.P.ByteStream.written g.P.ByteStream.failed (into_iter_items l.file-iterator);
}
