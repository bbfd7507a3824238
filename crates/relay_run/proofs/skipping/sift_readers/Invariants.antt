use Rattle.std.proofs.Common.{◌≡◌, ◌+◌, length, vec_len}
use Rattle.std.specs.Vec.Iter.{into_iter_items}
use Rattle.relay_run.proofs.skipping.sift_readers.Given as goal

-- those that are there, and then those that are left
abbrev pub invariant-loop-reader : goal.invariant-loop-reader
invariant-loop-reader g l = vec_len l.sifted + length (into_iter_items l.reader-iterator) ≡ vec_len l.fn.readers
