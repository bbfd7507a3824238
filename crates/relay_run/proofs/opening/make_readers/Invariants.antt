use Rattle.std.proofs.Common.{◌≡◌, ◌+◌, length, vec_len}
use Rattle.std.specs.Vec.Iter.{into_iter_items}
use Rattle.relay_run.proofs.opening.make_readers.Given as goal

-- those that are there, and then those that are left
abbrev pub invariant-loop-opened : goal.invariant-loop-opened
invariant-loop-opened g l = vec_len l.readers + length (into_iter_items l.opened-iterator) ≡ vec_len l.fn.sources
