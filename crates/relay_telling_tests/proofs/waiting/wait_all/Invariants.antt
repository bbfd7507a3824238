use Rattle.std.proofs.Common.{◌≡◌, vec_len}
use Rattle.relay_telling_tests.specs.Handles.{open_names}
use Rattle.relay_telling_tests.proofs.waiting.wait_all.Given as goal

abbrev pub invariant-loop-number : goal.invariant-loop-number
invariant-loop-number g l = open_names l.producers.items ≡ open_names l.fn.producers.items

abbrev pub invariant-loop-p : goal.invariant-loop-p
invariant-loop-p g l = (vec_len l.producers ≡ l.p-end) × (open_names l.producers.items ≡ open_names l.fn.producers.items)
