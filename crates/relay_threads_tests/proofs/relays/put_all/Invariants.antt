use Rattle.std.proofs.Common.{◌≡◌, vec_len}
use Rattle.relay_threads_tests.specs.Handles.{open_names}
use Rattle.relay_threads_tests.proofs.relays.put_all.Given as goal

abbrev pub invariant-loop-sent : goal.invariant-loop-sent
invariant-loop-sent g l = open_names l.producers.items ≡ open_names l.fn.producers.items

abbrev pub invariant-loop-p : goal.invariant-loop-p
invariant-loop-p g l = (vec_len l.producers ≡ l.p-end) × (open_names l.producers.items ≡ open_names l.fn.producers.items)
