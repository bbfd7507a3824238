use Rattle.std.proofs.Common.{◌≡◌, vec_len}
use Rattle.relay_producer.specs.Ends.{identities, open_puts}
use Rattle.relay_telling_tests.specs.Handles.{open_names}
use Rattle.relay_telling_tests.proofs.many.put_all.Given as goal

abbrev pub invariant-loop : goal.invariant-loop
invariant-loop g l =
    (open_names l.producers.items ≡ open_names l.fn.producers.items) × (identities (open_puts l.control.ends) ≡ identities (open_puts l.fn.control.ends))

abbrev pub invariant-loop-p : goal.invariant-loop-p
invariant-loop-p g l =
    (vec_len l.producers ≡ l.p-end)
    × (open_names l.producers.items ≡ open_names l.fn.producers.items)
    × (identities (open_puts l.control.ends) ≡ identities (open_puts l.fn.control.ends))
