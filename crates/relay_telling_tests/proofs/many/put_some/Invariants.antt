use Rattle.std.proofs.Common.{◌≡◌}
use Rattle.relay_producer.specs.Ends.{identities, open_puts}
use Rattle.relay_telling_tests.proofs.many.put_some.Given as goal

abbrev pub invariant-loop : goal.invariant-loop
invariant-loop g l =
    (identities (open_puts l.producer.producer.ends) ≡ identities (open_puts l.fn.producer.producer.ends))
    × (identities (open_puts l.control.ends) ≡ identities (open_puts l.fn.control.ends))
