use Rattle.std.proofs.Common.{◌≡◌}
use Rattle.relay_producer.specs.Ends.{identities, open_puts}
use Rattle.relay_telling_tests.proofs.many.take_one.Given as goal

abbrev pub invariant-loop : goal.invariant-loop
invariant-loop g l = (l.producer.producer ≡ l.fn.producer.producer) × (identities (open_puts l.control.ends) ≡ identities (open_puts l.fn.control.ends))
