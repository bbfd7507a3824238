use Rattle.std.proofs.Common.{◌≡◌}
use Rattle.relay_producer.specs.Ends.{identities, open_puts}
use Rattle.relay_telling_tests.proofs.limits.fill.Given as goal

abbrev pub invariant-loop-open : goal.invariant-loop-open
invariant-loop-open g l = identities (open_puts l.producer.producer.ends) ≡ identities (open_puts l.fn.producer.producer.ends)
