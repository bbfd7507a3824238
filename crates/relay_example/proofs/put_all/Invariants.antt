use Rattle.std.proofs.Common.{◌≡◌}
use Rattle.relay_producer.specs.Ends.{identities, open_puts}
use Rattle.relay_example.proofs.put_all.Given as goal

abbrev pub invariant-loop-id : goal.invariant-loop-id
invariant-loop-id g l = identities (open_puts l.to.producer.ends) ≡ identities (open_puts l.fn.to.producer.ends)
