use Rattle.std.proofs.Common.{◌≡◌}
use Rattle.relay_producer.specs.Ends.{identities, open_puts}
use Rattle.relay_common.proofs.ticking.tick_until_ended.Given as goal

abbrev pub invariant-ticks : goal.invariant-ticks
invariant-ticks g l = record {
  sender : l.control.sender ≡ l.fn.control.sender;
  same : identities (open_puts l.control.ends) ≡ identities (open_puts l.fn.control.ends);
}
