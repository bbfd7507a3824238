use Rattle.std.proofs.Common.{◌≡◌, ◌-◌, ◌^◌}
use Rattle.relay_producer.specs.Ends.{identities, open_puts}
use Rattle.relay_run.proofs.Feeding.{IsFedSoFar}
use Rattle.relay_run.proofs.feed.feed.Given as goal

-- what was taken was told and put, and no call of the reader has failed
abbrev pub invariant-operations : goal.invariant-operations
invariant-operations g l = record {
  fed : IsFedSoFar l.fn.input l.input l.fn.producer l.producer l.fn.telling l.telling;
  failed : l.input.failed ≡ l.fn.input.failed;
  same : identities (open_puts l.producer.ends) ≡ identities (open_puts l.fn.producer.ends);
  producer : l.producer.producer ≡ l.fn.producer.producer;
}

abbrev pub decreases-operations : goal.decreases-operations
decreases-operations g l = 2 ^ 40 - l.producer.put
