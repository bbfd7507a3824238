use Rattle.std.proofs.Common.{◌≡◌}
use Rattle.relay_receipts.proofs.take.ReceiptTake.poll.Given as goal

abbrev pub invariant-loop-turn : goal.invariant-loop-turn
invariant-loop-turn g l = l.self ≡ l.initial.self
