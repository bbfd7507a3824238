use Rattle.std.proofs.Common.{◌≡◌}
use Rattle.relay_receipts.proofs.take.ReceiptTake.take_from.Given as goal

abbrev pub invariant-looks : goal.invariant-looks
invariant-looks g l = l.self ≡ l.fn.self
