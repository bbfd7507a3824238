use Rattle.std.proofs.Common.{◌≡◌, ◌++◌}
use Rattle.std.specs.Vec.Iter.{into_iter_items}
use Rattle.relay_serve.specs.Meeting.{AllWellTaken}
use Rattle.relay_serve.proofs.meeting.end_all.Given as goal

-- the first ends have taken all that they take
abbrev pub invariant-receipts : goal.invariant-receipts
invariant-receipts l = record {
  same : l.ended.items ++ into_iter_items l.take-iterator ≡ l.fn.receipts.items;
  well : AllWellTaken l.ended.items;
}
