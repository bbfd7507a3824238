use Rattle.std.proofs.Common.{◌≡◌}
use Rattle.relay_serve.proofs.Noting.{lost_first}
use Rattle.relay_serve.proofs.batch.lose_in.Given as goal

-- the first writes are gone if they are in this lane
abbrev pub invariant-items : goal.invariant-items
invariant-items l = l.item-items ≡ lost_first l.fn.lane l.item-index l.fn.items
