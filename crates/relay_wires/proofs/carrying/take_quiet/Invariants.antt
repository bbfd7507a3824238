use Rattle.std.proofs.Common.{◌≡◌, List, ◌++◌, vec_len, vec_capacity}
use Rattle.relay_http.specs.Connection.{Connection}
use Rattle.relay_wires.specs.Carriers.{AllFree}
use Rattle.relay_wires.proofs.carrying.take_quiet.Given as goal

-- what was free is still free, but for those that were dropped from its end
abbrev pub invariant-looking : goal.invariant-looking
invariant-looking g l = record {
  free : AllFree l.free.items;
  dropped : (dropped : List Connection) × (l.fn.free.items ≡ l.free.items ++ dropped);
  capacity : vec_capacity l.free ≡ vec_capacity l.fn.free;
}

abbrev pub decreases-looking : goal.decreases-looking
decreases-looking g l = vec_len l.free
