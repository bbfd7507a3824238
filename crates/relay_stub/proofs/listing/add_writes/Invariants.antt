use Rattle.std.proofs.Common.{◌≡◌, ◌++◌, flat_map, take}
use Rattle.relay_stub.specs.Listing.{applied_line}
use Rattle.relay_stub.proofs.listing.add_writes.Given as goal

abbrev pub invariant-writes : goal.invariant-writes
invariant-writes l = l.text.items ≡ l.fn.text.items ++ flat_map applied_line (take l.write-index l.fn.writes)
