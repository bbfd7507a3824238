use Rattle.std.proofs.Common.{◌≡◌, ◌++◌}
use Rattle.std.specs.Vec.Iter.{into_iter_items}
use Rattle.relay_run.proofs.wiring.count_wires.Given as goal

-- those that are counted, and then those that are left
abbrev pub invariant-loop-wire : goal.invariant-loop-wire
invariant-loop-wire l = l.counted.items ++ into_iter_items l.wire-iterator ≡ l.fn.wires.items
