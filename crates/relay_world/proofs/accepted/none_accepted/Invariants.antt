use Rattle.std.proofs.Common.{◌≡◌, []}
use Rattle.std.specs.Prelude.{replicate}
use Rattle.relay_world.proofs.accepted.none_accepted.Given as goal

abbrev pub invariant-lists : goal.invariant-lists
invariant-lists l = l.accepted.items ≡ replicate l.counter []
