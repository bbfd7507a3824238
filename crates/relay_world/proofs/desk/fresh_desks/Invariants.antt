use Rattle.std.proofs.Common.{◌≡◌}
use Rattle.std.specs.Prelude.{replicate}
use Rattle.relay_world.specs.State.{fresh_desk}
use Rattle.relay_world.proofs.desk.fresh_desks.Given as goal

abbrev pub invariant-desks : goal.invariant-desks
invariant-desks l = l.desks.items ≡ replicate l.counter (fresh_desk l.config)
