use Rattle.std.proofs.Common.{◌≡◌}
use Rattle.relay_run.specs.Marks.{fixed}
use Rattle.relay_run.proofs.keeping.Kept.follow.Given as goal

abbrev pub invariant-notices : goal.invariant-notices
invariant-notices g l = fixed l.self ≡ fixed l.fn.self
