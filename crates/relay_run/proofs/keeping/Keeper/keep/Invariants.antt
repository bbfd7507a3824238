use Rattle.std.proofs.Common.{◌≡◌}
use Rattle.relay_run.specs.Marks.{fixed_of}
use Rattle.relay_run.proofs.keeping.Keeper.keep.Given as goal

abbrev pub invariant-turns : goal.invariant-turns
invariant-turns g l = fixed_of l.self.kept ≡ fixed_of l.fn.self.kept
