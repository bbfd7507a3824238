use Rattle.std.proofs.Common.{◌≡◌}
use Rattle.relay_serve.proofs.settler.Settler.look.Given as goal

abbrev pub invariant-looks : goal.invariant-looks
invariant-looks g l = l.self ≡ l.fn.self
