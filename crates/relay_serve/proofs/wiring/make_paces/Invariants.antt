use Rattle.std.proofs.Common.{◌≡◌, vec_len}
use Rattle.relay_serve.proofs.wiring.make_paces.Given as goal

abbrev pub invariant-lanes : goal.invariant-lanes
invariant-lanes l = vec_len l.paces ≡ l.lane
