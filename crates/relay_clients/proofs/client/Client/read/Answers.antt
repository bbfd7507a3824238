use Rattle.std.proofs.Common.{ap, arith}
use Rattle.relay_clients.proofs.Taking.{taken_more}
use Rattle.relay_clients.proofs.client.Client.read.Goals as goal

-- as many bytes were received as were added
pub invariant_of-self-inside-in-Ok-2 : goal.invariant_of-self-inside-in-Ok-2
invariant_of-self-inside-in-Ok-2 c = let ok = c.in-Ok-2.ensures.ok in (
  (λ serving. taken_more _ _ _ _ _ ok.0 (ap (λ h. h.received) ok.3) (omega (arith, ok.1, c.add.ensures.0)) (c.self.inside.counted serving)),
  tt,
)
