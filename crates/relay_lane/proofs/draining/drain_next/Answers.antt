use Rattle.std.proofs.Common.{refl}
use Rattle.relay_lane.proofs.Passing.{delivers_itself}
use Rattle.relay_lane.proofs.draining.drain_next.Goals as goal

pub returns-then-held-eq0-clause-turn : goal.returns-then-held-eq0-clause-turn
returns-then-held-eq0-clause-turn g c =
    (refl, delivers_itself (g.W.Wire.describes c.args.wire.now) g.W.Wire.fits g.W.Wire.carries c.args.wire.now c.args.wire.now c.args.lane.now.state c.args.lane.now.state refl refl)
