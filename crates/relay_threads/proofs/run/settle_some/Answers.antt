use Rattle.relay_lane.specs.Turns.{collects}
use Rattle.relay_threads.proofs.ToldOnce.{works_told}
use Rattle.relay_threads.proofs.run.settle_some.Goals as goal

pub returns-then-awaits_answer-clause-told : goal.returns-then-awaits_answer-clause-told
returns-then-awaits_answer-clause-told g c =
    works_told (g.W.Wire.describes c.args.wire.now) g.W.Wire.fits g.W.Wire.carries collects c.args.wire.now c.settle_next.new.wire c.args.lane.now.state c.settle_next.new.lane.state c.settle_next.ensures.worked c.settle_next.ensures.stays
