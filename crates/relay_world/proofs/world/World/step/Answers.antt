use Rattle.std.proofs.Common.{subst}
use Rattle.relay_world.specs.Headline.{StaysClosed}
use Rattle.relay_world.proofs.Delivering.{worlds_deliver}
use Rattle.relay_world.proofs.Kept.{step_world, step_stays_closed}
use Rattle.relay_world.proofs.world.World.step.Goals as goal

pub invariant_of-self : goal.invariant_of-self
invariant_of-self c = step_world c.play.result c.self.inside.parts c.play.new.parts c.args.event.now c.play.ensures.ok c.play.ensures.unchanged c.self.invariant

pub returns-clause-delivered : goal.returns-clause-delivered
returns-clause-delivered c = worlds_deliver c.play.new.parts (invariant_of-self c)

pub returns-clause-closed : goal.returns-clause-closed
returns-clause-closed c = subst (λ w. StaysClosed w c.play.new.parts) c.self.view_is (step_stays_closed c.play.result c.self.inside.parts c.play.new.parts c.args.event.now c.play.ensures.ok c.play.ensures.unchanged)
