use Rattle.std.proofs.Common.{subst}
use Rattle.relay_world.specs.Headline.{StaysClosed}
use Rattle.relay_world.proofs.Delivering.{worlds_deliver}
use Rattle.relay_world.proofs.Kept.{run_world, run_stays_closed}
use Rattle.relay_world.proofs.world.World.run.Goals as goal

pub invariant_of-self : goal.invariant_of-self
invariant_of-self c = run_world c.play_all.result c.self.inside.parts c.play_all.new.parts c.args.events.now c.play_all.ensures.ok c.play_all.ensures.err c.self.invariant

pub returns-clause-delivered : goal.returns-clause-delivered
returns-clause-delivered c = worlds_deliver c.play_all.new.parts (invariant_of-self c)

pub returns-clause-closed : goal.returns-clause-closed
returns-clause-closed c = subst (λ w. StaysClosed w c.play_all.new.parts) c.self.view_is (run_stays_closed c.play_all.result c.self.inside.parts c.play_all.new.parts c.args.events.now c.play_all.ensures.ok c.play_all.ensures.err)
