use Rattle.std.proofs.Common.{subst}
use Rattle.relay_world.specs.Headline.{Delivered}
use Rattle.relay_world.proofs.Delivering.{worlds_deliver}
use Rattle.relay_world.proofs.world.World.finished.Goals as goal

pub returns-clause-delivered : goal.returns-clause-delivered
returns-clause-delivered c = subst Delivered c.self.view_is (worlds_deliver c.self.inside.parts c.self.invariant)
