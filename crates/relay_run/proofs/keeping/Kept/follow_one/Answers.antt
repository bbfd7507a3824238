use Rattle.relay_run.proofs.Writing.{goes_followed}
use Rattle.relay_run.proofs.keeping.Kept.follow_one.Goals as goal

pub invariant_of-self : goal.invariant_of-self
invariant_of-self g c =
    goes_followed c.try_follow.result c.self.inside.marks c.try_follow.new.self c.self.inside.state c.try_follow.ensures.took c.try_follow.ensures.gone c.self.invariant
