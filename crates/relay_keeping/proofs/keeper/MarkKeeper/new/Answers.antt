use Rattle.relay_keeping.proofs.Founding.{keeps_new}
use Rattle.relay_keeping.proofs.keeper.MarkKeeper.new.Goals as goal

pub invariant_of-result : goal.invariant_of-result
invariant_of-result c = keeps_new c.in_ok-follow_from.field-0.items c.args.take.taken c.new.result.items c.requires c.new.ensures c.in_ok-follow_from.ensures.trails
