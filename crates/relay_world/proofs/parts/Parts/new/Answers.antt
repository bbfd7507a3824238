use Rattle.relay_world.proofs.Starting.{fresh_parts}
use Rattle.relay_world.proofs.parts.Parts.new.Goals as goal

pub invariant_of-result : goal.invariant_of-result
invariant_of-result c = fresh_parts _ c.requires c.in_ok-fresh_desks.ensures c.in_ok-none_accepted.ensures
