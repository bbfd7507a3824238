use Rattle.relay_delivery.proofs.Excluded.{assigns_two, not_twice}
use Rattle.relay_delivery.proofs.laws.assignments_differ.Goals as goal

pub returns-clause-deals : goal.returns-clause-deals
returns-clause-deals c = assigns_two

pub returns-clause-twice : goal.returns-clause-twice
returns-clause-twice c = not_twice
