use Rattle.relay_scenario.proofs.Refusing.{differ_not, other_action}
use Rattle.relay_scenario.proofs.put_line.read_action.Goals as goal

pub returns-then-ne-clause-err : goal.returns-then-ne-clause-err
returns-then-ne-clause-err c = other_action _ _ _ c.in-Some.ensures (differ_not _ _ c.if-ne.ensures)
