use Rattle.relay_holding_tests.proofs.DelayUnder.{under_none}
use Rattle.relay_holding_tests.proofs.delay.desk.empty_desk.Goals as goal

pub invariant_of-result : goal.invariant_of-result
invariant_of-result c = record { under = under_none 1 c.new.result 0 0 c.new.ensures; apart = tt }
