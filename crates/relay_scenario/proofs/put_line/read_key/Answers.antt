use Rattle.relay_scenario.proofs.Refusing.{no_id, no_key}
use Rattle.relay_scenario.proofs.put_line.read_key.Goals as goal

pub returns-in_default-cut-clause-err : goal.returns-in_default-cut-clause-err
returns-in_default-cut-clause-err c = no_id _ _ _ c.in-Some.ensures c.in_default-cut.ensures

pub returns-in-Err-clause-err : goal.returns-in-Err-clause-err
returns-in-Err-clause-err c = rw c.fault_of.ensures (no_key _ _ _ _ _ _ c.in-Some.ensures c.in-Some-cut.ensures c.in-Err.ensures.refused)
