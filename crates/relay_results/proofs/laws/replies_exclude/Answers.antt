use Rattle.relay_results.proofs.OneReading.{one_reply, no_fault, one_fault}
use Rattle.relay_results.proofs.laws.replies_exclude.Goals as goal

pub returns-clause-one : goal.returns-clause-one
returns-clause-one c = one_reply

pub returns-clause-no_fault : goal.returns-clause-no_fault
returns-clause-no_fault c = no_fault

pub returns-clause-one_fault : goal.returns-clause-one_fault
returns-clause-one_fault c = one_fault
