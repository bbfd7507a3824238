use Rattle.relay_results.proofs.Excluded.{states_stored}
use Rattle.relay_results.proofs.Fates.{honest_entry}
use Rattle.relay_results.proofs.laws.answers_exclude.Goals as goal

pub returns-clause-entry : goal.returns-clause-entry
returns-clause-entry c = honest_entry

pub returns-clause-stated : goal.returns-clause-stated
returns-clause-stated c = states_stored
