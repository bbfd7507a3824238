use Rattle.relay_index.proofs.Repeated.{applied_is_stored, deleted_keeps_version}
use Rattle.relay_index.proofs.laws.runs_store.Goals as goal

pub returns-clause-stored : goal.returns-clause-stored
returns-clause-stored c = applied_is_stored

pub returns-clause-deleted : goal.returns-clause-deleted
returns-clause-deleted c = deleted_keeps_version
