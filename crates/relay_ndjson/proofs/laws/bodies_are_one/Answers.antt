use Rattle.relay_ndjson.proofs.OneBody.{one_bulk, no_fault_in_bulk, one_bulk_fault}
use Rattle.relay_ndjson.proofs.Versioning.{versioned_text_decides}
use Rattle.relay_ndjson.proofs.Written.{bulk_text_is_bulk}
use Rattle.relay_ndjson.proofs.laws.bodies_are_one.Goals as goal

pub returns-clause-text : goal.returns-clause-text
returns-clause-text c = versioned_text_decides

pub returns-clause-written : goal.returns-clause-written
returns-clause-written c = bulk_text_is_bulk

pub returns-clause-one : goal.returns-clause-one
returns-clause-one c = one_bulk

pub returns-clause-fault : goal.returns-clause-fault
returns-clause-fault c = no_fault_in_bulk

pub returns-clause-first : goal.returns-clause-first
returns-clause-first c = one_bulk_fault
