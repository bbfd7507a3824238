use Rattle.relay_ndjson.proofs.Deciding.{text_decides}
use Rattle.relay_ndjson.proofs.Exclusion.{no_operation_at_fault, no_end_at_fault, no_operation_at_end, one_fault}
use Rattle.relay_ndjson.proofs.OneOperation.{one_operation, no_operation_at_read}
use Rattle.relay_ndjson.proofs.Totality.{always_decided}
use Rattle.relay_ndjson.proofs.laws.faults_exclude.Goals as goal

pub returns-clause-text : goal.returns-clause-text
returns-clause-text c = text_decides

pub returns-clause-operation : goal.returns-clause-operation
returns-clause-operation c = no_operation_at_fault

pub returns-clause-end : goal.returns-clause-end
returns-clause-end c = no_end_at_fault

pub returns-clause-neither : goal.returns-clause-neither
returns-clause-neither c = no_operation_at_end

pub returns-clause-one : goal.returns-clause-one
returns-clause-one c = one_fault

pub returns-clause-front : goal.returns-clause-front
returns-clause-front c = one_operation

pub returns-clause-read : goal.returns-clause-read
returns-clause-read c = no_operation_at_read

pub returns-clause-total : goal.returns-clause-total
returns-clause-total c = always_decided
