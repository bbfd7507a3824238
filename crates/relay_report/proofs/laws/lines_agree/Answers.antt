use Rattle.relay_report.proofs.ReadBack.{name_read_back}
use Rattle.relay_report.proofs.Taking.{operation_of}
use Rattle.relay_report.proofs.laws.lines_agree.Goals as goal

pub returns-clause-names : goal.returns-clause-names
returns-clause-names c = name_read_back

pub returns-clause-operations : goal.returns-clause-operations
returns-clause-operations c = operation_of
