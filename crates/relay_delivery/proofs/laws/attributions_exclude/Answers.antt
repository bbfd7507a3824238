use Rattle.relay_delivery.proofs.Excluded.{other_document, unaccepted}
use Rattle.relay_delivery.proofs.laws.attributions_exclude.Goals as goal

pub returns-clause-document : goal.returns-clause-document
returns-clause-document c = other_document

pub returns-clause-unaccepted : goal.returns-clause-unaccepted
returns-clause-unaccepted c = unaccepted
