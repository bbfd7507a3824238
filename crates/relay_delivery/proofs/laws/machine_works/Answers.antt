use Rattle.relay_delivery.proofs.Working.{machine_works}
use Rattle.relay_delivery.proofs.laws.machine_works.Goals as goal

pub returns : goal.returns
returns c = machine_works
