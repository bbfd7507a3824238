use Rattle.relay_target.proofs.Parts.{splits_by}
use Rattle.relay_target.proofs.address.split_port.Goals as goal

pub returns : goal.returns
returns c = splits_by (λ p. (p.0.now, p.1.now)) c.args.address.now c.rsplit_once.result c.rsplit_once.ensures.cases
