use Rattle.relay_target.proofs.Parts.{has_by}
use Rattle.relay_target.proofs.address.has.Goals as goal

pub returns : goal.returns
returns c = has_by c.args.part.now c.args.text.now c.contains.result c.contains.ensures.cases
