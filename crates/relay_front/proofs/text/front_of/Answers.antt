use Rattle.std.proofs.Common.{rules}
use Rattle.relay_front.proofs.text.front_of.Goals as goal

pub returns : goal.returns
returns c = search rules
