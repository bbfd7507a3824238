use Rattle.std.proofs.Common.{rules}
use Rattle.relay_scenario.proofs.Cutting.{cut_begins}
use Rattle.relay_scenario.proofs.words.cut.Goals as goal

pub returns : goal.returns
returns c = cut_begins c.args.text.now c.split_once.result (search rules)
