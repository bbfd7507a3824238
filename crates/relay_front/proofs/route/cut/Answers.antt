use Rattle.std.proofs.Common.{arith}
use Rattle.relay_front.proofs.Splitting.{cut_by}
use Rattle.relay_front.proofs.route.cut.Goals as goal

pub returns : goal.returns
returns c = cut_by 47 c.args.path.now c.split_once.result c.split_once.ensures.cases (omega arith)
