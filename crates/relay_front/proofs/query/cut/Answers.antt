use Rattle.std.proofs.Common.{arith}
use Rattle.relay_front.proofs.Splitting.{cut_by, cut_shorter}
use Rattle.relay_front.proofs.query.cut.Goals as goal

pub returns-clause-parts : goal.returns-clause-parts
returns-clause-parts c = cut_by 38 c.args.query.now c.split_once.result c.split_once.ensures.cases (omega arith)

pub returns-clause-shorter : goal.returns-clause-shorter
returns-clause-shorter c = cut_shorter 38 c.args.query.now c.split_once.result c.split_once.ensures.cases (omega arith)
