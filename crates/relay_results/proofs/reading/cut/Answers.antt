use Rattle.std.proofs.Common.{rules}
use Rattle.relay_results.proofs.reading.cut.Goals as goal

pub returns : goal.returns
returns c = search rules
