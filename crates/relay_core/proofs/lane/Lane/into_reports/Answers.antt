use Rattle.std.proofs.Common.{rules}
use Rattle.relay_core.proofs.lane.Lane.into_reports.Goals as goal

pub returns : goal.returns
returns c = search rules
