use Rattle.std.proofs.Common.{ap, sym}
use Rattle.relay_run.specs.Faults.{exit_of_file}
use Rattle.relay_run.proofs.faults.exit_of_file.Goals as goal

pub returns-in-Open : goal.returns-in-Open
returns-in-Open c = ap exit_of_file (sym c.in-Open.is)
