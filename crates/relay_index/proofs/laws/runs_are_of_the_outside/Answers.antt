use Rattle.relay_index.proofs.Ran.{run_is_of_outside}
use Rattle.relay_index.proofs.laws.runs_are_of_the_outside.Goals as goal

pub returns : goal.returns
returns c = run_is_of_outside
