use Rattle.relay_results.proofs.Excluded.{refused_whatever}
use Rattle.relay_results.proofs.laws.refusals_stay.Goals as goal

pub returns : goal.returns
returns c = refused_whatever
