use Rattle.relay_delivery.proofs.Counts.{counts_always, counts_where}
use Rattle.relay_delivery.proofs.laws.counts_follow_answers.Goals as goal

pub returns-clause-always : goal.returns-clause-always
returns-clause-always c = counts_always

pub returns-clause-fits : goal.returns-clause-fits
returns-clause-fits c = counts_where
