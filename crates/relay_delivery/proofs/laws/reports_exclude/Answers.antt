use Rattle.relay_delivery.proofs.Excluded.{none_twice, none_untaken}
use Rattle.relay_delivery.proofs.laws.reports_exclude.Goals as goal

pub returns-clause-twice : goal.returns-clause-twice
returns-clause-twice c = none_twice

pub returns-clause-untaken : goal.returns-clause-untaken
returns-clause-untaken c = none_untaken
