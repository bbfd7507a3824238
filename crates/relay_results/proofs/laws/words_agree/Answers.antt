use Rattle.relay_results.proofs.Same.{names_equal}
use Rattle.relay_results.proofs.laws.words_agree.Goals as goal

pub returns-clause-names : goal.returns-clause-names
returns-clause-names c = names_equal
