use Rattle.relay_delivery.proofs.Numbered.{takes_on, candidates_on, sends_on, writes_on, settles_on, flies_on, answers_on}
use Rattle.relay_delivery.proofs.promises.requests_are_numbered_on.Goals as goal

pub returns-clause-take : goal.returns-clause-take
returns-clause-take c = takes_on

pub returns-clause-candidates : goal.returns-clause-candidates
returns-clause-candidates c = candidates_on

pub returns-clause-send : goal.returns-clause-send
returns-clause-send c = sends_on

pub returns-clause-writes : goal.returns-clause-writes
returns-clause-writes c = writes_on

pub returns-clause-settle : goal.returns-clause-settle
returns-clause-settle c = settles_on

pub returns-clause-flies : goal.returns-clause-flies
returns-clause-flies c = flies_on

pub returns-clause-answer : goal.returns-clause-answer
returns-clause-answer c = answers_on
