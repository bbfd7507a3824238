use Rattle.relay_core.proofs.Tying.{fresh_fits, take_fits, request_fits, run_fits, answer_fits}
use Rattle.relay_core.proofs.laws.calls_keep_fitting.Goals as goal

pub returns-clause-fresh : goal.returns-clause-fresh
returns-clause-fresh c = fresh_fits

pub returns-clause-take : goal.returns-clause-take
returns-clause-take c = take_fits

pub returns-clause-request : goal.returns-clause-request
returns-clause-request c = request_fits

pub returns-clause-run : goal.returns-clause-run
returns-clause-run c = run_fits

pub returns-clause-answer : goal.returns-clause-answer
returns-clause-answer c = answer_fits
