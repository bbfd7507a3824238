use Rattle.relay_delivery.proofs.Fitting.{fresh_fits, clock_fits, take_fits, send_fits, run_fits, answer_fits}
use Rattle.relay_delivery.proofs.promises.calls_are_steps.Goals as goal

pub returns-clause-fresh : goal.returns-clause-fresh
returns-clause-fresh c = fresh_fits

pub returns-clause-clock : goal.returns-clause-clock
returns-clause-clock c = clock_fits

pub returns-clause-take : goal.returns-clause-take
returns-clause-take c = take_fits

pub returns-clause-send : goal.returns-clause-send
returns-clause-send c = send_fits

pub returns-clause-run : goal.returns-clause-run
returns-clause-run c = run_fits

pub returns-clause-answer : goal.returns-clause-answer
returns-clause-answer c = answer_fits
