use Rattle.relay_delivery.proofs.Fitting.{send_takes_try, answer_gives_no_try}
use Rattle.relay_delivery.proofs.promises.requests_take_tries.Goals as goal

pub returns-clause-send : goal.returns-clause-send
returns-clause-send c = send_takes_try

pub returns-clause-answer : goal.returns-clause-answer
returns-clause-answer c = answer_gives_no_try
