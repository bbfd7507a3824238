use Rattle.relay_serve.proofs.Serving.{goes_nowhere}
use Rattle.relay_serve.proofs.worker.serve_next.Goals as goal

pub returns-in-Err-Timeout-clause-on : goal.returns-in-Err-Timeout-clause-on
returns-in-Err-Timeout-clause-on g c = goes_nowhere _ _ _

pub returns-in-Err-Disconnected-clause-on : goal.returns-in-Err-Disconnected-clause-on
returns-in-Err-Disconnected-clause-on g c = goes_nowhere _ _ _
