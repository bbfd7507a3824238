use Rattle.std.proofs.Common.{subst}
use Rattle.relay_serve.specs.Answering.{HaveServed}
use Rattle.relay_serve.proofs.workers.run_workers.Goals as goal

pub returns-clause-served : goal.returns-clause-served
returns-clause-served g c = subst (λ ws. HaveServed ws c.in_ok-left.left.0.items c.in_ok-left.left.1.items c.in_ok-left.left.2.items) c.in_ok-threads.ensures c.in_ok-left.ensures
