use Rattle.std.proofs.Common.{ap}
use Rattle.relay_producer.specs.States.{ClosedProducerState}
use Rattle.relay_producer.proofs.producer.ClosedProducer.into_ends.Goals as goal

pub returns-clause-ends : goal.returns-clause-ends
returns-clause-ends c = ap (λ (s : ClosedProducerState). s.ends) c.self.view_is
