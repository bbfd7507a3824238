use Rattle.std.proofs.Common.{ap, ◌∙◌}
use Rattle.std.specs.List.{count_by}
use Rattle.relay_producer.specs.declared.ends.OpenEnd.{OpenEnd}
use Rattle.relay_producer.specs.States.{ProducerState}
use Rattle.relay_producer.proofs.producer.Producer.gone.Goals as goal

pub returns-clause-count : goal.returns-clause-count
returns-clause-count c =
    c.count_gone.ensures ∙ ap (count_by (λ (e : OpenEnd). e.gone)) c.deref.ensures.value ∙ ap (λ (s : ProducerState). count_by (λ (e : OpenEnd). e.gone) s.ends) c.self.view_is
