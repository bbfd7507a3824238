use Rattle.std.proofs.Common.{ap, ◌∙◌}
use Rattle.std.specs.List.{count_by}
use Rattle.relay_producer.specs.Ends.{is_gone}
use Rattle.relay_producer.specs.States.{ClosedProducerState}
use Rattle.relay_producer.proofs.Counting.{counts_none}
use Rattle.relay_producer.proofs.producer.ClosedProducer.gone.Goals as goal

pub returns-clause-count : goal.returns-clause-count
returns-clause-count c = c.count_closed_gone.ensures ∙ ap (count_by is_gone) c.deref.ensures.value ∙ ap (λ (s : ClosedProducerState). count_by is_gone s.ends) c.self.view_is

pub returns-clause-none : goal.returns-clause-none
returns-clause-none c =
    counts_none c.args.self.now.ends c.count_closed_gone.result (c.count_closed_gone.ensures ∙ ap (count_by is_gone) c.deref.ensures.value ∙ ap (λ (s : ClosedProducerState). count_by is_gone s.ends) c.self.view_is)
