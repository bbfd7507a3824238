use Rattle.std.proofs.Common.{ap, ◌∙◌}
use Rattle.std.specs.List.{count_by}
use Rattle.relay_producer.specs.declared.ends.OpenEnd.{OpenEnd}
use Rattle.relay_producer.specs.States.{ControlState}
use Rattle.relay_producer.proofs.control.Control.gone.Goals as goal

pub returns : goal.returns
returns c =
    c.count_gone.ensures ∙ ap (count_by (λ (e : OpenEnd). e.gone)) c.deref.ensures.value ∙ ap (λ (s : ControlState). count_by (λ (e : OpenEnd). e.gone) s.ends) c.self.view_is
