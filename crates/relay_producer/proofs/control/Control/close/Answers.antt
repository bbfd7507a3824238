use Rattle.std.proofs.Common.{ap, ◌∙◌}
use Rattle.relay_producer.specs.Ends.{open_puts, identities}
use Rattle.relay_producer.specs.States.{ControlState}
use Rattle.relay_producer.proofs.Closing.{closed_identities, control_closed}
use Rattle.relay_producer.proofs.control.Control.close.Goals as goal

pub invariant_of-result : goal.invariant_of-result
invariant_of-result g c = control_closed c.self.inside.sender c.self.inside.ends.items c.close_all-ends.result.items c.close_all-ends.ensures c.self.invariant.0

pub returns-clause-ends : goal.returns-clause-ends
returns-clause-ends g c =
    closed_identities c.self.inside.ends.items c.close_all-ends.result.items c.close_all-ends.ensures ∙ ap (λ (s : ControlState). identities (open_puts s.ends)) c.self.view_is

pub returns-clause-no_puts : goal.returns-clause-no_puts
returns-clause-no_puts g c =
    (control_closed c.self.inside.sender c.self.inside.ends.items c.close_all-ends.result.items c.close_all-ends.ensures c.self.invariant.0).no_puts
