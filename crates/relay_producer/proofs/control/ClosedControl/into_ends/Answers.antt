use Rattle.std.proofs.Common.{ap, subst}
use Rattle.relay_producer.specs.Ends.{closed_puts}
use Rattle.relay_producer.specs.Puts.{HaveNoPuts}
use Rattle.relay_producer.specs.States.{ClosedControlState}
use Rattle.relay_producer.proofs.control.ClosedControl.into_ends.Goals as goal

pub returns-clause-ends : goal.returns-clause-ends
returns-clause-ends c = ap (λ (s : ClosedControlState). s.ends) c.self.view_is

pub returns-clause-no_puts : goal.returns-clause-no_puts
returns-clause-no_puts c = subst (λ (s : ClosedControlState). HaveNoPuts (closed_puts s.ends)) c.self.view_is c.self.invariant.no_puts
