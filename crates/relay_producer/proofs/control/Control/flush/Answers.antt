use Rattle.std.proofs.Common.{subst, ◌+◌, ◌≡◌, refl, arith}
use Rattle.relay_action.specs.declared.mail.Body.TheVariants.{Flush}
use Rattle.relay_producer.specs.Ends.{count_sent, IsSentToAll}
use Rattle.relay_producer.specs.States.{ControlState}
use Rattle.relay_producer.proofs.Sending.{control_sends}
use Rattle.relay_producer.proofs.control.Control.flush.Goals as goal

pub returns-clause-sent : goal.returns-clause-sent
returns-clause-sent g c = subst (λ (s : ControlState). IsSentToAll Flush s.ends c.send_to_all.new.ends.items) c.self.view_is c.send_to_all.ensures.sent

pub returns-clause-count : goal.returns-clause-count
returns-clause-count g c = subst (λ (s : ControlState). count_sent s.ends + c.send_to_all.result ≡ count_sent c.send_to_all.new.ends.items) c.self.view_is c.send_to_all.ensures.count

pub invariant_of-self : goal.invariant_of-self
invariant_of-self g c =
    let n = c.send_to_all.ensures.sent.lanes in (
      control_sends Flush c.self.inside.sender c.self.inside.ends.items c.send_to_all.new.ends.items refl c.send_to_all.ensures.sent c.self.invariant.0,
      c.self.invariant.1,
      omega (arith, n, c.self.invariant.2),
    )

pub returns-clause-no_puts : goal.returns-clause-no_puts
returns-clause-no_puts g c =
    (control_sends Flush c.self.inside.sender c.self.inside.ends.items c.send_to_all.new.ends.items refl c.send_to_all.ensures.sent c.self.invariant.0).no_puts
