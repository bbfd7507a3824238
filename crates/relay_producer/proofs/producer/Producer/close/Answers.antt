use Rattle.std.proofs.Common.{sym, ap, subst, ◌∙◌}
use Rattle.relay_producer.specs.Ends.{open_puts, identities}
use Rattle.relay_producer.specs.Puts.{HasPut}
use Rattle.relay_producer.specs.States.{ProducerState}
use Rattle.relay_producer.proofs.Closing.{closed_identities, put_kept, producer_closed}
use Rattle.relay_producer.proofs.producer.Producer.close.Goals as goal

pub invariant_of-result : goal.invariant_of-result
invariant_of-result g c = producer_closed c.self.inside.epoch c.self.inside.producer c.self.inside.count c.self.inside.ends.items c.close_all-ends.result.items c.close_all-ends.ensures c.self.invariant.0

pub returns-clause-ends : goal.returns-clause-ends
returns-clause-ends g c =
    closed_identities c.self.inside.ends.items c.close_all-ends.result.items c.close_all-ends.ensures ∙ ap (λ (s : ProducerState). identities (open_puts s.ends)) c.self.view_is

pub returns-clause-put : goal.returns-clause-put
returns-clause-put g c ops h =
    put_kept c.self.inside.producer c.self.inside.count c.self.inside.ends.items c.close_all-ends.result.items ops c.close_all-ends.ensures
    (subst (λ (s : ProducerState). HasPut s.producer s.put (open_puts s.ends) ops) (sym c.self.view_is) h)
