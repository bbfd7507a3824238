use Rattle.std.proofs.Common.{arith, sym, subst, ap, ◌∙◌, List, [], length}
use Rattle.std.proofs.lemmas.List.{length-map}
use Rattle.relay_queue.specs.Ends.{SenderEnd}
use Rattle.relay_producer.specs.declared.ends.OpenEnd.{OpenEnd}
use Rattle.relay_producer.specs.Ends.{open_end, open_puts}
use Rattle.relay_producer.specs.Puts.{HasPut}
use Rattle.relay_producer.specs.States.{IsProducer}
use Rattle.relay_producer.proofs.Opening.{opened_puts, has_none, is_producer}
use Rattle.relay_producer.proofs.producer.Producer.new.Goals as goal

pub invariant_of-result : goal.invariant_of-result
invariant_of-result c =
    let e = c.in_ok-ends.ensures in (
      subst (λ (ends : List OpenEnd). IsProducer (record { epoch = c.args.epoch; producer = c.args.producer; put = 0; ends = ends })) (sym e) (is_producer c.args.epoch c.args.producer c.args.puts.items c.requires.lanes c.requires.fresh),
      c.in_ok-closed.ensures.items,
      omega (arith, ap length e, length-map c.args.puts.items open_end, c.in_ok-closed.ensures.exact),
    )

pub returns-clause-puts : goal.returns-clause-puts
returns-clause-puts c = ap open_puts c.in_ok-ends.ensures ∙ opened_puts c.args.puts.items

pub returns-clause-none : goal.returns-clause-none
returns-clause-none c =
    subst (λ (puts : List SenderEnd). HasPut c.args.producer 0 puts []) (sym (ap open_puts c.in_ok-ends.ensures ∙ opened_puts c.args.puts.items)) (has_none c.args.producer c.args.puts.items c.requires.fresh)
