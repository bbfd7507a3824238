use Rattle.std.proofs.Common.{arith, sym, subst, ap, ◌∙◌, List, length}
use Rattle.std.proofs.lemmas.List.{length-map}
use Rattle.relay_producer.specs.declared.ends.OpenEnd.{OpenEnd}
use Rattle.relay_producer.specs.Ends.{open_end, open_puts}
use Rattle.relay_producer.specs.States.{IsControl}
use Rattle.relay_producer.proofs.Opening.{opened_puts, is_control, fresh_no_puts}
use Rattle.relay_producer.specs.Puts.{HaveNoPuts}
use Rattle.relay_producer.proofs.control.Control.new.Goals as goal

pub invariant_of-result : goal.invariant_of-result
invariant_of-result c =
    let e = c.in_ok-ends.ensures in (
      subst (λ (ends : List OpenEnd). IsControl (record { sender = c.args.sender; ends = ends })) (sym e) (is_control c.args.sender c.args.puts.items c.requires.lanes c.requires.fresh),
      c.in_ok-closed.ensures.items,
      omega (arith, ap length e, length-map c.args.puts.items open_end, c.in_ok-closed.ensures.exact),
    )

pub returns-clause-puts : goal.returns-clause-puts
returns-clause-puts c = ap open_puts c.in_ok-ends.ensures ∙ opened_puts c.args.puts.items

pub returns-clause-no_puts : goal.returns-clause-no_puts
returns-clause-no_puts c =
    subst HaveNoPuts (sym (ap open_puts c.in_ok-ends.ensures ∙ opened_puts c.args.puts.items)) (fresh_no_puts c.args.sender c.args.puts.items c.requires.fresh)
