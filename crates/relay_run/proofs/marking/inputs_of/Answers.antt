use Rattle.std.specs.Vec.Iter.{into_iter_items}
use Rattle.relay_run.proofs.Meeting.{takes_input}
use Rattle.relay_run.proofs.marking.inputs_of.Goals as goal

pub tellings-preserved : goal.tellings-preserved
tellings-preserved c =
    takes_input c.args.tellings.items (into_iter_items c.tellings.telling-iterator) (into_iter_items c.next.new.self) c.tellings.inputs.items c.push.new.self.items c.in-Some.telling c.into_input.result c.tellings.invariant c.in-Some.ensures.steps.0 c.in_ok-push.ensures.items
    c.into_input.ensures.teller c.into_input.ensures.first
