use Rattle.std.specs.Vec.Iter.{into_iter_items}
use Rattle.relay_run.proofs.Meeting.{TakesInputs}
use Rattle.relay_run.proofs.marking.inputs_of.Given as goal

abbrev pub invariant-tellings : goal.invariant-tellings
invariant-tellings l = TakesInputs l.fn.tellings.items (into_iter_items l.telling-iterator) l.inputs.items
