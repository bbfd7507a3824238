use Rattle.std.proofs.Common.{◌≡◌, ◌++◌, map}
use Rattle.std.specs.Vec.Iter.{into_iter_items}
use Rattle.relay_run.specs.Places.{AllUntold, AreNewTellings, input_teller}
use Rattle.relay_run.specs.Settling.{teller_of}
use Rattle.relay_run.proofs.settling.new_tellings.Given as goal

-- the first ones tell, and by the others nothing was told
abbrev pub invariant-inputs : goal.invariant-inputs
invariant-inputs l = record {
  others : AreNewTellings (into_iter_items l.input-iterator);
  same : map teller_of l.tellings.items ++ map input_teller (into_iter_items l.input-iterator) ≡ map input_teller l.fn.inputs.items;
  new : AllUntold l.tellings.items;
}
