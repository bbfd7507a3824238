use Rattle.std.proofs.Common.{◌≡◌, vec_len}
use Rattle.relay_run.specs.Places.{AllUntold}
use Rattle.relay_run.proofs.settling.silent_inputs.Given as goal

abbrev pub invariant-inputs : goal.invariant-inputs
invariant-inputs l = record { count : vec_len l.tellings ≡ l.counter; new : AllUntold l.tellings.items }
