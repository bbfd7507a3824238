use Rattle.std.proofs.Common.{◌≡◌, vec_len}
use Rattle.relay_run.specs.Saving.{AreUntold}
use Rattle.relay_run.proofs.settling.silent_lanes.Given as goal

abbrev pub invariant-lanes : goal.invariant-lanes
invariant-lanes l = record { count : vec_len l.tellings ≡ l.counter; new : AreUntold l.tellings.items }
