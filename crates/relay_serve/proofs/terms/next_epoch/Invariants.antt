use Rattle.std.proofs.Common.{◌≡◌}
use Rattle.relay_serve.proofs.terms.next_epoch.Given as goal

-- no epoch was given
abbrev pub invariant-tries : goal.invariant-tries
invariant-tries g l = l.epochs.floor ≡ l.fn.epochs.floor
