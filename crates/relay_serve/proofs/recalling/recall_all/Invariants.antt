use Rattle.std.proofs.Common.{◌≡◌, ◌<◌, ℕ}
use Rattle.std.specs.Prelude.{Some, slice_get}
use Rattle.relay_serve.specs.declared.entry.Spoken.{Spoken}
use Rattle.relay_serve.specs.Remembering.{AreGiven}
use Rattle.relay_serve.proofs.recalling.recall_all.Given as goal

-- what the first of them answered was given
abbrev pub invariant-workers : goal.invariant-workers
invariant-workers l = (k : ℕ) → k < l.one-index → (s : Spoken) → slice_get l.spoken k ≡ Some s → AreGiven l.spoken s.repeated.items
