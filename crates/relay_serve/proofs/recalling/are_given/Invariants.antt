use Rattle.std.proofs.Common.{◌≡◌, ◌<◌, ℕ}
use Rattle.std.specs.Prelude.{Some, slice_get}
use Rattle.relay_serve.specs.declared.entry.Entry.{Entry}
use Rattle.relay_serve.specs.Remembering.{WasGiven}
use Rattle.relay_serve.proofs.recalling.are_given.Given as goal

-- the first of them were given
abbrev pub invariant-entries : goal.invariant-entries
invariant-entries l = (k : ℕ) → k < l.entry-index → (e : Entry) → slice_get l.entries k ≡ Some e → WasGiven l.spoken e
