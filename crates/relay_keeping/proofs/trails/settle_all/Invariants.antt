use Rattle.std.proofs.Common.{◌≡◌, ℕ, List, ◌++◌, take}
use Rattle.relay_action.specs.declared.operation.OpName.{OpName}
use Rattle.relay_resume.specs.declared.mark.Place.{Place}
use Rattle.relay_keeping.specs.Steps.{AreTrails, starts_of}
use Rattle.relay_keeping.proofs.trails.settle_all.Given as goal

abbrev pub invariant-names : goal.invariant-names
invariant-names l = record {
  trails : (puts : ℕ → List Place) (before : List OpName) → AreTrails puts before l.fn.inputs.items → AreTrails puts (before ++ take l.name-index l.names) l.inputs.items;
  starts : starts_of l.inputs.items ≡ starts_of l.fn.inputs.items;
}
