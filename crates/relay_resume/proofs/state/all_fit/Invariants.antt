use Rattle.std.proofs.Common.{◌≡◌, drop}
use Rattle.std.specs.List.{list_all}
use Rattle.relay_resume.specs.States.{input_fits}
use Rattle.relay_resume.proofs.state.all_fit.Given as goal

-- those to come decide
abbrev pub invariant-inputs : goal.invariant-inputs
invariant-inputs l = list_all input_fits (drop l.input-index l.inputs) ≡ list_all input_fits l.inputs
