use Rattle.std.proofs.Common.{◌≡◌, ◌++◌, drop, false}
use Rattle.relay_resume.specs.Writing.{inputs_text}
use Rattle.relay_resume.proofs.text.add_inputs.Given as goal

-- the text so far and that of the inputs to come is the text before and that of all inputs
abbrev pub invariant-inputs : goal.invariant-inputs
invariant-inputs l = l.text.items ++ inputs_text l.later (drop l.input-index l.inputs) ≡ l.fn.text.items ++ inputs_text false l.inputs
