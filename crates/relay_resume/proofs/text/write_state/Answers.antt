use Rattle.std.proofs.Common.{◌++◌, ap, ◌∙◌, codes, decimal, false}
use Rattle.relay_resume.specs.Writing.{inputs_text}
use Rattle.relay_resume.proofs.Writing.{state_joined}
use Rattle.relay_resume.proofs.text.write_state.Goals as goal

pub returns : goal.returns
returns c =
    let s = c.args.state.now in
    state_joined s c.add_number_after.new.text.items c.extend_from_slice.new.self.items c.add_inputs.new.text.items c.extend_from_slice-2.new.self.items
    (c.in_ok-add_number_after.ensures ∙ ap (λ t. t ++ (codes "{\"epoch\":" ++ decimal s.epoch)) c.new-text.ensures.items)
    c.in_ok-extend_from_slice.ensures.items
    (c.in_ok-add_inputs.ensures ∙ ap (λ is. c.extend_from_slice.new.self.items ++ inputs_text false is) c.as_slice.ensures)
    c.in_ok-extend_from_slice-2.ensures.items
