use Rattle.std.proofs.Common.{◌++◌, ap, ◌∙◌, codes}
use Rattle.json.specs.Print.{quoted}
use Rattle.relay_resume.proofs.Writing.{input_joined}
use Rattle.relay_resume.proofs.text.add_input.Goals as goal

pub returns : goal.returns
returns c =
    input_joined c.extend_from_slice.result c.args.input.now c.args.text.now.items c.add_text_after.new.text.items c.add_number_after.new.text.items c.add_number_after-2.new.text.items
    c.add_number_after-3.new.text.items c.add_digest_after.new.text.items c.add_number_after-4.new.text.items c.add_number_after-5.new.text.items c.add_number_after-6.new.text.items
    c.extend_from_slice.new.self.items
    (c.in_ok-add_text_after.ensures ∙ ap (λ p. c.args.text.now.items ++ (codes "{\"path\":" ++ quoted p)) c.as_str.ensures)
    c.in_ok-add_number_after.ensures c.in_ok-add_number_after-2.ensures c.in_ok-add_number_after-3.ensures c.in_ok-add_digest_after.ensures
    c.in_ok-add_number_after-4.ensures c.in_ok-add_number_after-5.ensures c.in_ok-add_number_after-6.ensures c.extend_from_slice.ensures.items
