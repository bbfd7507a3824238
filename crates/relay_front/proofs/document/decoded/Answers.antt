use Rattle.std.proofs.Common.{◌≡◌, ◌∙◌, arith}
use Rattle.std.proofs.lemmas.Grind.{common_steps}
use Rattle.percent_encoding.specs.Percent.{percent_decode}
use Rattle.relay_front.proofs.Decoding.{decoded_text, decoded_none}
use Rattle.relay_front.proofs.document.decoded.Goals as goal

pub returns-in-Ok : goal.returns-in-Ok
returns-in-Ok c =
    let is : c.deref.result.now ≡ percent_decode c.args.part.now =
    grind (arith, common_steps, c.deref.ensures.value, c.in_ok-append_to.ensures.ok, c.new-bytes.ensures.items, c.percent_decode.ensures.bytes, c.as_bytes.ensures.value) in
    decoded_text c.args.part.now c.deref.result.now _ is (c.in_ok-from_str-in-Ok.ensures.ok ∙ c.in-Ok.ensures.cases.0) c.in-Ok.ensures.cases.1

pub returns : goal.returns
returns c =
    let is : c.deref.result.now ≡ percent_decode c.args.part.now =
    grind (arith, common_steps, c.deref.ensures.value, c.in_ok-append_to.ensures.ok, c.new-bytes.ensures.items, c.percent_decode.ensures.bytes, c.as_bytes.ensures.value) in
    decoded_none c.args.part.now c.deref.result.now is c.in-Err.ensures.cases.0
