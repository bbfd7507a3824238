use Rattle.std.proofs.Common.{arith, sym, ◌∙◌}
use Rattle.relay_json.proofs.Words.{word_first}
use Rattle.relay_json.proofs.plain.after_word.Goals as goal

pub returns-then-from_le_bytes : goal.returns-then-from_le_bytes
returns-then-from_le_bytes c =
    let n = c.in_ok-first.ensures.cases.2 in
    word_first c.args.bytes.now c.in_ok-first.first.now c.args.word.now c.in_ok-first.rest.now c.in_ok-first.ensures.cases.0 c.in_ok-first.ensures.cases.1 (omega (arith, n)) c.told-word c.fits-word c.type_inv.bytes
    (sym c.from_le_bytes.ensures ∙ c.if-from_le_bytes.true ∙ c.from_le_bytes-2.ensures)
