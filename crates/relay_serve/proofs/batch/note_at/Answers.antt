use Rattle.std.proofs.Common.{◌+◌, refl, sym, ap, inr, arith, ◌∙◌, set}
use Rattle.relay_serve.proofs.Noting.{only_at, only_none}
use Rattle.relay_serve.proofs.batch.note_at.Goals as goal

pub returns-then-place-items : goal.returns-then-place-items
returns-then-place-items c = λ first. sym (only_none (first + c.args.place) c.args.end first c.args.items.now (inr (omega (arith, c.if-place-items.true))))

pub returns : goal.returns
returns c = λ first.
    let old = c.index-items-place.result in
    ap (λ p. set c.args.items.now c.args.place p) c.note_one.ensures
    ∙ sym (only_at (first + c.args.place) c.args.end first c.args.place c.args.items.now old refl (omega (arith, c.if-place-items.false)))
