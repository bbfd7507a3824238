use Rattle.std.proofs.Common.{get_or, set, length, ap, ◌∙◌, arith}
use Rattle.relay_serve.specs.Batches.{lost}
use Rattle.relay_serve.proofs.Noting.{lost_more, lost_length, lost_all}
use Rattle.relay_serve.proofs.batch.lose_in.Goals as goal

pub items-preserved : goal.items-preserved
items-preserved c =
    let lane = c.args.lane in
    let old = c.item-item.result in
    let place = c.items.item-index in
    let i = c.items.invariant in
    let len = ap length i ∙ lost_length lane place c.args.items.now in
    ap (λ p. set c.items.item-items place p) c.lose_one.ensures
    ∙ ap (λ ps. set ps place (lost lane (get_or ps place old))) i
    ∙ lost_more lane place c.args.items.now old (omega (arith, c.items-test.true, len))

pub returns : goal.returns
returns c = λ first. c.items.invariant ∙ lost_all c.args.lane c.items.item-index first c.args.items.now (omega (arith, c.items-test.false))
