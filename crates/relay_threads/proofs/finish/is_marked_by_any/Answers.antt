use Rattle.std.proofs.Common.{arith, sym, ◌∙◌, ◌<◌, length}
use Rattle.relay_threads.proofs.Firsts.{before_more, before_all, before_one}
use Rattle.relay_threads.proofs.finish.is_marked_by_any.Goals as goal

pub returns-then-is_marked_at : goal.returns-then-is_marked_at
returns-then-is_marked_at c =
    let lt : c.loop-sender.sender < length c.args.rows.now.items = omega (arith, c.args.rows.now.ok.0, c.loop-sender-test.true, c.len-sender-end.ensures) in
    sym (before_one (λ r. r.items) c.args.rows.now.items c.args.lane c.loop-sender.sender c.index.result.now lt c.index.ensures (sym c.is_marked_at.ensures ∙ c.if-is_marked_at.true))

pub loop-sender-preserved : goal.loop-sender-preserved
loop-sender-preserved c =
    let lt : c.loop-sender.sender < length c.args.rows.now.items = omega (arith, c.args.rows.now.ok.0, c.loop-sender-test.true, c.len-sender-end.ensures) in
    before_more (λ r. r.items) c.args.rows.now.items c.args.lane c.loop-sender.sender c.index.result.now c.loop-sender.invariant lt c.index.ensures (sym c.is_marked_at.ensures ∙ c.if-is_marked_at.false)

pub returns : goal.returns
returns c = sym (before_all (λ r. r.items) c.args.rows.now.items c.args.lane c.loop-sender.sender c.loop-sender.invariant (omega (arith, c.args.rows.now.ok.0, c.loop-sender-test.false, c.loop-sender.auto, c.len-sender-end.ensures)))
