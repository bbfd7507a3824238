use Rattle.std.proofs.Common.{arith, sym, ◌∙◌, ◌<◌, length}
use Rattle.relay_threads.proofs.Firsts.{gone_here, gone_past}
use Rattle.relay_threads.proofs.finish.is_marked_at.Goals as goal

pub returns-then-lane-len : goal.returns-then-lane-len
returns-then-lane-len c =
    let lt : c.args.lane < length c.args.row.now.items = omega (arith, c.args.row.now.ok.0, c.if-lane-len.true, c.len.ensures) in
    c.is_marked.ensures ∙ sym (gone_here c.args.row.now.items c.args.lane c.index.result.now lt c.index.ensures)

pub returns-else-lane-len : goal.returns-else-lane-len
returns-else-lane-len c = sym (gone_past c.args.row.now.items c.args.lane (λ lt. absurd (omega (arith, lt, c.args.row.now.ok.0, c.if-lane-len.false, c.len.ensures))))
