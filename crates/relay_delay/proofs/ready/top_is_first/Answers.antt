use Rattle.std.proofs.Common.{◌<◌, refl, subst}
use Rattle.relay_delay.proofs.Heaping.{top_leads, line_leads}
use Rattle.relay_delay.proofs.ready.top_is_first.Goals as goal

pub returns-in-Some-clause-top : goal.returns-in-Some-clause-top
returns-in-Some-clause-top c = λ yes rises.
    let e = c.in-Some.ensures in
    let heap = c.args.heap.now in
    top_leads c.in-Some.top.now heap.data.items c.args.line.now.items (subst (λ n. 0 < n) heap.data.ok.0 (e.variant.0 refl)) e.lookup (c.starts_above.ensures.all yes rises)

pub returns-in-Some-clause-line : goal.returns-in-Some-clause-line
returns-in-Some-clause-line c = λ no order.
    line_leads c.in-Some.top.now c.args.heap.now.data.items c.args.line.now.items (c.starts_above.ensures.some no) (c.in-Some.ensures.greatest order)
