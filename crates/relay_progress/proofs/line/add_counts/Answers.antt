use Rattle.std.proofs.Common.{codes}
use Rattle.std.specs.Prelude.{decimal}
use Rattle.relay_progress.proofs.Texts.{two_more, with_count}
use Rattle.relay_progress.proofs.line.add_counts.Goals as goal

pub returns : goal.returns
returns c =
    let text = c.args.text.now.items in
    let p = c.args.progress.now in
    let second = two_more _ _ text _ (codes " operations in ") (decimal p.requests) c.in_ok-add_count-2.ensures c.in_ok-add_count.ensures in
    let third = two_more _ _ text _ (codes " requests, settled ") (decimal p.settled) c.in_ok-add_count-3.ensures second in
    let fourth = two_more _ _ text _ (codes ", refused ") (decimal p.refused) c.in_ok-add_count-4.ensures third in
    let fifth = two_more _ _ text _ (codes ", repeats ") (decimal p.repeats) c.in_ok-add_count-5.ensures fourth in
    with_count c.add_count-6.result _ _ text _ (codes ", out ") (decimal p.out) c.add_count-6.ensures fifth
