use Rattle.std.proofs.Common.{◌∙◌, [], ap}
use Rattle.relay_batch.specs.Gathering.{Gathering}
use Rattle.relay_held.specs.Queues.{Holding, candidates_kept, is_candidate_kept}
use Rattle.relay_held.proofs.Merging.{rises_filter}
use Rattle.relay_core.specs.Counting.{counted_after, closes_count}
use Rattle.relay_core.specs.Rule.{gathering_after, goes}
use Rattle.relay_core.specs.Walk.{items_of_kept}
use Rattle.relay_core.proofs.Counting.{counted_seen, goes_some}
use Rattle.relay_core.proofs.Entering.{below_none}
use Rattle.relay_core.proofs.count.is_due.Goals as goal

pub returns-clause-due : goal.returns-clause-due
returns-clause-due c =
    let hs = c.args.held.now.list in
    let clock = c.args.held.now.clock in
    let cs = candidates_kept hs clock in
    let is = items_of_kept hs clock hs in
    let none : Gathering = record { limits = c.args.limits; items = [] } in
    let g = gathering_after is none in
    let k = c.count_from-counted.ensures in
    let seen = counted_seen cs none (rises_filter (is_candidate_kept hs clock) hs c.requires) (below_none cs) in
    let same = ap (λ (h : Holding). h.clock) k.held in
    c.is_batch_due.ensures g (k.tally ∙ ap (counted_after is) c.new.ensures ∙ seen.0)
    ∙ (let now = c.clock.ensures ∙ same in let shut = k.closed ∙ ap (closes_count is) c.new.ensures ∙ seen.1 in λ j. goes (now j) c.args.mark c.args.all_closed g (shut j))
    ∙ goes_some clock c.args.mark c.args.all_closed c.args.limits is
