use Rattle.std.proofs.Common.{◌≡◌, ◌∙◌, ◌+◌, [], sym, ap, arith, drop}
use Rattle.std.specs.Prelude.{map, slice_get, option_map}
use Rattle.relay_batch.specs.Tallies.{tally_answer, after_tally}
use Rattle.relay_held.specs.Operations.{candidate_of}
use Rattle.relay_held.specs.Queues.{Holding, candidates_kept}
use Rattle.relay_core.specs.Counting.{counted_after, closes_count}
use Rattle.relay_core.specs.Walk.{item_of_kept}
use Rattle.relay_core.proofs.Asking.{asked, looked_one, same_but, items_next, not_closed}
use Rattle.relay_core.proofs.Counting.{count_closed, count_on}
use Rattle.relay_core.proofs.Going.{none_left}
use Rattle.relay_core.proofs.count.count_from.Goals as goal

pub returns-in-Closed-clause-tally : goal.returns-in-Closed-clause-tally
returns-in-Closed-clause-tally c =
    let cs = candidates_kept c.args.held.now.list c.args.held.now.clock in
    let v = c.candidates.invariant in
    let a = asked c.candidates.held (record c.args.held.now { looks = c.candidates.held.looks }) c.candidates.at c.in-Some.one c.candidate.result v.held c.candidate.ensures.found c.in-Some.is in
    let item = c.item_of.ensures ∙ a.item in
    let closed = count_closed (item_of_kept a.one) (map item_of_kept (drop (c.candidates.at + 1) cs)) c.candidates.tally c.offer.new.self c.offer.result
    (c.offer.ensures.answer ∙ ap (λ i. tally_answer i c.candidates.tally) item) c.in-Closed.is (c.offer.ensures.after ∙ ap (λ i. after_tally i c.candidates.tally) item) in
    sym closed.0 ∙ ap (λ is. counted_after is c.candidates.tally) (sym (items_next cs c.candidates.at a.one a.here)) ∙ v.tally

pub returns-in-Closed-clause-closed : goal.returns-in-Closed-clause-closed
returns-in-Closed-clause-closed c =
    let cs = candidates_kept c.args.held.now.list c.args.held.now.clock in
    let v = c.candidates.invariant in
    let a = asked c.candidates.held (record c.args.held.now { looks = c.candidates.held.looks }) c.candidates.at c.in-Some.one c.candidate.result v.held c.candidate.ensures.found c.in-Some.is in
    let item = c.item_of.ensures ∙ a.item in
    let closed = count_closed (item_of_kept a.one) (map item_of_kept (drop (c.candidates.at + 1) cs)) c.candidates.tally c.offer.new.self c.offer.result
    (c.offer.ensures.answer ∙ ap (λ i. tally_answer i c.candidates.tally) item) c.in-Closed.is (c.offer.ensures.after ∙ ap (λ i. after_tally i c.candidates.tally) item) in
    sym closed.1 ∙ ap (λ is. closes_count is c.candidates.tally) (sym (items_next cs c.candidates.at a.one a.here)) ∙ v.closed

pub candidates-preserved : goal.candidates-preserved
candidates-preserved c =
    let cs = candidates_kept c.args.held.now.list c.args.held.now.clock in
    let v = c.candidates.invariant in
    let a = asked c.candidates.held (record c.args.held.now { looks = c.candidates.held.looks }) c.candidates.at c.in-Some.one c.candidate.result v.held c.candidate.ensures.found c.in-Some.is in
    let item = c.item_of.ensures ∙ a.item in
    let items = items_next cs c.candidates.at a.one a.here in
    let on = count_on (item_of_kept a.one) (map item_of_kept (drop (c.candidates.at + 1) cs)) c.candidates.tally c.offer.new.self c.offer.result
    (c.offer.ensures.answer ∙ ap (λ i. tally_answer i c.candidates.tally) item) (not_closed c.offer.result c.in-Busy.is) (c.offer.ensures.after ∙ ap (λ i. after_tally i c.candidates.tally) item) in
    let n = looked_one c.candidates.held c.candidate.new.self c.candidate.result c.in-Some.one c.candidate.ensures.same c.in-Some.is in
    let l = v.looks in let r = v.rise in
    record {
      held = same_but c.args.held.now c.candidates.held c.candidate.new.self _ v.held c.candidate.ensures.same;
      looks = omega (arith, n.most, l);
      rise = omega (arith, n.rise, r);
      tally = sym on.0 ∙ ap (λ is. counted_after is c.candidates.tally) (sym items) ∙ v.tally;
      closed = sym on.1 ∙ ap (λ is. closes_count is c.candidates.tally) (sym items) ∙ v.closed;
    }

-- none of them is left
all_counted : (c : goal.In_default) → drop c.candidates.at (candidates_kept c.args.held.now.list c.args.held.now.clock) ≡ []
all_counted c =
    none_left (candidates_kept c.args.held.now.list c.args.held.now.clock) c.candidates.at
    (sym c.in_default.is ∙ c.candidate.ensures.found ∙ ap (λ (s : Holding). option_map candidate_of (slice_get (candidates_kept s.list s.clock) c.candidates.at)) c.candidates.invariant.held)

pub returns-in_default-clause-tally : goal.returns-in_default-clause-tally
returns-in_default-clause-tally c = ap (λ xs. counted_after (map item_of_kept xs) c.candidates.tally) (sym (all_counted c)) ∙ c.candidates.invariant.tally

pub returns-in_default-clause-closed : goal.returns-in_default-clause-closed
returns-in_default-clause-closed c = ap (λ xs. closes_count (map item_of_kept xs) c.candidates.tally) (sym (all_counted c)) ∙ c.candidates.invariant.closed
