use Rattle.std.proofs.Common.{◌≡◌, ◌∙◌, ◌+◌, ◌∷◌, ℕ, List, [], sym, ap, subst, arith, drop}
use Rattle.std.specs.Prelude.{Ok, map, slice_get, option_map}
use Rattle.relay_batch.specs.declared.offer.Offer.TheVariants.{Added}
use Rattle.relay_batch.specs.declared.item.BatchItem.{BatchItem}
use Rattle.relay_batch.specs.Gathering.{answer_to, after_offer, holds_document}
use Rattle.relay_held.specs.declared.kept.Kept.{Kept}
use Rattle.relay_held.specs.Operations.{candidate_of}
use Rattle.relay_held.specs.Queues.{Holding, candidates_kept}
use Rattle.relay_core.specs.Rule.{gathering_after, closes}
use Rattle.relay_core.specs.Walk.{item_of_kept}
use Rattle.relay_core.proofs.Asking.{asked, looked_one, same_but, items_next, not_closed}
use Rattle.relay_held.specs.Queues.{Rises, is_candidate_kept}
use Rattle.relay_held.proofs.Merging.{rises_filter}
use Rattle.relay_batch.specs.Tallies.{tally_of}
use Rattle.relay_core.specs.Counting.{counted_after, closes_count}
use Rattle.relay_core.specs.Rule.{with_item}
use Rattle.relay_core.proofs.Counting.{counted_on, below_on}
use Rattle.relay_core.proofs.Going.{none_left, drop_none, rises_drop, docs_free, DocsBelow, BelowFirst, offer_closed, offer_on, one_more_at_most}
use Rattle.relay_core.proofs.gather.gather.Goals as goal
use Rattle.relay_core.proofs.gather.gather.Goals.{else-candidates-test, then-candidates-test+in_default}

pub returns-in-Closed-clause-batch : goal.returns-in-Closed-clause-batch
returns-in-Closed-clause-batch c =
    let cs = candidates_kept c.args.held.now.list c.args.held.now.clock in
    let v = c.candidates.invariant in
    let a = asked c.candidates.held (record c.args.held.now { looks = c.candidates.held.looks }) c.candidates.at c.in-Some.one c.candidate.result c.candidates.invariant.held c.candidate.ensures.found c.in-Some.is in
    let item = c.item_of-item.ensures ∙ a.item in
    let closed = offer_closed (item_of_kept a.one) (map item_of_kept (drop (c.candidates.at + 1) cs)) c.candidates.batcher (ap (λ j. answer_to j c.candidates.batcher) (sym item) ∙ sym c.in-Ok.ensures.answer ∙ c.in-Closed.is) in
    c.in-Ok.ensures.after ∙ ap (λ o. after_offer {E = Unit {0}} c.item_of-item.result c.candidates.batcher (Ok o)) c.in-Closed.is
    ∙ sym closed.0 ∙ ap (λ is. gathering_after is c.candidates.batcher) (sym (items_next cs c.candidates.at a.one a.here)) ∙ v.batch

pub returns-in-Closed-clause-closed : goal.returns-in-Closed-clause-closed
returns-in-Closed-clause-closed c =
    let cs = candidates_kept c.args.held.now.list c.args.held.now.clock in
    let v = c.candidates.invariant in
    let a = asked c.candidates.held (record c.args.held.now { looks = c.candidates.held.looks }) c.candidates.at c.in-Some.one c.candidate.result c.candidates.invariant.held c.candidate.ensures.found c.in-Some.is in
    let item = c.item_of-item.ensures ∙ a.item in
    let closed = offer_closed (item_of_kept a.one) (map item_of_kept (drop (c.candidates.at + 1) cs)) c.candidates.batcher (ap (λ j. answer_to j c.candidates.batcher) (sym item) ∙ sym c.in-Ok.ensures.answer ∙ c.in-Closed.is) in
    sym closed.1 ∙ ap (λ is. closes is c.candidates.batcher) (sym (items_next cs c.candidates.at a.one a.here)) ∙ v.closed

-- those that are left have versions above those in the batch
record Left (cs : List Kept) (at : ℕ) (one : Kept) (is : List BatchItem) : Type 0 where
  rises : Rises (one ∷ drop (at + 1) cs)
  below : DocsBelow one.version is

left_of : (hs : List Kept) (clock at : ℕ) (one : Kept) (is : List BatchItem) → Rises hs → drop at (candidates_kept hs clock) ≡ one ∷ drop (at + 1) (candidates_kept hs clock)
    → BelowFirst (drop at (candidates_kept hs clock)) is → Left (candidates_kept hs clock) at one is
left_of hs clock at one is r here b = record {
  rises = subst Rises here (rises_drop at (candidates_kept hs clock) (rises_filter (is_candidate_kept hs clock) hs r));
  below = subst (λ xs. BelowFirst xs is) here b;
}

pub returns-in-Err-clause-counted : goal.returns-in-Err-clause-counted
returns-in-Err-clause-counted c =
    let cs = candidates_kept c.args.held.now.list c.args.held.now.clock in
    let v = c.candidates.invariant in
    let a = asked c.candidates.held (record c.args.held.now { looks = c.candidates.held.looks }) c.candidates.at c.in-Some.one c.candidate.result c.candidates.invariant.held c.candidate.ensures.found c.in-Some.is in
    let item = c.item_of-item.ensures ∙ a.item in
    let rest = drop (c.candidates.at + 1) cs in
    let left = left_of c.args.held.now.list c.args.held.now.clock c.candidates.at a.one c.candidates.batcher.items (subst (λ (h : Holding). Rises h.list) v.held c.candidate.ensures.rises) a.here v.below in
    let i = item_of_kept a.one in
    let g = c.candidates.batcher in
    let added : answer_to i g ≡ Added = ap (λ j. answer_to j g) (sym item) ∙ c.in-Err.ensures.refused in
    let was : c.tally-tally.result ≡ tally_of g = c.tally-tally.ensures ∙ ap tally_of c.in-Err.ensures.after in
    let offer = c.offer-in-Err.ensures.as_batch g was (ap (λ (j : BatchItem). holds_document j.doc g.items) item ∙ docs_free a.one.version g.items left.below) in
    let start : c.offer-in-Err.new.self ≡ tally_of (with_item i g) = offer.1 ∙ (let o = offer.0 ∙ c.in-Err.ensures.refused in λ k. tally_of (after_offer {E = Unit {0}} (item k) g (Ok (o k)))) in
    let same = same_but c.args.held.now c.candidates.held c.candidate.new.self _ v.held c.candidate.ensures.same in
    let on = counted_on a.one rest g c.offer-in-Err.new.self c.count_from.result.tally c.count_from.result.closed left.rises left.below added start
    (c.count_from.ensures.tally ∙ ap (λ (h : Holding). counted_after (map item_of_kept (drop (c.candidates.at + 1) (candidates_kept h.list h.clock))) c.offer-in-Err.new.self) same)
    (c.count_from.ensures.closed ∙ ap (λ (h : Holding). closes_count (map item_of_kept (drop (c.candidates.at + 1) (candidates_kept h.list h.clock))) c.offer-in-Err.new.self) same) in
    on.0 ∙ ap tally_of (ap (λ is. gathering_after is g) (sym (items_next cs c.candidates.at a.one a.here)) ∙ v.batch)

pub returns-in-Err-clause-count_closed : goal.returns-in-Err-clause-count_closed
returns-in-Err-clause-count_closed c =
    let cs = candidates_kept c.args.held.now.list c.args.held.now.clock in
    let v = c.candidates.invariant in
    let a = asked c.candidates.held (record c.args.held.now { looks = c.candidates.held.looks }) c.candidates.at c.in-Some.one c.candidate.result c.candidates.invariant.held c.candidate.ensures.found c.in-Some.is in
    let item = c.item_of-item.ensures ∙ a.item in
    let rest = drop (c.candidates.at + 1) cs in
    let left = left_of c.args.held.now.list c.args.held.now.clock c.candidates.at a.one c.candidates.batcher.items (subst (λ (h : Holding). Rises h.list) v.held c.candidate.ensures.rises) a.here v.below in
    let i = item_of_kept a.one in
    let g = c.candidates.batcher in
    let added : answer_to i g ≡ Added = ap (λ j. answer_to j g) (sym item) ∙ c.in-Err.ensures.refused in
    let was : c.tally-tally.result ≡ tally_of g = c.tally-tally.ensures ∙ ap tally_of c.in-Err.ensures.after in
    let offer = c.offer-in-Err.ensures.as_batch g was (ap (λ (j : BatchItem). holds_document j.doc g.items) item ∙ docs_free a.one.version g.items left.below) in
    let start : c.offer-in-Err.new.self ≡ tally_of (with_item i g) = offer.1 ∙ (let o = offer.0 ∙ c.in-Err.ensures.refused in λ k. tally_of (after_offer {E = Unit {0}} (item k) g (Ok (o k)))) in
    let same = same_but c.args.held.now c.candidates.held c.candidate.new.self _ v.held c.candidate.ensures.same in
    let on = counted_on a.one rest g c.offer-in-Err.new.self c.count_from.result.tally c.count_from.result.closed left.rises left.below added start
    (c.count_from.ensures.tally ∙ ap (λ (h : Holding). counted_after (map item_of_kept (drop (c.candidates.at + 1) (candidates_kept h.list h.clock))) c.offer-in-Err.new.self) same)
    (c.count_from.ensures.closed ∙ ap (λ (h : Holding). closes_count (map item_of_kept (drop (c.candidates.at + 1) (candidates_kept h.list h.clock))) c.offer-in-Err.new.self) same) in
    on.1 ∙ ap (λ is. closes is g) (sym (items_next cs c.candidates.at a.one a.here)) ∙ v.closed

pub candidates-preserved : goal.candidates-preserved
candidates-preserved c =
    let cs = candidates_kept c.args.held.now.list c.args.held.now.clock in
    let v = c.candidates.invariant in
    let a = asked c.candidates.held (record c.args.held.now { looks = c.candidates.held.looks }) c.candidates.at c.in-Some.one c.candidate.result c.candidates.invariant.held c.candidate.ensures.found c.in-Some.is in
    let item = c.item_of-item.ensures ∙ a.item in
    let items = items_next cs c.candidates.at a.one a.here in
    let left = left_of c.args.held.now.list c.args.held.now.clock c.candidates.at a.one c.candidates.batcher.items (subst (λ (h : Holding). Rises h.list) v.held c.candidate.ensures.rises) a.here v.below in
    let o = c.in-Ok.answer in
    let answer : o ≡ answer_to (item_of_kept a.one) c.candidates.batcher = c.in-Ok.ensures.answer ∙ ap (λ j. answer_to j c.candidates.batcher) item in
    let after : c.offer.new.self ≡ after_offer {E = Unit {0}} (item_of_kept a.one) c.candidates.batcher (Ok o) = c.in-Ok.ensures.after ∙ ap (λ j. after_offer {E = Unit {0}} j c.candidates.batcher (Ok o)) item in
    let open_yet = not_closed o c.in-Busy.is in
    let on = offer_on (item_of_kept a.one) (map item_of_kept (drop (c.candidates.at + 1) cs)) c.candidates.batcher c.offer.new.self o answer open_yet after in
    let n = looked_one c.candidates.held c.candidate.new.self c.candidate.result c.in-Some.one c.candidate.ensures.same c.in-Some.is in
    let l = v.looks in let r = v.rise in let w = a.within in
    record {
      held = same_but c.args.held.now c.candidates.held c.candidate.new.self _ v.held c.candidate.ensures.same;
      within = omega (arith, w);
      looks = omega (arith, n.most, l);
      below = below_on a.one (drop (c.candidates.at + 1) cs) c.candidates.batcher c.offer.new.self o left.rises left.below answer open_yet after;
      rise = omega (arith, n.rise, r);
      looked = (let m = one_more_at_most c.item_of-item.result c.candidates.batcher c.offer.new.self o c.in-Ok.ensures.after in let k = v.looked in omega (arith, n.one, k, m));
      batch = sym on.0 ∙ ap (λ is. gathering_after is c.candidates.batcher) (sym items) ∙ v.batch;
      closed = sym on.1 ∙ ap (λ is. closes is c.candidates.batcher) (sym items) ∙ v.closed;
    }

-- none of them is left
all_asked : (c : goal.Left-candidates) → drop c.candidates.at (candidates_kept c.args.held.now.list c.args.held.now.clock) ≡ []
all_asked c =
    let cs = candidates_kept c.args.held.now.list c.args.held.now.clock in
    elim c.candidates-test.branch [
      | else-candidates-test w ↦ drop_none cs c.candidates.at (let ge = w.candidates-test.false in let few = c.documents-at-end.ensures.few in omega (arith, ge, few))
      | then-candidates-test+in_default w ↦ none_left cs c.candidates.at (sym w.in_default.is ∙ w.candidate.ensures.found ∙ ap (λ (s : Holding). option_map candidate_of (slice_get (candidates_kept s.list s.clock) c.candidates.at)) c.candidates.invariant.held)
    ]

pub returns-clause-batch : goal.returns-clause-batch
returns-clause-batch c = ap (λ xs. gathering_after (map item_of_kept xs) c.candidates.batcher) (sym (all_asked c)) ∙ c.candidates.invariant.batch

pub returns-clause-closed : goal.returns-clause-closed
returns-clause-closed c = ap (λ xs. closes (map item_of_kept xs) c.candidates.batcher) (sym (all_asked c)) ∙ c.candidates.invariant.closed
