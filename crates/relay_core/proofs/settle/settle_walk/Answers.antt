use Rattle.std.proofs.Common.{◌≡◌, ◌∙◌, ◌+◌, ◌++◌, [], sym, ap, subst, refl, arith, length, drop, append_assoc, Some}
use Rattle.std.specs.Prelude.{map, slice_get, Option}
use Rattle.relay_held.specs.declared.kept.Spot.{Spot}
use Rattle.std.specs.Vec.Iter.{into_iter_items}
use Rattle.relay_delivery.specs.Machine.{is_applied_fate, is_already_fate}
use Rattle.std.proofs.Common.{ℕ, None, true, false}
use Rattle.relay_results.proofs.Lists.{some_same}
use Rattle.relay_held.specs.declared.kept.Kept.{Kept}
use Rattle.relay_core.specs.Walk.{allowed_at, flies_here, waits_here, report_of, kept_walk, reports_walk, successes_walk, tally_walk, fate_one, tally, reports_one, success_one, status_in}
use Rattle.relay_core.specs.Memory.{Carries}
use Rattle.relay_core.specs.State.{config_of, is_reported_fate, is_retried_fate}
use Rattle.relay_core.proofs.Settling.{met_ends}
use Rattle.relay_core.proofs.Passing.{find_flying, flying_first, cons_of, nil_of, carried_few, turned, reported_turn, succeeded_turn, successes_end, counts_one, ends_is, kept_end, reports_end, tally_end, nothing_after, tally_as}
use Rattle.relay_core.proofs.settle.settle_walk.Goals as goal

flies_on : (n : ℕ) (h : Kept) → flies_here n h.flies ≡ true → waits_here h.flies ≡ false
flies_on n h t = by h.flies t where
  by : (s : Option Spot) → flies_here n s ≡ true → waits_here s ≡ false
  by None e = absurd (cc)
  by (Some s) e = refl

pub writes-init : goal.writes-init
writes-init c =
    let a = c.into_iter-ahead.ensures.rest in
    let b = c.into_iter-left.ensures.rest in
    let cs = subst (λ ws. Carries c.args.number 0 c.args.held.now.list ws) (sym a) c.requires.carries in
    let few = carried_few c.args.number c.args.held.now.list 0 _ cs in
    let most = c.requires.few in
    let room = c.requires.room in
    record {
      clock = refl;
      looks = refl;
      carries = (0, cs);
      counted = omega (arith, few, most);
      room = room;
      places = c.requires.places;
      done = omega arith;
      more = omega arith;
      matched = refl;
      held = λ i. kept_walk c.args.held.now.list (allowed_at (config_of c.args.config.now) c.args.clock) c.args.clock c.args.number c.args.whole (a i) (b i);
      reports = λ i. map report_of c.args.reports.now.items ++ reports_walk c.args.held.now.list (allowed_at (config_of c.args.config.now) c.args.clock) c.args.number c.args.whole (a i) (b i);
      successes = λ i. c.args.successes.now.items ++ successes_walk c.args.held.now.list (allowed_at (config_of c.args.config.now) c.args.clock) c.args.number c.args.whole (a i) (b i);
      applied = (let z : 0 + tally_walk is_applied_fate c.args.held.now.list (allowed_at (config_of c.args.config.now) c.args.clock) c.args.number c.args.whole (into_iter_items c.into_iter-ahead.result) (into_iter_items c.into_iter-left.result) ≡ tally_walk is_applied_fate c.args.held.now.list (allowed_at (config_of c.args.config.now) c.args.clock) c.args.number c.args.whole (into_iter_items c.into_iter-ahead.result) (into_iter_items c.into_iter-left.result) = omega arith in z) ∙ (λ i. tally_walk is_applied_fate c.args.held.now.list (allowed_at (config_of c.args.config.now) c.args.clock) c.args.number c.args.whole (a i) (b i));
      already = (let z : 0 + tally_walk is_already_fate c.args.held.now.list (allowed_at (config_of c.args.config.now) c.args.clock) c.args.number c.args.whole (into_iter_items c.into_iter-ahead.result) (into_iter_items c.into_iter-left.result) ≡ tally_walk is_already_fate c.args.held.now.list (allowed_at (config_of c.args.config.now) c.args.clock) c.args.number c.args.whole (into_iter_items c.into_iter-ahead.result) (into_iter_items c.into_iter-left.result) = omega arith in z) ∙ (λ i. tally_walk is_already_fate c.args.held.now.list (allowed_at (config_of c.args.config.now) c.args.clock) c.args.number c.args.whole (a i) (b i));
      reported = (let z : 0 + tally_walk is_reported_fate c.args.held.now.list (allowed_at (config_of c.args.config.now) c.args.clock) c.args.number c.args.whole (into_iter_items c.into_iter-ahead.result) (into_iter_items c.into_iter-left.result) ≡ tally_walk is_reported_fate c.args.held.now.list (allowed_at (config_of c.args.config.now) c.args.clock) c.args.number c.args.whole (into_iter_items c.into_iter-ahead.result) (into_iter_items c.into_iter-left.result) = omega arith in z) ∙ (λ i. tally_walk is_reported_fate c.args.held.now.list (allowed_at (config_of c.args.config.now) c.args.clock) c.args.number c.args.whole (a i) (b i));
      retried = (let z : 0 + tally_walk is_retried_fate c.args.held.now.list (allowed_at (config_of c.args.config.now) c.args.clock) c.args.number c.args.whole (into_iter_items c.into_iter-ahead.result) (into_iter_items c.into_iter-left.result) ≡ tally_walk is_retried_fate c.args.held.now.list (allowed_at (config_of c.args.config.now) c.args.clock) c.args.number c.args.whole (into_iter_items c.into_iter-ahead.result) (into_iter_items c.into_iter-left.result) = omega arith in z) ∙ (λ i. tally_walk is_retried_fate c.args.held.now.list (allowed_at (config_of c.args.config.now) c.args.clock) c.args.number c.args.whole (a i) (b i));
    }

pub settle_one-requires-clause-flies : goal.settle_one-requires-clause-flies
settle_one-requires-clause-flies c = λ h found.
    let v = c.writes.invariant in
    let hs = c.writes.held.list in
    let ws = into_iter_items c.writes.ahead in
    let w = c.in-Some.write in
    let n = c.args.number in
    let at : slice_get ws 0 ≡ Some w = sym c.in-Some.ensures.value in
    let cs = subst (λ xs. Carries n v.carries.0 hs xs) (cons_of ws w at) v.carries.1 in
    let f = find_flying n hs v.carries.0 w (drop 1 ws) cs in
    let e = flying_first n hs w c.len.ensures.behind f in
    flies_on n h (subst (λ (x : Kept). flies_here n x.flies ≡ true) (some_same f.one h (sym e ∙ found)) f.flies)

pub writes-preserved : goal.writes-preserved
writes-preserved c =
    let v = c.writes.invariant in
    let hs = c.writes.held.list in
    let ws = into_iter_items c.writes.ahead in
    let os = into_iter_items c.writes.left in
    let w = c.in-Some.write in
    let n = c.args.number in
    let allowed : Kept → ℕ = allowed_at (config_of c.args.config.now) c.args.clock in
    let clock = c.args.clock in
    let whole = c.args.whole in
    let at : slice_get (into_iter_items c.writes.ahead) 0 ≡ Some c.in-Some.write = sym c.in-Some.ensures.value in
    let cs = subst (λ xs. Carries n v.carries.0 hs xs) (cons_of ws w at) v.carries.1 in
    let f = find_flying n hs v.carries.0 w (drop 1 ws) cs in
    let e = flying_first n hs w c.len.ensures.behind f in
    let h = f.one in
    let en = c.next_of-entry.ensures.value in
    let y = fate_one allowed whole h (slice_get os 0) in
    let x = ap (fate_one allowed whole h) en in
    let is = c.settle_one.ensures.held h e ∙ ap (λ o. Rattle.relay_core.specs.Walk.after_one clock w hs (fate_one allowed whole h o)) en in
    let r = c.in-Some.ensures.rest in
    let l = c.next_of-entry.ensures.rest in
    let t = turned n allowed clock whole hs c.settle_one.new.held.list ws os w at v.carries h e f.flies is in
    let one = counts_one (fate_one allowed whole h (slice_get os 0)) (met_ends allowed whole h os) in
    let fin = ends_is (fate_one allowed whole h (slice_get os 0)) (met_ends allowed whole h os) in
    let sa = c.settle_one.ensures.applied h e ∙ ap (λ z. c.writes.counts.applied + tally (is_applied_fate z)) x in
    let sb = c.settle_one.ensures.already h e ∙ ap (λ z. c.writes.counts.already + tally (is_already_fate z)) x in
    let sr = c.settle_one.ensures.reported h e ∙ ap (λ z. c.writes.counts.reported + tally (is_reported_fate z)) x in
    let st = c.settle_one.ensures.retried h e ∙ ap (λ z. c.writes.counts.retried + tally (is_retried_fate z)) x in
    let sl = c.settle_one.ensures.len h e ∙ ap (λ z. Rattle.std.specs.Prelude.vec_len c.writes.reports + tally (is_reported_fate z)) x in
    let cap = c.settle_one.ensures.capacity in
    let more_of = c.settle_one.ensures.more h e ∙ ap (λ z. Rattle.std.specs.Prelude.vec_len c.writes.successes + tally (is_applied_fate z) + tally (is_already_fate z)) x in
    let same_places = c.settle_one.ensures.places in
    let places = v.places in
    let few = t.few in
    let fewer = t.fewer in
    let lr = ap length r in
    let counted = v.counted in
    let room = v.room in
    let done = v.done in
    let more = v.more in
    record {
      clock = c.settle_one.ensures.clock ∙ v.clock;
      looks = c.settle_one.ensures.looks ∙ v.looks;
      carries = (t.carries.0, subst (λ xs. Carries n t.carries.0 c.settle_one.new.held.list xs) (sym r) t.carries.1);
      counted = omega (arith, sa, sb, sr, st, one, few, lr, counted);
      room = omega (arith, sl, cap, fin, fewer, room);
      places = omega (arith, more_of, same_places, fin, fewer, places);
      done = omega (arith, sa, sb, fin, fewer, done);
      more = omega (arith, sl, more);
      matched = c.settle_one.ensures.matched ∙ v.matched;
      held = (λ i. kept_walk c.settle_one.new.held.list allowed clock n whole (r i) (l i)) ∙ sym t.kept ∙ v.held;
      reports = (λ i. (c.settle_one.ensures.reports h e ∙ ap (λ z. map report_of c.writes.reports.items ++ reports_one z h w) x) i ++ reports_walk c.settle_one.new.held.list allowed n whole (r i) (l i))
          ∙ append_assoc (map report_of c.writes.reports.items) (reports_one (fate_one allowed whole h (slice_get os 0)) h w) (reports_walk c.settle_one.new.held.list allowed n whole (drop 1 ws) (drop 1 os))
          ∙ ap (λ rs. map report_of c.writes.reports.items ++ rs) (sym (reported_turn n allowed clock whole hs c.settle_one.new.held.list ws os w at v.carries h e f.flies is))
          ∙ v.reports;
      successes = (λ i. (c.settle_one.ensures.successes h e ∙ (λ j. c.writes.successes.items ++ success_one (x j) (status_in (en j)) h w)) i ++ successes_walk c.settle_one.new.held.list allowed n whole (r i) (l i))
          ∙ append_assoc c.writes.successes.items (success_one (fate_one allowed whole h (slice_get os 0)) (status_in (slice_get os 0)) h w) (successes_walk c.settle_one.new.held.list allowed n whole (drop 1 ws) (drop 1 os))
          ∙ ap (λ rs. c.writes.successes.items ++ rs) (sym (succeeded_turn n allowed clock whole hs c.settle_one.new.held.list ws os w at v.carries h e f.flies is))
          ∙ v.successes;
      applied = (let a = tally_as is_applied_fate c.settle_one.new.held.list allowed n whole (into_iter_items c.next_of.new.items) (drop 1 ws) (into_iter_items c.next_of-entry.new.items) (drop 1 os) r l in let b = t.tallied is_applied_fate in let d = v.applied in omega (arith, a, b, d, sa));
      already = (let a = tally_as is_already_fate c.settle_one.new.held.list allowed n whole (into_iter_items c.next_of.new.items) (drop 1 ws) (into_iter_items c.next_of-entry.new.items) (drop 1 os) r l in let b = t.tallied is_already_fate in let d = v.already in omega (arith, a, b, d, sb));
      reported = (let a = tally_as is_reported_fate c.settle_one.new.held.list allowed n whole (into_iter_items c.next_of.new.items) (drop 1 ws) (into_iter_items c.next_of-entry.new.items) (drop 1 os) r l in let b = t.tallied is_reported_fate in let d = v.reported in omega (arith, a, b, d, sr));
      retried = (let a = tally_as is_retried_fate c.settle_one.new.held.list allowed n whole (into_iter_items c.next_of.new.items) (drop 1 ws) (into_iter_items c.next_of-entry.new.items) (drop 1 os) r l in let b = t.tallied is_retried_fate in let d = v.retried in omega (arith, a, b, d, st));
    }

pub returns-clause-held : goal.returns-clause-held
returns-clause-held c =
    let v = c.writes.invariant in
    let e = nil_of (into_iter_items c.writes.ahead) (sym c.in_default.ensures.value) in
    let cs = subst (λ xs. Carries c.args.number v.carries.0 c.writes.held.list xs) e v.carries.1 in
    sym (kept_end c.args.number (allowed_at (config_of c.args.config.now) c.args.clock) c.args.clock c.args.whole c.writes.held.list v.carries.0 (into_iter_items c.writes.left) cs)
    ∙ ap (λ xs. kept_walk c.writes.held.list (allowed_at (config_of c.args.config.now) c.args.clock) c.args.clock c.args.number c.args.whole xs (into_iter_items c.writes.left)) (sym e) ∙ v.held

pub returns-clause-reports : goal.returns-clause-reports
returns-clause-reports c =
    let v = c.writes.invariant in
    let e = nil_of (into_iter_items c.writes.ahead) (sym c.in_default.ensures.value) in
    let cs = subst (λ xs. Carries c.args.number v.carries.0 c.writes.held.list xs) e v.carries.1 in
    sym (nothing_after (map report_of c.writes.reports.items))
    ∙ ap (λ rs. map report_of c.writes.reports.items ++ rs) (sym (reports_end c.args.number (allowed_at (config_of c.args.config.now) c.args.clock) c.args.clock c.args.whole c.writes.held.list v.carries.0 (into_iter_items c.writes.left) cs)
    ∙ ap (λ xs. reports_walk c.writes.held.list (allowed_at (config_of c.args.config.now) c.args.clock) c.args.number c.args.whole xs (into_iter_items c.writes.left)) (sym e)) ∙ v.reports

pub returns-clause-successes : goal.returns-clause-successes
returns-clause-successes c =
    let v = c.writes.invariant in
    let e = nil_of (into_iter_items c.writes.ahead) (sym c.in_default.ensures.value) in
    let cs = subst (λ xs. Carries c.args.number v.carries.0 c.writes.held.list xs) e v.carries.1 in
    sym (nothing_after c.writes.successes.items)
    ∙ ap (λ rs. c.writes.successes.items ++ rs) (sym (successes_end c.args.number (allowed_at (config_of c.args.config.now) c.args.clock) c.args.clock c.args.whole c.writes.held.list v.carries.0 (into_iter_items c.writes.left) cs)
    ∙ ap (λ xs. successes_walk c.writes.held.list (allowed_at (config_of c.args.config.now) c.args.clock) c.args.number c.args.whole xs (into_iter_items c.writes.left)) (sym e)) ∙ v.successes

pub returns-clause-applied : goal.returns-clause-applied
returns-clause-applied c =
    let v = c.writes.invariant in
    let e = nil_of (into_iter_items c.writes.ahead) (sym c.in_default.ensures.value) in
    let cs = subst (λ xs. Carries c.args.number v.carries.0 c.writes.held.list xs) e v.carries.1 in
    let z = tally_end c.args.number (allowed_at (config_of c.args.config.now) c.args.clock) c.args.clock c.args.whole is_applied_fate c.writes.held.list v.carries.0 (into_iter_items c.writes.left) cs in
    let a = tally_as is_applied_fate c.writes.held.list (allowed_at (config_of c.args.config.now) c.args.clock) c.args.number c.args.whole (into_iter_items c.writes.ahead) [] (into_iter_items c.writes.left) (into_iter_items c.writes.left) e refl in
    let d = v.applied in omega (arith, z, a, d)

pub returns-clause-already : goal.returns-clause-already
returns-clause-already c =
    let v = c.writes.invariant in
    let e = nil_of (into_iter_items c.writes.ahead) (sym c.in_default.ensures.value) in
    let cs = subst (λ xs. Carries c.args.number v.carries.0 c.writes.held.list xs) e v.carries.1 in
    let z = tally_end c.args.number (allowed_at (config_of c.args.config.now) c.args.clock) c.args.clock c.args.whole is_already_fate c.writes.held.list v.carries.0 (into_iter_items c.writes.left) cs in
    let a = tally_as is_already_fate c.writes.held.list (allowed_at (config_of c.args.config.now) c.args.clock) c.args.number c.args.whole (into_iter_items c.writes.ahead) [] (into_iter_items c.writes.left) (into_iter_items c.writes.left) e refl in
    let d = v.already in omega (arith, z, a, d)

pub returns-clause-reported : goal.returns-clause-reported
returns-clause-reported c =
    let v = c.writes.invariant in
    let e = nil_of (into_iter_items c.writes.ahead) (sym c.in_default.ensures.value) in
    let cs = subst (λ xs. Carries c.args.number v.carries.0 c.writes.held.list xs) e v.carries.1 in
    let z = tally_end c.args.number (allowed_at (config_of c.args.config.now) c.args.clock) c.args.clock c.args.whole is_reported_fate c.writes.held.list v.carries.0 (into_iter_items c.writes.left) cs in
    let a = tally_as is_reported_fate c.writes.held.list (allowed_at (config_of c.args.config.now) c.args.clock) c.args.number c.args.whole (into_iter_items c.writes.ahead) [] (into_iter_items c.writes.left) (into_iter_items c.writes.left) e refl in
    let d = v.reported in omega (arith, z, a, d)

pub returns-clause-retried : goal.returns-clause-retried
returns-clause-retried c =
    let v = c.writes.invariant in
    let e = nil_of (into_iter_items c.writes.ahead) (sym c.in_default.ensures.value) in
    let cs = subst (λ xs. Carries c.args.number v.carries.0 c.writes.held.list xs) e v.carries.1 in
    let z = tally_end c.args.number (allowed_at (config_of c.args.config.now) c.args.clock) c.args.clock c.args.whole is_retried_fate c.writes.held.list v.carries.0 (into_iter_items c.writes.left) cs in
    let a = tally_as is_retried_fate c.writes.held.list (allowed_at (config_of c.args.config.now) c.args.clock) c.args.number c.args.whole (into_iter_items c.writes.ahead) [] (into_iter_items c.writes.left) (into_iter_items c.writes.left) e refl in
    let d = v.retried in omega (arith, z, a, d)

pub returns-clause-clock : goal.returns-clause-clock
returns-clause-clock c = c.writes.invariant.clock

pub returns-clause-looks : goal.returns-clause-looks
returns-clause-looks c = c.writes.invariant.looks
