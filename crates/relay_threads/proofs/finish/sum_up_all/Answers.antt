use Rattle.std.proofs.Common.{arith, sym, ◌∙◌, vec_len}
use Rattle.relay_threads.proofs.Popping.{long_map}
use Rattle.relay_threads.proofs.Summing.{sums_none, sums_next, sums_on}
use Rattle.relay_threads.proofs.finish.sum_up_all.Goals as goal

pub loop-end-init : goal.loop-end-init
loop-end-init g c = sums_none (vec_len c.args.rows) _ c.args.ends.items _ c.new-all.ensures.items c.requires.rows c.requires.none_gone c.requires.done (long_map (λ r. r.items) c.args.rows.items ∙ sym c.args.rows.ok.0)

pub pop_each-requires : goal.pop_each-requires
pop_each-requires g c = (sums_next (vec_len c.args.rows) _ _ _ _ c.pop.new.self.items _ c.in-Some.end c.loop-end.invariant c.in-Some.ensures.items).some

pub sum_up-requires-clause-few : goal.sum_up-requires-clause-few
sum_up-requires-clause-few g c =
    let n = sums_next (vec_len c.args.rows) _ _ _ _ c.pop.new.self.items _ c.in-Some.end c.loop-end.invariant c.in-Some.ensures.items in
    let long = (n.column _ c.in_ok-column.column.items c.in_ok-column.ensures).1 in
    omega (arith, long, c.in_ok-column.column.ok.0, c.requires.few)

pub sum_up-requires-clause-column : goal.sum_up-requires-clause-column
sum_up-requires-clause-column g c =
    let n = sums_next (vec_len c.args.rows) _ _ _ _ c.pop.new.self.items _ c.in-Some.end c.loop-end.invariant c.in-Some.ensures.items in
    (n.column _ c.in_ok-column.column.items c.in_ok-column.ensures).0

pub sum_up-requires-clause-done : goal.sum_up-requires-clause-done
sum_up-requires-clause-done g c sender lt =
    let n = sums_next (vec_len c.args.rows) _ _ _ _ c.pop.new.self.items _ c.in-Some.end c.loop-end.invariant c.in-Some.ensures.items in
    let long = (n.column _ c.in_ok-column.column.items c.in_ok-column.ensures).1 in
    n.done sender (omega (arith, long, c.in_ok-column.column.ok.0, lt))

pub loop-end-preserved : goal.loop-end-preserved
loop-end-preserved g c =
    sums_on (vec_len c.args.rows) _ _ _ c.in_ok-column.column.items _ _ c.pop.new.self.items _ _ c.in-Some.end c.sum_up.result c.loop-end.invariant c.in-Some.ensures.items c.in_ok-column.ensures c.sum_up.ensures.met c.sum_up.ensures.sums c.in_ok-insert.ensures.items
