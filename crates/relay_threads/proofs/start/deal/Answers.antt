use Rattle.std.proofs.Common.{arith, refl, ◌≡◌, ◌+◌, ◌-◌}
use Rattle.relay_threads.proofs.Popping.{long_map}
use Rattle.relay_threads.proofs.Dealing.{some_left, deals_left, have_lanes, columns_long, deals_on, controls}
use Rattle.relay_threads.proofs.start.deal.Goals as goal

pub pop_each-requires : goal.pop_each-requires
pop_each-requires c = some_left c.args.count (c.args.count + 1) c.requires.columns.queues _ refl c.requires.columns.fresh_ones

pub new-requires-clause-lanes : goal.new-requires-clause-lanes
new-requires-clause-lanes c =
    let q = c.requires.columns.queues in
    let one = deals_left c.args.count (c.args.count + 1) q _ _ _ refl c.requires.columns.fresh_ones c.in_ok-pop_each.ensures in
    let long = columns_long (c.args.count + 1) q _ c.requires.columns.fresh_ones in
    let same = long_map (λ v. v.items) c.args.columns.items in
    let ok = c.args.columns.ok.0 in
    have_lanes q c.in_ok-pop_each.field-0.items _ one.long (omega (arith, ok, same, long)) c.requires.lanes

pub new-requires-clause-fresh : goal.new-requires-clause-fresh
new-requires-clause-fresh c = (deals_left c.args.count (c.args.count + 1) c.requires.columns.queues _ _ _ refl c.requires.columns.fresh_ones c.in_ok-pop_each.ensures).fresh_ones

pub loop-left-init : goal.loop-left-init
loop-left-init c = record {
  len = omega (arith, c.new-producers.ensures.len);
  dealt = λ q is. record { columns_left = (deals_left c.args.count (c.args.count + 1) q _ _ _ refl is c.in_ok-pop_each.ensures).left; new_ones = rw c.new-producers.ensures.items tt };
}

pub pop_each-requires-in-loop-left : goal.pop_each-requires-in-loop-left
pop_each-requires-in-loop-left c =
    let q = c.requires.columns.queues in
    some_left (c.loop-left.left - 1) c.loop-left.left q _ (omega (arith, c.loop-left-test.true)) (c.loop-left.invariant.dealt q c.requires.columns.fresh_ones).columns_left

pub new-requires-in-loop-left-clause-lanes : goal.new-requires-in-loop-left-clause-lanes
new-requires-in-loop-left-clause-lanes c =
    let q = c.requires.columns.queues in
    let one = deals_left (c.loop-left.left - 1) c.loop-left.left q _ _ _ (omega (arith, c.loop-left-test.true)) (c.loop-left.invariant.dealt q c.requires.columns.fresh_ones).columns_left c.in_ok-puts.ensures in
    let long = columns_long (c.args.count + 1) q _ c.requires.columns.fresh_ones in
    let same = long_map (λ v. v.items) c.args.columns.items in
    let ok = c.args.columns.ok.0 in
    have_lanes q c.in_ok-puts.puts.items _ one.long (omega (arith, ok, same, long)) c.requires.lanes

pub new-requires-in-loop-left-clause-fresh : goal.new-requires-in-loop-left-clause-fresh
new-requires-in-loop-left-clause-fresh c =
    let q = c.requires.columns.queues in
    (deals_left (c.loop-left.left - 1) c.loop-left.left q _ _ _ (omega (arith, c.loop-left-test.true)) (c.loop-left.invariant.dealt q c.requires.columns.fresh_ones).columns_left c.in_ok-puts.ensures).fresh_ones

pub loop-left-preserved : goal.loop-left-preserved
loop-left-preserved c =
    let i = c.loop-left.invariant in
    let at : c.loop-left.left ≡ c.loop-left.left - 1 + 1 = omega (arith, c.loop-left-test.true) in
    record {
      len = omega (arith, i.len, at, c.in_ok-insert.ensures.len);
      dealt = λ q is.
          let d = i.dealt q is in
          let one = deals_left (c.loop-left.left - 1) c.loop-left.left q _ _ _ at d.columns_left c.in_ok-puts.ensures in
          deals_on q c.args.epoch _ c.in_ok-puts.puts.items c.loop-left.left (c.loop-left.left - 1) c.in_ok-producer.producer _ _ at one d.new_ones c.in_ok-producer.ensures.state c.in_ok-insert.ensures.items;
    }

pub returns-clause-control : goal.returns-clause-control
returns-clause-control c q is = controls q _ c.in_ok-pop_each.field-0.items c.args.count _ (deals_left c.args.count (c.args.count + 1) q _ _ _ refl is c.in_ok-pop_each.ensures) c.in_ok-control.ensures.state
