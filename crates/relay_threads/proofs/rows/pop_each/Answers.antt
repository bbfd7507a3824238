use Rattle.std.proofs.Common.{arith, refl, ◌<◌, length}
use Rattle.relay_threads.proofs.Popping.{pops_none, some_here, pops_here}
use Rattle.relay_threads.proofs.rows.pop_each.Goals as goal

pub loop-i-init : goal.loop-i-init
loop-i-init g c = record { len = refl; pops = pops_none _ _ c.new-lasts.ensures.items c.requires }

pub unreachable-requires : goal.unreachable-requires
unreachable-requires g c =
    let i = c.loop-i.invariant in
    let lt : c.loop-i.i < length c.loop-i.rows.items = omega (arith, c.loop-i.rows.ok.0, i.len, c.loop-i-test.true, c.len-i-end.ensures) in
    let some = some_here (λ r. r.items) _ c.loop-i.rows.items _ c.loop-i.i c.index_mut.result.now i.pops lt c.index_mut.ensures.value in
    let none = c.in_default.ensures.cases in
    let long = c.index_mut.result.now.ok.0 in
    omega (arith, some, none.0, long)

pub loop-i-preserved : goal.loop-i-preserved
loop-i-preserved g c =
    let i = c.loop-i.invariant in
    let lt : c.loop-i.i < length c.loop-i.rows.items = omega (arith, c.loop-i.rows.ok.0, i.len, c.loop-i-test.true, c.len-i-end.ensures) in
    record {
      len = i.len;
      pops = pops_here (λ r. r.items) _ c.loop-i.rows.items _ _ c.loop-i.i c.index_mut.result.now c.pop.new.self c.in-Some.last i.pops lt c.index_mut.ensures.value c.in-Some.ensures.items c.in_ok-push.ensures.items;
    }
