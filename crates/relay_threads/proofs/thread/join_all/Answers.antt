use Rattle.std.proofs.Common.{arith}
use Rattle.std.specs.Vec.Iter.{into_iter_items}
use Rattle.relay_threads.proofs.Joining.{joins_on, stays_on}
use Rattle.relay_threads.proofs.thread.join_all.Goals as goal

pub loop-lane-preserved : goal.loop-lane-preserved
loop-lane-preserved g c =
    let i = c.loop-lane.invariant in
    let s = c.in-Some.ensures.steps in
    let p = c.push_reserved.ensures in
    let q = c.push_reserved-in-loop-lane.ensures in
    record {
      places = omega (arith, i.places, s.1, p.len, p.capacity);
      tell_places = omega (arith, i.tell_places, s.1, q.len, q.capacity);
      joins = rw (p.items, q.items) (joins_on g.W.Wire.describes g.W.Wire.fits g.W.Wire.carries g.T.Tell.told _ _ (into_iter_items c.next.new.self) _ _ c.in-Some.lane c.join-end.result.0 c.join-end.result.1 i.joins s.0 c.join-end.ensures.0 c.join-end.ensures.1);
      destinations = rw q.items (stays_on g.T.Tell.destination c.args.lanes.items _ (into_iter_items c.next.new.self) c.loop-lane.tells.items c.in-Some.lane c.join-end.result.1 i.destinations s.0 c.join-end.ensures.2);
    }
