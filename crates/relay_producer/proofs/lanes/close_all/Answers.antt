use Rattle.std.proofs.Common.{arith}
use Rattle.std.proofs.lemmas.List.{length_push}
use Rattle.std.specs.Vec.Iter.{into_iter_items}
use Rattle.relay_producer.proofs.Closing.{zip_push, in_turn}
use Rattle.relay_producer.proofs.lanes.close_all.Goals as goal

pub loop-end-preserved : goal.loop-end-preserved
loop-end-preserved g c =
    let l = c.loop-end.invariant in
    let n = length_push c.loop-end.yielded c.in-Some.end in
    record {
      closed = rw c.push_reserved.ensures.items (zip_push c.loop-end.yielded c.loop-end.closed.items c.in-Some.end c.close.result l.closed c.close.ensures);
      all = in_turn c.loop-end.yielded (into_iter_items c.loop-end.end-iterator) (into_iter_items c.next.new.self) c.args.ends.items c.in-Some.end c.in-Some.ensures.steps.0 l.all;
      count = omega (arith, c.push_reserved.ensures.len, l.count);
      room = omega (arith, c.push_reserved.ensures.capacity, l.room);
    }
