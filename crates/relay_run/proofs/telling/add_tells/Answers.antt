use Rattle.std.proofs.Common.{arith, subst}
use Rattle.std.specs.Vec.Iter.{into_iter_items}
use Rattle.relay_run.specs.Saving.{AreUntold, lane_seat, seat_of}
use Rattle.relay_run.proofs.Meeting.{gives_seen}
use Rattle.relay_run.proofs.Savers.{new_on, go_on_more, left_on}
use Rattle.relay_run.proofs.telling.add_tells.Goals as goal

pub loop-file-preserved : goal.loop-file-preserved
loop-file-preserved g c =
    let i = c.loop-file.invariant in
    let s = c.in-Some.ensures.steps in
    let one = c.in_ok-add_tell-in-Some-next.ensures.added in
    record {
      count = omega (arith, i.count, s.1, c.in_ok-add_tell-in-Some-next.ensures.len);
      new = new_on c.loop-file.tells.items c.add_tell.new.tells.items one.0 one.1 i.new one.2;
      before = go_on_more c.args.numbering.before c.loop-file.tells.items c.add_tell.new.tells.items one.0 one.1 i.before one.3;
      settled = (subst AreUntold c.in-Some-next.ensures.items i.settled).1;
      seats =
          gives_seen seat_of lane_seat c.args.settled.items (into_iter_items c.loop-file.settled) (into_iter_items c.next-in-loop-file.new.self) c.loop-file.tells.items c.add_tell.new.tells.items one.0 c.in-Some-next.settled i.seats c.in-Some-next.ensures.items
          one.1 one.4;
      lanes = omega (arith, i.lanes, s.1, c.in-Some-next.ensures.len);
      left = (left_on g.P.ByteStream.written g.P.ByteStream.failed (into_iter_items c.loop-file.file-iterator) (into_iter_items c.next.new.self) c.in-Some.file s.0 i.left).1;
    }
