use Rattle.std.proofs.Common.{arith, ap, sym, ◌+◌, ◌∙◌, ◌∷◌, ◌++◌, [], subst}
use Rattle.std.specs.Vec.Iter.{into_iter_items}
use Rattle.relay_threads.specs.Relay.{NoneOut}
use Rattle.relay_threads.specs.Lanes.{AreLanesOf}
use Rattle.relay_threads.proofs.Dealing.{lanes_more, wires_more, tells_more, puts_more}
use Rattle.relay_threads.proofs.start.make_lanes.Goals as goal

pub loop-wire-preserved : goal.loop-wire-preserved
loop-wire-preserved g c =
    let i = c.loop-wire.invariant in
    let s = c.in-Some.ensures.steps in
    let made = c.in_ok-lane.ensures in
    let h = c.in_ok-lane.lane in
    let more_h = c.push_reserved.ensures.items ∙ ap (λ l. l ++ h ∷ []) c.in_ok-reserve.ensures.items in
    let more_c = c.push_reserved-in-loop-wire.ensures.items ∙ ap (λ l. l ++ c.in_ok-lane.puts ∷ []) c.in_ok-reserve-2.ensures.items in
    record {
      count = omega (arith, i.count, s.1, c.push_reserved-in-loop-wire.ensures.len, c.in_ok-reserve-2.ensures.len);
      lanes = subst (AreLanesOf c.args.config) (sym more_h) (lanes_more c.args.config c.loop-wire.lanes.items h i.lanes made.config made.senders);
      wires = wires_more c.loop-wire.lanes.items _ h c.in-Some.wire _ (into_iter_items c.next.new.self) _ more_h made.wire s.0 i.wires;
      puts = puts_more (λ v. v.items) (c.args.config.producers + 1) c.loop-wire.lanes.items _ h c.loop-wire.columns.items _ c.in_ok-lane.puts more_h more_c made.puts i.puts;
      out = (subst (NoneOut g.W.Wire.out) s.0 i.out).1;
      paces = omega (arith, i.paces, s.1, c.in-Some-next.ensures.len);
      tells = omega (arith, i.tells, s.1, c.in-Some-next-2.ensures.len);
      told = tells_more c.loop-wire.lanes.items _ h c.in-Some-next-2.tell _ (into_iter_items c.next-in-loop-wire-2.new.self) _ more_h made.tell c.in-Some-next-2.ensures.items i.told;
    }
