use Rattle.std.proofs.Common.{◌<◌, ◌+◌, ◌∷◌, ◌++◌, [], false, length, refl, sym, ap, ◌∙◌, arith}
use Rattle.std.specs.Vec.Iter.{into_iter_items, into_iter_len}
use Rattle.relay_telling.proofs.New.{first_none, first_next, fresh_from, from_next, tells_from}
use Rattle.relay_telling.proofs.lane_tells.give_ends.Goals as goal

pub loop-tell-init : goal.loop-tell-init
loop-tell-init c =
    let g = c.into_iter-tell-iterator.ensures.into_iter_gives in
    record {
      count = omega (arith, g.1, c.requires);
      len = refl;
      given = λ channel e. (g.0 ∙ e ∙ fresh_from channel _ ∙ ap (tells_from channel 0) (sym c.requires ∙ sym g.1), first_none channel 0 c.args.tells.now.items);
    }

pub loop-tell-preserved : goal.loop-tell-preserved
loop-tell-preserved c =
    let i = c.loop-tell.invariant in
    let s = c.in-Some.ensures.steps in
    let x = c.index_mut.result.now in
    let lt : c.loop-tell.lane < length c.loop-tell.tells.items = omega (arith, i.count, s.1, c.loop-tell.tells.ok.0) in
    record {
      count = omega (arith, i.count, s.1);
      len = i.len;
      given = λ channel e.
          let h = i.given channel e in
          let n = from_next channel c.loop-tell.lane (into_iter_len c.loop-tell.tell-iterator) (into_iter_len c.next.new.self) c.in-Some.tell (into_iter_items c.next.new.self) (sym s.0 ∙ h.0) (sym s.1) in
          (n.1, first_next channel c.loop-tell.lane (c.loop-tell.lane + 1) c.args.tells.now.items c.loop-tell.tells.items x _ refl h.1 lt c.index_mut.ensures.value (c.in_ok-push.ensures.items ∙ ap (λ t. x.ends.items ++ record { tell = t; gone = false } ∷ []) n.0));
    }
