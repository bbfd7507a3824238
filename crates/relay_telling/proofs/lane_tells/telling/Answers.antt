use Rattle.std.proofs.Common.{[], ◌∷◌, ◌++◌, sym, ap, ◌∙◌, subst, arith}
use Rattle.relay_telling.specs.New.{AreNewTells}
use Rattle.relay_telling.proofs.New.{new_row, takes_more, tells_more}
use Rattle.relay_telling.proofs.lane_tells.telling.Goals as goal

pub loop-lane-preserved : goal.loop-lane-preserved
loop-lane-preserved c =
    let i = c.loop-lane.invariant in
    record {
      lanes = omega (arith, i.lanes, c.in_ok-push.ensures.len);
      tells = subst (AreNewTells [] 0) (sym c.in_ok-push.ensures.items) (new_row 0 c.loop-lane.tells.items _ i.tells c.new.ensures.items);
    }

pub loop-producer-preserved : goal.loop-producer-preserved
loop-producer-preserved c =
    let i = c.loop-producer.invariant in
    let t = c.in_ok-add_producer.field-0 in
    let p = c.push_reserved.ensures in
    let more = p.items ∙ ap (λ l. l ++ t ∷ []) c.in_ok-reserve.ensures.items in
    let len = c.in_ok-add_producer.ensures.len in
    record {
      lanes = len ∙ i.lanes;
      takes = omega (arith, i.takes, p.len, c.in_ok-reserve.ensures.len);
      new = takes_more c.args.lanes c.loop-producer.takes.items _ t more c.in_ok-add_producer.ensures.take i.new;
      tells = tells_more c.loop-producer.takes.items _ t c.args.lanes c.loop-producer.tells.items c.add_producer.new.tells.items more i.tells c.in_ok-add_producer.ensures.tells (sym (len ∙ i.lanes) ∙ c.add_producer.new.tells.ok.0);
    }
