use Rattle.std.proofs.Common.{◌<◌, refl, ◌∙◌, arith, length}
use Rattle.relay_lane.specs.Turns.{Settles, collects}
use Rattle.relay_lane.proofs.Counting.{stays_itself, stays_on}
use Rattle.relay_lane.proofs.Calling.{worked_on_none, worked_on_more}
use Rattle.relay_lane.proofs.Stepping.{settles_turned, settled_one, few_fly, passed_none, passed_on}
use Rattle.relay_lane.proofs.draining.collect.Goals as goal

pub answers-init : goal.answers-init
answers-init g c =
    let s = c.args.lane.now.state in
    let few = few_fly s c.totals.ensures.lane in
    record {
      stays = stays_itself s;
      settled = omega arith;
      few = omega (arith, few);
      requests = refl;
      left = omega arith;
      worked = worked_on_none (g.W.Wire.describes c.args.wire.now) g.W.Wire.fits g.W.Wire.carries collects c.args.wire.now s;
      passed = passed_none s (g.P.Pace.paused c.args.pace.now) c.totals.ensures.lane;
      out = c.requires.out;
      describes = refl;
    }

pub answers-smaller : goal.answers-smaller
answers-smaller g c =
    let x = c.settle_oldest.ensures.turn in
    let some : 0 < length c.answers.lane.state.core.flying = (let a = c.answers-test.true in let b = c.flying.ensures in omega (arith, a, b)) in
    let one = settled_one (g.W.Wire.describes c.answers.wire) g.W.Wire.fits g.W.Wire.carries c.answers.wire c.settle_oldest.new.wire c.answers.lane.state c.settle_oldest.new.lane.state x some in
    omega (arith, one)

pub answers-preserved : goal.answers-preserved
answers-preserved g c =
    let i = c.answers.invariant in
    let s0 = c.args.lane.now.state in
    let s = c.answers.lane.state in
    let t = c.settle_oldest.new.lane.state in
    let x = c.settle_oldest.ensures.turn in
    let some : 0 < length s.core.flying = (let a = c.answers-test.true in let b = c.flying.ensures in omega (arith, a, b)) in
    let one = settled_one (g.W.Wire.describes c.answers.wire) g.W.Wire.fits g.W.Wire.carries c.answers.wire c.settle_oldest.new.wire s t x some in
    let k = settles_turned (g.W.Wire.describes c.answers.wire) g.W.Wire.fits g.W.Wire.carries c.answers.wire c.settle_oldest.new.wire s t x some in
    record {
      stays = stays_on s0 s t i.stays k.keeps.stays;
      settled = (let a = i.settled in omega (arith, a, one));
      few = i.few;
      requests = (let a = i.requests in let b = k.keeps.requests in omega (arith, a, b));
      left = (let a = i.left in let b = k.left in omega (arith, a, b));
      worked = worked_on_more (g.W.Wire.describes c.args.wire.now) g.W.Wire.fits g.W.Wire.carries collects (Settles x.ticks x.answer) (g.W.Wire.describes c.answers.wire) c.args.wire.now c.answers.wire c.settle_oldest.new.wire s0 s t i.describes i.worked refl k.may k.reached x.delivers;
      passed = passed_on s0.core.clock s.core.clock t.core.clock (g.P.Pace.paused c.args.pace.now) (g.P.Pace.paused c.answers.pace) (g.P.Pace.paused c.settle_oldest.new.pace) i.passed c.settle_oldest.ensures.passed;
      out = c.settle_oldest.ensures.out;
      describes = c.settle_oldest.ensures.describes ∙ i.describes;
    }
