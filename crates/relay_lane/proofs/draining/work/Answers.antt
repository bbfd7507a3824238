use Rattle.std.proofs.Common.{◌≡◌, true, refl, ◌∙◌, arith}
use Rattle.relay_results.proofs.Lists.{and_both}
use Rattle.relay_lane.specs.Turns.{holds, sends_first}
use Rattle.relay_lane.proofs.Waiting.{within_test}
use Rattle.relay_lane.proofs.Counting.{stays_itself, stays_on}
use Rattle.relay_lane.proofs.Calling.{worked_on_none, worked_on_more, worked_on_still}
use Rattle.relay_lane.proofs.Stepping.{passed_none, passed_on}
use Rattle.relay_lane.proofs.draining.work.Goals as goal

pub turns-init : goal.turns-init
turns-init g c =
    let s = c.args.lane.now.state in
    record {
      stays = stays_itself s;
      pressed = c.requires.pressed;
      worked = worked_on_none (g.W.Wire.describes c.args.wire.now) g.W.Wire.fits g.W.Wire.carries (holds c.args.least) c.args.wire.now s;
      left = omega arith;
      passed = passed_none s (g.P.Pace.paused c.args.pace.now) c.totals.ensures.lane;
      out = c.requires.out;
      describes = refl;
    }

pub take_turn-requires-clause-some : goal.take_turn-requires-clause-some
take_turn-requires-clause-some g c = let a = c.turns-test.true in let b = c.held.ensures in let d = c.requires.some in omega (arith, a, b, d)

pub turns-preserved : goal.turns-preserved
turns-preserved g c =
    let i = c.turns.invariant in
    let d = g.W.Wire.describes in
    let fits = g.W.Wire.fits in
    let carries = g.W.Wire.carries in
    let u = c.args.wire.now in
    let v = c.turns.wire in
    let w = c.take_turn.new.wire in
    let s0 = c.args.lane.now.state in
    let s = c.turns.lane.state in
    let t = c.take_turn.new.lane.state in
    let k = c.in_ok-take_turn.ensures.turn in
    let going : holds c.args.least k.took.turn s ≡ true = and_both _ (sends_first k.took.turn s) (within_test _ _ (let a = c.turns-test.true in let b = c.held.ensures in omega (arith, a, b))) k.took.goes in
    record {
      stays = stays_on s0 s t i.stays k.stays;
      pressed = k.pressed;
      worked = worked_on_more (d u) fits carries (holds c.args.least) k.took.turn (d v) u v w s0 s t i.describes i.worked going k.took.may k.took.reached k.took.delivers;
      left = (let a = i.left in let b = k.bound in omega (arith, a, b));
      passed = passed_on s0.core.clock s.core.clock t.core.clock (g.P.Pace.paused c.args.pace.now) (g.P.Pace.paused c.turns.pace) (g.P.Pace.paused c.take_turn.new.pace) i.passed c.take_turn.ensures.passed;
      out = c.take_turn.ensures.out;
      describes = c.take_turn.ensures.describes ∙ i.describes;
    }

pub turns-smaller : goal.turns-smaller
turns-smaller g c = c.in_ok-take_turn.ensures.turn.smaller

pub returns-in_err-take_turn-clause-worked : goal.returns-in_err-take_turn-clause-worked
returns-in_err-take_turn-clause-worked g c =
    let d = g.W.Wire.describes in
    let i = c.turns.invariant in
    worked_on_still (d c.args.wire.now) g.W.Wire.fits g.W.Wire.carries (holds c.args.least) (d c.turns.wire) c.args.wire.now c.turns.wire c.take_turn.new.wire c.args.lane.now.state c.turns.lane.state c.take_turn.new.lane.state
    i.describes i.worked c.in_err-take_turn.ensures.unchanged c.in_err-take_turn.ensures.delivers

pub returns-in_err-take_turn-clause-passed : goal.returns-in_err-take_turn-clause-passed
returns-in_err-take_turn-clause-passed g c =
    passed_on c.args.lane.now.state.core.clock c.turns.lane.state.core.clock c.take_turn.new.lane.state.core.clock (g.P.Pace.paused c.args.pace.now) (g.P.Pace.paused c.turns.pace) (g.P.Pace.paused c.take_turn.new.pace) c.turns.invariant.passed c.take_turn.ensures.passed
