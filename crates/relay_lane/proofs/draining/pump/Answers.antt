use Rattle.std.proofs.Common.{◌≡◌, ◌<◌, true, refl, ap, ◌∙◌, arith, length}
use Rattle.relay_core.specs.declared.config.RelayConfig.{RelayConfig}
use Rattle.relay_core.specs.State.{State}
use Rattle.relay_lane.specs.Turns.{Settles, pumps, is_crowded, sends_left}
use Rattle.relay_lane.proofs.Counting.{stays_itself, stays_on, stays_as}
use Rattle.relay_lane.proofs.Calling.{worked_on_none, worked_on_more, worked_on_still}
use Rattle.relay_lane.proofs.Limits.{valid_limits}
use Rattle.relay_lane.proofs.Waiting.{within_test}
use Rattle.relay_lane.proofs.Stepping.{asked_sent, not_asked, not_called, settles_turned, sends_small, passed_none, passed_on}
use Rattle.relay_lane.proofs.draining.pump.Goals as goal

pub turns-init : goal.turns-init
turns-init g c =
    let s = c.args.lane.now.state in
    let small = sends_small s c.totals.ensures.lane in
    record {
      stays = stays_itself s;
      sent = omega arith;
      left = omega arith;
      few = omega (arith, small);
      worked = worked_on_none (g.W.Wire.describes c.args.wire.now) g.W.Wire.fits g.W.Wire.carries pumps c.args.wire.now s;
      passed = passed_none s (g.P.Pace.paused c.args.pace.now) c.totals.ensures.lane;
      out = c.requires.out;
      describes = refl;
    }

pub returns-in_err-send_next-clause-worked : goal.returns-in_err-send_next-clause-worked
returns-in_err-send_next-clause-worked g c =
    worked_on_still (g.W.Wire.describes c.args.wire.now) g.W.Wire.fits g.W.Wire.carries pumps (g.W.Wire.describes c.turns.wire) c.args.wire.now c.turns.wire c.send_next.new.wire c.args.lane.now.state c.turns.lane.state c.send_next.new.lane.state
    c.turns.invariant.describes c.turns.invariant.worked c.in_err-send_next.ensures.unchanged c.in_err-send_next.ensures.delivers

pub returns-else-flying-places-clause-worked : goal.returns-else-flying-places-clause-worked
returns-else-flying-places-clause-worked g c =
    worked_on_still (g.W.Wire.describes c.args.wire.now) g.W.Wire.fits g.W.Wire.carries pumps (g.W.Wire.describes c.turns.wire) c.args.wire.now c.turns.wire c.send_next.new.wire c.args.lane.now.state c.turns.lane.state c.send_next.new.lane.state
    c.turns.invariant.describes c.turns.invariant.worked (not_asked (g.W.Wire.describes c.turns.wire) g.W.Wire.fits g.W.Wire.carries c.turns.wire c.send_next.new.wire c.in_ok-send_next.field-0 c.turns.lane.state c.send_next.new.lane.state c.if-branch.false c.in_ok-send_next.ensures.turn) (not_called (g.W.Wire.describes c.turns.wire) g.W.Wire.fits g.W.Wire.carries c.turns.wire c.send_next.new.wire c.in_ok-send_next.field-0 c.turns.lane.state c.send_next.new.lane.state c.if-branch.false c.in_ok-send_next.ensures.turn)

pub returns-in_err-send_next-clause-passed : goal.returns-in_err-send_next-clause-passed
returns-in_err-send_next-clause-passed g c =
    passed_on c.args.lane.now.state.core.clock c.turns.lane.state.core.clock c.send_next.new.lane.state.core.clock (g.P.Pace.paused c.args.pace.now) (g.P.Pace.paused c.turns.pace) (g.P.Pace.paused c.send_next.new.pace) c.turns.invariant.passed c.send_next.ensures.passed

pub returns-else-flying-places-clause-passed : goal.returns-else-flying-places-clause-passed
returns-else-flying-places-clause-passed g c =
    passed_on c.args.lane.now.state.core.clock c.turns.lane.state.core.clock c.send_next.new.lane.state.core.clock (g.P.Pace.paused c.args.pace.now) (g.P.Pace.paused c.turns.pace) (g.P.Pace.paused c.send_next.new.pace) c.turns.invariant.passed c.send_next.ensures.passed

-- ---- if a request was sent

pub turns-smaller-then-branch : goal.turns-smaller-then-branch
turns-smaller-then-branch g c =
    let k = asked_sent (g.W.Wire.describes c.turns.wire) g.W.Wire.fits g.W.Wire.carries c.turns.wire c.send_next.new.wire c.in_ok-send_next.field-0 c.turns.lane.state c.send_next.new.lane.state c.send_next.ensures.lane c.in_ok-send_next.ensures.some c.if-branch.true c.in_ok-send_next.ensures.turn in
    let f = k.turned.falls in
    omega (arith, f)

pub turns-preserved-then-branch : goal.turns-preserved-then-branch
turns-preserved-then-branch g c =
    let i = c.turns.invariant in
    let s0 = c.args.lane.now.state in
    let s = c.turns.lane.state in
    let t = c.send_next.new.lane.state in
    let k = asked_sent (g.W.Wire.describes c.turns.wire) g.W.Wire.fits g.W.Wire.carries c.turns.wire c.send_next.new.wire c.in_ok-send_next.field-0 s t c.send_next.ensures.lane c.in_ok-send_next.ensures.some c.if-branch.true c.in_ok-send_next.ensures.turn in
    let one = k.one in
    let keeps = k.turned.keeps in
    record {
      stays = stays_on s0 s t i.stays keeps.stays;
      sent = (let a = i.sent in let b = keeps.requests in omega (arith, a, b, one));
      left = (let a = i.left in let b = k.turned.left in omega (arith, a, b, one));
      few = i.few;
      worked = worked_on_more (g.W.Wire.describes c.args.wire.now) g.W.Wire.fits g.W.Wire.carries pumps k.turn (g.W.Wire.describes c.turns.wire) c.args.wire.now c.turns.wire c.send_next.new.wire s0 s t i.describes i.worked k.may_pump k.turned.may k.turned.reached k.delivers;
      passed = passed_on s0.core.clock s.core.clock t.core.clock (g.P.Pace.paused c.args.pace.now) (g.P.Pace.paused c.turns.pace) (g.P.Pace.paused c.send_next.new.pace) i.passed c.send_next.ensures.passed;
      out = c.send_next.ensures.out;
      describes = c.send_next.ensures.describes ∙ i.describes;
    }

-- ---- if no place is free

pub turns-smaller : goal.turns-smaller
turns-smaller g c =
    let s = c.turns.lane.state in
    let t = c.send_next.new.lane.state in
    let same = not_asked (g.W.Wire.describes c.turns.wire) g.W.Wire.fits g.W.Wire.carries c.turns.wire c.send_next.new.wire c.in_ok-send_next.field-0 s t c.if-branch.false c.in_ok-send_next.ensures.turn in
    let x = c.settle_oldest.ensures.turn in
    let some : 0 < length t.core.flying = (let a = c.if-flying-places.true in let b = c.flying.ensures in let p = c.in_flight-places.ensures in let v = (valid_limits c.args.lane.now.state.config c.totals.ensures.lane.valid).places.0 in omega (arith, a, b, p, v)) in
    let k = settles_turned (g.W.Wire.describes c.send_next.new.wire) g.W.Wire.fits g.W.Wire.carries c.send_next.new.wire c.settle_oldest.new.wire t c.settle_oldest.new.lane.state x some in
    let f = k.falls in
    let left = ap (λ (y : State). sends_left y) same in
    let flying = ap (λ (y : State). length y.core.flying) same in
    omega (arith, f, left, flying)

pub turns-preserved : goal.turns-preserved
turns-preserved g c =
    let i = c.turns.invariant in
    let s0 = c.args.lane.now.state in
    let s = c.turns.lane.state in
    let t = c.send_next.new.lane.state in
    let u = c.settle_oldest.new.lane.state in
    let same = not_asked (g.W.Wire.describes c.turns.wire) g.W.Wire.fits g.W.Wire.carries c.turns.wire c.send_next.new.wire c.in_ok-send_next.field-0 s t c.if-branch.false c.in_ok-send_next.ensures.turn in
    let still = not_called (g.W.Wire.describes c.turns.wire) g.W.Wire.fits g.W.Wire.carries c.turns.wire c.send_next.new.wire c.in_ok-send_next.field-0 s t c.if-branch.false c.in_ok-send_next.ensures.turn in
    let x = c.settle_oldest.ensures.turn in
    let some : 0 < length t.core.flying = (let a = c.if-flying-places.true in let b = c.flying.ensures in let p = c.in_flight-places.ensures in let v = (valid_limits c.args.lane.now.state.config c.totals.ensures.lane.valid).places.0 in omega (arith, a, b, p, v)) in
    let k = settles_turned (g.W.Wire.describes c.send_next.new.wire) g.W.Wire.fits g.W.Wire.carries c.send_next.new.wire c.settle_oldest.new.wire t u x some in
    let requests = ap (λ (y : State). y.core.requests) same in
    let left = ap (λ (y : State). sends_left y) same in
    let crowded : is_crowded t ≡ true = within_test _ _ (let a = c.if-flying-places.true in let b = c.flying.ensures in let p = c.in_flight-places.ensures in let d = ap (λ (y : State). y.config.in_flight) same in let e = ap (λ (y : RelayConfig). y.in_flight) i.stays.config in omega (arith, a, b, p, d, e)) in
    record {
      stays = stays_on s0 t u (stays_as s0 s t i.stays same) k.keeps.stays;
      sent = (let a = i.sent in let b = k.keeps.requests in omega (arith, a, b, requests));
      left = (let a = i.left in let b = k.left in omega (arith, a, b, left));
      few = i.few;
      worked = worked_on_more (g.W.Wire.describes c.args.wire.now) g.W.Wire.fits g.W.Wire.carries pumps (Settles x.ticks x.answer) (g.W.Wire.describes c.send_next.new.wire) c.args.wire.now c.send_next.new.wire c.settle_oldest.new.wire s0 t u (c.send_next.ensures.describes ∙ i.describes)
          (worked_on_still (g.W.Wire.describes c.args.wire.now) g.W.Wire.fits g.W.Wire.carries pumps (g.W.Wire.describes c.turns.wire) c.args.wire.now c.turns.wire c.send_next.new.wire s0 s t i.describes i.worked same still) crowded k.may k.reached x.delivers;
      passed = passed_on s0.core.clock t.core.clock u.core.clock (g.P.Pace.paused c.args.pace.now) (g.P.Pace.paused c.send_next.new.pace) (g.P.Pace.paused c.settle_oldest.new.pace)
          (passed_on s0.core.clock s.core.clock t.core.clock (g.P.Pace.paused c.args.pace.now) (g.P.Pace.paused c.turns.pace) (g.P.Pace.paused c.send_next.new.pace) i.passed c.send_next.ensures.passed) c.settle_oldest.ensures.passed;
      out = c.settle_oldest.ensures.out;
      describes = c.settle_oldest.ensures.describes ∙ c.send_next.ensures.describes ∙ i.describes;
    }
