use Rattle.std.proofs.Common.{refl, ◌∙◌, arith}
use Rattle.relay_lane.specs.Turns.{sends_only}
use Rattle.relay_lane.proofs.Counting.{stays_itself, stays_on}
use Rattle.relay_lane.proofs.Calling.{worked_on_none, worked_on_more, worked_on_still}
use Rattle.relay_lane.proofs.Stepping.{asked_sent, not_asked, not_called, sends_small, passed_none, passed_on}
use Rattle.relay_lane.proofs.draining.send_ready.Goals as goal

pub turns-init : goal.turns-init
turns-init g c =
    let s = c.args.lane.now.state in
    let small = sends_small s c.totals.ensures.lane in
    record {
      stays = stays_itself s;
      sent = omega arith;
      left = omega arith;
      few = omega (arith, small);
      worked = worked_on_none (g.W.Wire.describes c.args.wire.now) g.W.Wire.fits g.W.Wire.carries sends_only c.args.wire.now s;
      passed = passed_none s (g.P.Pace.paused c.args.pace.now) c.totals.ensures.lane;
      out = c.requires.out;
      describes = refl;
    }

pub returns-in_err-send_next-clause-worked : goal.returns-in_err-send_next-clause-worked
returns-in_err-send_next-clause-worked g c =
    worked_on_still (g.W.Wire.describes c.args.wire.now) g.W.Wire.fits g.W.Wire.carries sends_only (g.W.Wire.describes c.turns.wire) c.args.wire.now c.turns.wire c.send_next.new.wire c.args.lane.now.state c.turns.lane.state c.send_next.new.lane.state
    c.turns.invariant.describes c.turns.invariant.worked c.in_err-send_next.ensures.unchanged c.in_err-send_next.ensures.delivers

pub returns-else-branch-clause-worked : goal.returns-else-branch-clause-worked
returns-else-branch-clause-worked g c =
    worked_on_still (g.W.Wire.describes c.args.wire.now) g.W.Wire.fits g.W.Wire.carries sends_only (g.W.Wire.describes c.turns.wire) c.args.wire.now c.turns.wire c.send_next.new.wire c.args.lane.now.state c.turns.lane.state c.send_next.new.lane.state
    c.turns.invariant.describes c.turns.invariant.worked (not_asked (g.W.Wire.describes c.turns.wire) g.W.Wire.fits g.W.Wire.carries c.turns.wire c.send_next.new.wire c.in_ok-send_next.field-0 c.turns.lane.state c.send_next.new.lane.state c.if-branch.false c.in_ok-send_next.ensures.turn) (not_called (g.W.Wire.describes c.turns.wire) g.W.Wire.fits g.W.Wire.carries c.turns.wire c.send_next.new.wire c.in_ok-send_next.field-0 c.turns.lane.state c.send_next.new.lane.state c.if-branch.false c.in_ok-send_next.ensures.turn)

pub returns-in_err-send_next-clause-passed : goal.returns-in_err-send_next-clause-passed
returns-in_err-send_next-clause-passed g c =
    passed_on c.args.lane.now.state.core.clock c.turns.lane.state.core.clock c.send_next.new.lane.state.core.clock (g.P.Pace.paused c.args.pace.now) (g.P.Pace.paused c.turns.pace) (g.P.Pace.paused c.send_next.new.pace) c.turns.invariant.passed c.send_next.ensures.passed

pub returns-else-branch-clause-passed : goal.returns-else-branch-clause-passed
returns-else-branch-clause-passed g c =
    passed_on c.args.lane.now.state.core.clock c.turns.lane.state.core.clock c.send_next.new.lane.state.core.clock (g.P.Pace.paused c.args.pace.now) (g.P.Pace.paused c.turns.pace) (g.P.Pace.paused c.send_next.new.pace) c.turns.invariant.passed c.send_next.ensures.passed

-- ---- if a request was sent

pub turns-smaller : goal.turns-smaller
turns-smaller g c =
    let k = asked_sent (g.W.Wire.describes c.turns.wire) g.W.Wire.fits g.W.Wire.carries c.turns.wire c.send_next.new.wire c.in_ok-send_next.field-0 c.turns.lane.state c.send_next.new.lane.state c.send_next.ensures.lane c.in_ok-send_next.ensures.some c.if-branch.true c.in_ok-send_next.ensures.turn in
    let f = k.turned.falls in
    omega (arith, f)

pub turns-preserved : goal.turns-preserved
turns-preserved g c =
    let i = c.turns.invariant in
    let s0 = c.args.lane.now.state in
    let s = c.turns.lane.state in
    let t = c.send_next.new.lane.state in
    let k = asked_sent (g.W.Wire.describes c.turns.wire) g.W.Wire.fits g.W.Wire.carries c.turns.wire c.send_next.new.wire c.in_ok-send_next.field-0 s t c.send_next.ensures.lane c.in_ok-send_next.ensures.some c.if-branch.true c.in_ok-send_next.ensures.turn in
    let one = k.one in
    let keeps = k.turned.keeps in
    record {
      stays = stays_on s0 s t i.stays keeps.stays;
      sent = (let a = i.sent in let b = keeps.requests in omega (arith, a, b, one));
      left = (let a = i.left in let b = k.turned.left in omega (arith, a, b, one));
      few = i.few;
      worked = worked_on_more (g.W.Wire.describes c.args.wire.now) g.W.Wire.fits g.W.Wire.carries sends_only k.turn (g.W.Wire.describes c.turns.wire) c.args.wire.now c.turns.wire c.send_next.new.wire s0 s t i.describes i.worked k.may_send k.turned.may k.turned.reached k.delivers;
      passed = passed_on s0.core.clock s.core.clock t.core.clock (g.P.Pace.paused c.args.pace.now) (g.P.Pace.paused c.turns.pace) (g.P.Pace.paused c.send_next.new.pace) i.passed c.send_next.ensures.passed;
      out = c.send_next.ensures.out;
      describes = c.send_next.ensures.describes ∙ i.describes;
    }
