use Rattle.std.proofs.Common.{◌<◌, refl, arith, length}
use Rattle.relay_lane.specs.Turns.{Settles, collects}
use Rattle.relay_lane.proofs.Calling.{worked_on_none, worked_on_turn}
use Rattle.relay_lane.proofs.Stepping.{settles_turned, settled_one, passed_none}
use Rattle.relay_lane.proofs.draining.settle_next.Goals as goal

pub returns-then-flying-eq0-clause-worked : goal.returns-then-flying-eq0-clause-worked
returns-then-flying-eq0-clause-worked g c = worked_on_none (g.W.Wire.describes c.args.wire.now) g.W.Wire.fits g.W.Wire.carries collects c.args.wire.now c.args.lane.now.state

pub returns-then-flying-eq0-clause-passed : goal.returns-then-flying-eq0-clause-passed
returns-then-flying-eq0-clause-passed g c = passed_none c.args.lane.now.state (g.P.Pace.paused c.args.pace.now) c.totals.ensures.lane

pub returns-clause-one : goal.returns-clause-one
returns-clause-one g c =
    let x = c.settle_oldest.ensures.turn in
    let some : 0 < length c.args.lane.now.state.core.flying = (let a = c.if-flying-eq0.false in let b = c.flying.ensures in omega (arith, a, b)) in
    let one = settled_one (g.W.Wire.describes c.args.wire.now) g.W.Wire.fits g.W.Wire.carries c.args.wire.now c.settle_oldest.new.wire c.args.lane.now.state c.settle_oldest.new.lane.state x some in
    omega (arith, one)

pub returns-clause-worked : goal.returns-clause-worked
returns-clause-worked g c =
    let s = c.args.lane.now.state in
    let x = c.settle_oldest.ensures.turn in
    let some : 0 < length s.core.flying = (let a = c.if-flying-eq0.false in let b = c.flying.ensures in omega (arith, a, b)) in
    let k = settles_turned (g.W.Wire.describes c.args.wire.now) g.W.Wire.fits g.W.Wire.carries c.args.wire.now c.settle_oldest.new.wire s c.settle_oldest.new.lane.state x some in
    worked_on_turn (g.W.Wire.describes c.args.wire.now) g.W.Wire.fits g.W.Wire.carries collects (Settles x.ticks x.answer) c.args.wire.now c.settle_oldest.new.wire s c.settle_oldest.new.lane.state refl k.may k.reached x.delivers

pub returns-clause-bound : goal.returns-clause-bound
returns-clause-bound g c =
    let s = c.args.lane.now.state in
    let x = c.settle_oldest.ensures.turn in
    let some : 0 < length s.core.flying = (let a = c.if-flying-eq0.false in let b = c.flying.ensures in omega (arith, a, b)) in
    let left = (settles_turned (g.W.Wire.describes c.args.wire.now) g.W.Wire.fits g.W.Wire.carries c.args.wire.now c.settle_oldest.new.wire s c.settle_oldest.new.lane.state x some).left in
    omega (arith, left)
