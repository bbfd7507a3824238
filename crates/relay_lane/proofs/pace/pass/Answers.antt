use Rattle.std.proofs.Common.{◌≡◌, ap, ◌∙◌, arith}
use Rattle.relay_lane.specs.Turns.{after_ticks}
use Rattle.relay_lane.proofs.Ticking.{fitting, fitting_none, fitting_more, fitting_clock}
use Rattle.relay_lane.proofs.pace.pass.Goals as goal

pub loop-tick-init : goal.loop-tick-init
loop-tick-init g c = fitting_none c.args.lane.now.state c.totals.ensures.lane.clock

pub loop-tick-preserved : goal.loop-tick-preserved
loop-tick-preserved g c =
    c.tick.ensures.ticked ∙ fitting_more c.args.lane.now.state c.loop-tick.lane.state c.loop-tick._tick c.totals.ensures.lane.clock c.loop-tick.invariant

pub returns-clause-ticked : goal.returns-clause-ticked
returns-clause-ticked g c = record { ticks = fitting c.loop-tick._tick c.args.lane.now.state; reached = c.loop-tick.invariant }

pub returns-clause-passed : goal.returns-clause-passed
returns-clause-passed g c =
    let s = c.args.lane.now.state in
    let end : c.loop-tick._tick ≡ c.passed-ticks.result = omega arith in
    record {
      ticks = c.passed-ticks.result;
      clock = fitting_clock s c.loop-tick.lane.state c.passed-ticks.result c.totals.ensures.lane.clock (c.loop-tick.invariant ∙ ap (λ n. after_ticks (fitting n s) s) end);
      shown = c.passed-ticks.ensures;
    }
