use Rattle.std.proofs.Common.{◌≡◌, sym, ap, ◌∙◌, arith}
use Rattle.relay_core.specs.State.{due_in}
use Rattle.relay_lane.specs.Turns.{after_ticks}
use Rattle.relay_lane.proofs.Ticking.{tick_none, tick_more, some_same, if_some}
use Rattle.relay_lane.proofs.turn.wait.Goals as goal

pub loop-tick-init : goal.loop-tick-init
loop-tick-init g c = tick_none c.args.lane.now.state

pub loop-tick-preserved : goal.loop-tick-preserved
loop-tick-preserved g c =
    let s = c.args.lane.now.state in
    let same = some_same (due_in s) c.requires.ticks c.in-Some.ticks c.requires.due (sym c.due_in.ensures ∙ c.in-Some.is) in
    c.tick.ensures.ticked ∙ tick_more s c.loop-tick.lane.state c.loop-tick._tick c.loop-tick.invariant (let w = c.requires.within in omega (arith, w, same))

pub returns-after-loop-tick-clause-lane : goal.returns-after-loop-tick-clause-lane
returns-after-loop-tick-clause-lane g c =
    let s = c.args.lane.now.state in
    let end : c.loop-tick._tick ≡ c.in-Some.ticks = omega arith in
    if_some (due_in s) c.in-Some.ticks (λ n. c.loop-tick.lane.state ≡ after_ticks n s) (sym c.due_in.ensures ∙ c.in-Some.is)
    (c.loop-tick.invariant ∙ ap (λ n. after_ticks n s) end)
