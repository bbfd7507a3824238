use Rattle.std.proofs.Common.{◌≡◌, ◌+◌, ◌<◌, ◌≤◌, Some, true, sym, ap, ◌∙◌, subst, arith, length}
use Rattle.relay_core.specs.State.{State, last_tick, next_batch, due_in}
use Rattle.relay_lane.specs.Turns.{Settles, sends_first, after_ticks, Paused}
use Rattle.relay_lane.specs.Out.{out_of}
use Rattle.relay_lane.specs.Steps.{IsPressed, IsDueLater}
use Rattle.relay_lane.proofs.Waiting.{due_later}
use Rattle.relay_lane.proofs.Sending.{at_some}
use Rattle.relay_lane.proofs.Passing.{delivers_ticks}
use Rattle.relay_lane.proofs.Stepping.{asked_sent, not_asked, not_called, settles_turned, none_of, none_ready, passed_on, passed_pause, progressed, paused, progressed_after}
use Rattle.relay_lane.proofs.draining.take_turn.Goals as goal

-- ---- if a request was sent

pub returns-then-branch-clause-turn : goal.returns-then-branch-clause-turn
returns-then-branch-clause-turn g c =
    let d = g.W.Wire.describes c.args.wire.now in
    let fits = g.W.Wire.fits in
    let carries = g.W.Wire.carries in
    let v = c.args.wire.now in
    let w = c.send_next.new.wire in
    let s = c.args.lane.now.state in
    let t = c.send_next.new.lane.state in
    let k = asked_sent d fits carries v w c.in_ok-send_next.field-0 s t c.send_next.ensures.lane c.in_ok-send_next.ensures.some c.if-branch.true c.in_ok-send_next.ensures.turn in
    progressed d fits carries v w k.turn s t k.goes_first k.turned c.requires.pressed k.delivers

-- ---- if none was, and the oldest in flight is answered

pub returns-then-flying-gt0-clause-turn : goal.returns-then-flying-gt0-clause-turn
returns-then-flying-gt0-clause-turn g c =
    let d = g.W.Wire.describes in
    let fits = g.W.Wire.fits in
    let carries = g.W.Wire.carries in
    let u = c.args.wire.now in
    let v = c.send_next.new.wire in
    let w = c.settle_oldest.new.wire in
    let r = c.args.lane.now.state in
    let s = c.send_next.new.lane.state in
    let t = c.settle_oldest.new.lane.state in
    let same = not_asked (d u) fits carries u v c.in_ok-send_next.field-0 r s c.if-branch.false c.in_ok-send_next.ensures.turn in
    let still = not_called (d u) fits carries u v c.in_ok-send_next.field-0 r s c.if-branch.false c.in_ok-send_next.ensures.turn in
    let x = c.settle_oldest.ensures.turn in
    let some : 0 < length s.core.flying = (let a = c.if-flying-gt0.true in let b = c.flying.ensures in omega (arith, a, b)) in
    let k = settles_turned (d v) fits carries v w s t x some in
    let none : sends_first (Settles x.ticks x.answer) s ≡ true = none_ready c.in_ok-send_next.field-0 r s same c.if-branch.false c.in_ok-send_next.ensures.some in
    progressed_after (d u) fits carries v w u (d v) r s t c.send_next.ensures.describes same still
    (progressed (d v) fits carries v w (Settles x.ticks x.answer) s t none k (subst IsPressed (sym same) c.requires.pressed) x.delivers)

pub returns-then-flying-gt0-clause-passed : goal.returns-then-flying-gt0-clause-passed
returns-then-flying-gt0-clause-passed g c =
    passed_on c.args.lane.now.state.core.clock c.send_next.new.lane.state.core.clock c.settle_oldest.new.lane.state.core.clock (g.P.Pace.paused c.args.pace.now) (g.P.Pace.paused c.send_next.new.pace) (g.P.Pace.paused c.settle_oldest.new.pace) c.send_next.ensures.passed c.settle_oldest.ensures.passed

-- ---- if nothing flies

pub wait-requires : goal.wait-requires
wait-requires g c =
    let d = g.W.Wire.describes c.args.wire.now in
    let s = c.args.lane.now.state in
    let t = c.send_next.new.lane.state in
    let same = not_asked d g.W.Wire.fits g.W.Wire.carries c.args.wire.now c.send_next.new.wire c.in_ok-send_next.field-0 s t c.if-branch.false c.in_ok-send_next.ensures.turn in
    let flying = ap (λ (y : State). length y.core.flying) same in
    subst IsDueLater (sym same)
    (due_later s c.send_next.ensures.lane (let a = c.if-flying-gt0.false in let b = c.flying.ensures in omega (arith, a, b, flying)) c.requires.pressed c.requires.some
    (none_of (next_batch s) (sym c.if-branch.false ∙ c.in_ok-send_next.ensures.some)))

pub returns-clause-turn : goal.returns-clause-turn
returns-clause-turn g c =
    let d = g.W.Wire.describes in
    let fits = g.W.Wire.fits in
    let carries = g.W.Wire.carries in
    let u = c.args.wire.now in
    let v = c.send_next.new.wire in
    let s = c.args.lane.now.state in
    let t = c.send_next.new.lane.state in
    let w = c.wait.new.lane.state in
    let same = not_asked (d u) fits carries u v c.in_ok-send_next.field-0 s t c.if-branch.false c.in_ok-send_next.ensures.turn in
    let called = not_called (d u) fits carries u v c.in_ok-send_next.field-0 s t c.if-branch.false c.in_ok-send_next.ensures.turn in
    let none = none_of (next_batch s) (sym c.if-branch.false ∙ c.in_ok-send_next.ensures.some) in
    let flies = ap (λ (y : State). length y.core.flying) same in
    let still : length s.core.flying ≡ 0 = (let a = c.if-flying-gt0.false in let b = c.flying.ensures in omega (arith, a, b, flies)) in
    let x = due_later s c.send_next.ensures.lane still c.requires.pressed c.requires.some none in
    let due : due_in t ≡ Some x.ticks = ap due_in same ∙ x.due in
    let of_t : w ≡ after_ticks x.ticks t = at_some (due_in t) x.ticks (λ n. w ≡ after_ticks n t) due c.wait.ensures.lane in
    let clock = ap (λ (y : State). y.core.clock) same in
    let within : t.core.clock + x.ticks ≤ last_tick = (let a = x.within in omega (arith, a, clock)) in
    progressed_after (d u) fits carries v v u (d v) s t w c.send_next.ensures.describes same called
    (paused (d v) fits carries v v t w x.ticks (flies ∙ still) (ap next_batch same ∙ none) due x.some within of_t (subst IsPressed (sym same) c.requires.pressed) (delivers_ticks (d v) fits carries v t w x.ticks of_t))

pub returns-clause-passed : goal.returns-clause-passed
returns-clause-passed g c =
    let d = g.W.Wire.describes in
    let u = c.args.wire.now in
    let s = c.args.lane.now.state in
    let t = c.send_next.new.lane.state in
    let w = c.wait.new.lane.state in
    let same = not_asked (d u) g.W.Wire.fits g.W.Wire.carries u c.send_next.new.wire c.in_ok-send_next.field-0 s t c.if-branch.false c.in_ok-send_next.ensures.turn in
    let flies = ap (λ (y : State). length y.core.flying) same in
    let still : length s.core.flying ≡ 0 = (let a = c.if-flying-gt0.false in let b = c.flying.ensures in omega (arith, a, b, flies)) in
    let x = due_later s c.send_next.ensures.lane still c.requires.pressed c.requires.some (none_of (next_batch s) (sym c.if-branch.false ∙ c.in_ok-send_next.ensures.some)) in
    let due : due_in t ≡ Some x.ticks = ap due_in same ∙ x.due in
    let of_t : w ≡ after_ticks x.ticks t = at_some (due_in t) x.ticks (λ n. w ≡ after_ticks n t) due c.wait.ensures.lane in
    let pause : Paused x.ticks (g.P.Pace.paused c.send_next.new.pace) (g.P.Pace.paused c.wait.new.pace) =
    at_some (due_in t) x.ticks (λ n. Paused n (g.P.Pace.paused c.send_next.new.pace) (g.P.Pace.paused c.wait.new.pace)) due c.wait.ensures.paused in
    let clock = ap (λ (y : State). y.core.clock) same in
    let within : t.core.clock + x.ticks ≤ last_tick = (let a = x.within in omega (arith, a, clock)) in
    passed_on s.core.clock t.core.clock w.core.clock (g.P.Pace.paused c.args.pace.now) (g.P.Pace.paused c.send_next.new.pace) (g.P.Pace.paused c.wait.new.pace) c.send_next.ensures.passed
    (passed_pause x.ticks t w (g.P.Pace.paused c.send_next.new.pace) (g.P.Pace.paused c.wait.new.pace) within of_t pause)

pub returns-clause-out : goal.returns-clause-out
returns-clause-out g c =
    let d = g.W.Wire.describes c.args.wire.now in
    let s = c.args.lane.now.state in
    let t = c.send_next.new.lane.state in
    let w = c.wait.new.lane.state in
    let same = not_asked d g.W.Wire.fits g.W.Wire.carries c.args.wire.now c.send_next.new.wire c.in_ok-send_next.field-0 s t c.if-branch.false c.in_ok-send_next.ensures.turn in
    let flies = ap (λ (y : State). length y.core.flying) same in
    let still : length s.core.flying ≡ 0 = (let a = c.if-flying-gt0.false in let b = c.flying.ensures in omega (arith, a, b, flies)) in
    let x = due_later s c.send_next.ensures.lane still c.requires.pressed c.requires.some (none_of (next_batch s) (sym c.if-branch.false ∙ c.in_ok-send_next.ensures.some)) in
    let of_t : w ≡ after_ticks x.ticks t = at_some (due_in t) x.ticks (λ n. w ≡ after_ticks n t) (ap due_in same ∙ x.due) c.wait.ensures.lane in
    c.send_next.ensures.out ∙ sym (ap out_of of_t)
