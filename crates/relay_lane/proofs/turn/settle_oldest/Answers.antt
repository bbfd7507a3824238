use Rattle.std.proofs.Common.{◌≡◌, ◌+◌, [], ◌∷◌, true, sym, ap, ◌∙◌, subst}
use Rattle.relay_results.specs.Words.{Mem}
use Rattle.relay_delivery.specs.Reach.{Ticks, Answers}
use Rattle.relay_core.specs.State.{State, IsLane, after_answer_to, is_flying}
use Rattle.relay_lane.specs.Delivers.{Delivers}
use Rattle.relay_lane.specs.Out.{out_of}
use Rattle.relay_lane.specs.Turns.{after_ticks, Passed}
use Rattle.relay_lane.specs.Wires.{answer_of, without}
use Rattle.relay_lane.proofs.Out.{oldest_is, oldest_number, oldest_flies, oldest_out, out_answered}
use Rattle.relay_lane.proofs.Sending.{answers}
use Rattle.relay_lane.proofs.Stepping.{passed_same}
use Rattle.relay_lane.proofs.Passing.{delivers_answer}
use Rattle.relay_lane.proofs.turn.settle_oldest.Goals as goal

pub receive-answer-requires : goal.receive-answer-requires
receive-answer-requires g c =
    let s = c.args.lane.now.state in
    let o = oldest_is s c.in-Some.number (sym c.oldest.ensures ∙ c.in-Some.is) in
    subst (λ ns. Mem c.in-Some.number ns) (sym c.requires.out) (oldest_out s c.totals.ensures.lane c.in-Some.number o)

pub settle_now-requires-clause-flies : goal.settle_now-requires-clause-flies
settle_now-requires-clause-flies g c =
    let s = c.args.lane.now.state in
    subst (λ t. is_flying c.in-Some.number t ≡ true) (sym c.pass.ensures.ticked.reached) (oldest_flies s c.totals.ensures.lane c.in-Some.number (oldest_is s c.in-Some.number (sym c.oldest.ensures ∙ c.in-Some.is)))

pub returns-in-Some-clause-turn : goal.returns-in-Some-clause-turn
returns-in-Some-clause-turn g c =
    let s = c.args.lane.now.state in
    let n = c.pass.ensures.ticked.ticks in
    let o = oldest_is s c.in-Some.number (sym c.oldest.ensures ∙ c.in-Some.is) in
    let number = oldest_number s c.totals.ensures.lane c.in-Some.number o in
    let a = answer_of c.receive-answer.result in
    let d = g.W.Wire.describes c.args.wire.now in
    let v = c.args.wire.now in
    let w = c.receive-answer.new.self in
    let settled = c.settle_now.ensures.state ∙ ap (λ t. after_answer_to t c.in-Some.number a) c.pass.ensures.ticked.reached in
    record {
      ticks = n;
      answer = a;
      lane = subst IsLane c.pass.ensures.ticked.reached c.totals-in-Some.ensures.lane;
      answers = answers c.receive-answer.result;
      reached = settled ∙ sym (ap (λ k. after_answer_to (after_ticks n s) k a) number);
      delivers = subst (λ k. Delivers d g.W.Wire.fits g.W.Wire.carries v w s c.settle_now.new.lane.state (Ticks (s.core.clock + n) ∷ Answers k a ∷ [])) (sym number)
          (subst (λ t. Delivers d g.W.Wire.fits g.W.Wire.carries v w s t (Ticks (s.core.clock + n) ∷ Answers c.in-Some.number a ∷ [])) (sym settled)
          (delivers_answer d g.W.Wire.fits g.W.Wire.carries v w s n c.in-Some.number a (oldest_flies s c.totals.ensures.lane c.in-Some.number o) c.receive-answer.ensures.outside c.receive-answer.ensures.carries));
    }

pub returns-in-Some-clause-passed : goal.returns-in-Some-clause-passed
returns-in-Some-clause-passed g c =
    let p = passed_same _ _ (g.P.Pace.paused c.args.pace.now) _ _ (sym c.settle_now.ensures.paused) c.pass.ensures.passed in
    subst (λ k. Passed c.args.lane.now.state.core.clock k (g.P.Pace.paused c.args.pace.now) (g.P.Pace.paused c.settle_now.new.pace)) (sym (ap (λ (t : State). t.core.clock) c.settle_now.ensures.state)) p

pub returns-in-Some-clause-out : goal.returns-in-Some-clause-out
returns-in-Some-clause-out g c =
    let s = c.args.lane.now.state in
    let n = c.pass.ensures.ticked.ticks in
    let o = oldest_is s c.in-Some.number (sym c.oldest.ensures ∙ c.in-Some.is) in
    let a = answer_of c.receive-answer.result in
    c.receive-answer.ensures.out ∙ ap (without c.in-Some.number) c.requires.out ∙ out_answered s c.totals.ensures.lane c.in-Some.number o a
    ∙ ap (λ t. out_of (after_answer_to t c.in-Some.number a)) (sym c.pass.ensures.ticked.reached) ∙ ap out_of (sym c.settle_now.ensures.state)
