use Rattle.std.proofs.Common.{arith, sym, subst, ap, ◌∙◌, ◌+◌, ◌<◌, ℕ, length, set, Bool}
use Rattle.std.specs.Prelude.{if◌then◌else◌}
use Rattle.relay_action.specs.declared.mail.Body.{Body}
use Rattle.relay_producer.specs.Ends.{IsSent}
use Rattle.relay_producer.specs.Signals.{body_of}
use Rattle.relay_producer.proofs.Sending.{IsSentBelow, goes_on}
use Rattle.relay_producer.proofs.lanes.send_to_all.Goals as goal
use Rattle.relay_producer.proofs.lanes.send_to_all.Goals.{then-signal, else-signal}

pub loop-lane-preserved : goal.loop-lane-preserved
loop-lane-preserved g c =
    let i = c.loop-lane.invariant in
    let old = c.args.ends.now.items in
    let now = c.loop-lane.ends.items in
    let x = c.index_mut.result.now in
    let y = c.signal.new.self in
    let lt : c.loop-lane.lane < length now = omega (arith, i.lanes, c.loop-lane-test.true, c.len-lane-end.ensures, c.args.ends.now.ok.0) in
    let sent = subst (λ (b : Body). IsSent b x y) c.signal_body.ensures.value c.signal.ensures.sent in
    let goal_of : ℕ → Type 0 = λ t. IsSentBelow (body_of c.args.signal) (c.loop-lane.lane + 1) t old (set now c.loop-lane.lane y) in
    elim c.if-signal.branch [
      | then-signal w ↦ subst goal_of (sym w.taken-is)
          (goes_on (body_of c.args.signal) c.loop-lane.lane c.loop-lane.taken 1 old now x y i lt c.index_mut.ensures.value sent
          (c.signal.ensures.count ∙ ap (λ (b : Bool). length x.put.sent + (if b then 1 else 0)) w.if-signal.true) (omega arith))
      | else-signal w ↦ subst goal_of (omega (arith, w.taken-is))
          (goes_on (body_of c.args.signal) c.loop-lane.lane c.loop-lane.taken 0 old now x y i lt c.index_mut.ensures.value sent
          (c.signal.ensures.count ∙ ap (λ (b : Bool). length x.put.sent + (if b then 1 else 0)) w.if-signal.false) (omega arith))
    ]
