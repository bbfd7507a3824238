use Rattle.std.proofs.Common.{◌≡◌, ◌≤◌, [], ◌∷◌, List, Some, None, true, sym, refl, ap, ◌∙◌, subst, length}
use Rattle.relay_ndjson.specs.Bodies.{AreDealt}
use Rattle.relay_ndjson.specs.Bulk.{text_of}
use Rattle.relay_results.specs.Words.{Mem}
use Rattle.relay_results.specs.Outside.{Lost}
use Rattle.relay_delivery.specs.Lane.{writes_of_all}
use Rattle.relay_batch.specs.declared.item.BatchItem.{BatchItem}
use Rattle.relay_core.specs.State.{State, next_batch, after_request, next_entries, after_answer_to, is_flying, writes_of}
use Rattle.relay_results.specs.declared.cause.Loss.{Loss}
use Rattle.relay_lane.specs.Delivers.{Delivers}
use Rattle.relay_lane.specs.Out.{out_of}
use Rattle.relay_lane.specs.Wires.{SendsOn, ExchangesOn, ShowsNext}
use Rattle.relay_lane.specs.Exchanges.{Sends}
use Rattle.relay_lane.specs.Turns.{after_send, after_ticks, after_fail, Passed}
use Rattle.relay_lane.specs.Turns as turns
use Rattle.relay_lane.specs.Calls.{called_by}
use Rattle.relay_lane.proofs.Stepping.{passed_none, passed_same}
use Rattle.relay_lane.proofs.Limits.{requests_fit}
use Rattle.relay_lane.proofs.Out.{request_flies, request_writes, out_sent, out_failed, next_is_new}
use Rattle.relay_lane.proofs.Sending.{same_none, some_items, at_some, on_err}
use Rattle.relay_lane.proofs.Passing.{delivers_itself, delivers_send, delivers_fail}
use Rattle.relay_lane.proofs.turn.send_next.Goals as goal

pub returns-in_err-number-clause-delivers : goal.returns-in_err-number-clause-delivers
returns-in_err-number-clause-delivers g c =
    on_err c.from_residual.result (Delivers (g.W.Wire.describes c.args.wire.now) g.W.Wire.fits g.W.Wire.carries c.args.wire.now c.args.wire.now c.args.lane.now.state c.request.new.self.state [])
    (delivers_itself (g.W.Wire.describes c.args.wire.now) g.W.Wire.fits g.W.Wire.carries c.args.wire.now c.args.wire.now c.args.lane.now.state c.request.new.self.state refl c.in_err-number.ensures.unchanged)

pub returns-in_default-clause-turn : goal.returns-in_default-clause-turn
returns-in_default-clause-turn g c =
    let same = same_none c.args.lane.now.state c.request.new.self.state c.in_ok-number.field-0 c.in_default.is c.in_ok-number.ensures.when c.in_ok-number.ensures.after in
    (same, delivers_itself (g.W.Wire.describes c.args.wire.now) g.W.Wire.fits g.W.Wire.carries c.args.wire.now c.args.wire.now c.args.lane.now.state c.request.new.self.state refl same)

-- the lane after its request, and after ticks
ticked_is : (s t u : State) (n : _) → t ≡ after_send s → u ≡ after_ticks n t → u ≡ after_ticks n (after_send s)
ticked_is s t u n after ticked = ticked ∙ ap (after_ticks n) after

-- ---- the clock

pub returns-in_err-number-clause-passed : goal.returns-in_err-number-clause-passed
returns-in_err-number-clause-passed g c =
    subst (λ (t : State). Passed c.args.lane.now.state.core.clock t.core.clock (g.P.Pace.paused c.args.pace.now) (g.P.Pace.paused c.args.pace.now)) (sym c.in_err-number.ensures.unchanged)
    (passed_none c.args.lane.now.state (g.P.Pace.paused c.args.pace.now) c.totals.ensures.lane)

pub returns-in_default-clause-passed : goal.returns-in_default-clause-passed
returns-in_default-clause-passed g c =
    subst (λ (t : State). Passed c.args.lane.now.state.core.clock t.core.clock (g.P.Pace.paused c.args.pace.now) (g.P.Pace.paused c.args.pace.now))
    (sym (same_none c.args.lane.now.state c.request.new.self.state c.in_ok-number.field-0 c.in_default.is c.in_ok-number.ensures.when c.in_ok-number.ensures.after))
    (passed_none c.args.lane.now.state (g.P.Pace.paused c.args.pace.now) c.totals.ensures.lane)

-- forming a request takes no tick
request_clock : (s t : State) (items : List BatchItem) → next_batch s ≡ Some items → t ≡ after_send s → t.core.clock ≡ s.core.clock
request_clock s t items some e = ap (λ (x : State). x.core.clock) e ∙ ap (λ b. (after_request s b).core.clock) some

pub returns-in-Ok-clause-passed : goal.returns-in-Ok-clause-passed
returns-in-Ok-clause-passed g c =
    let s = c.args.lane.now.state in
    let items = some_items s c.in_ok-number.field-0 c.in-Some.number c.in-Some.is c.in_ok-number.ensures.when in
    subst (λ k. Passed k c.pass.new.lane.state.core.clock (g.P.Pace.paused c.args.pace.now) (g.P.Pace.paused c.pass.new.pace)) (request_clock s c.request.new.self.state items.0 items.1 c.in_ok-number.ensures.after) c.pass.ensures.passed

pub returns-in-Err-clause-passed : goal.returns-in-Err-clause-passed
returns-in-Err-clause-passed g c =
    let s = c.args.lane.now.state in
    let items = some_items s c.in_ok-number.field-0 c.in-Some.number c.in-Some.is c.in_ok-number.ensures.when in
    let p = subst (λ k. Passed k c.pass.new.lane.state.core.clock (g.P.Pace.paused c.args.pace.now) (g.P.Pace.paused c.pass.new.pace)) (request_clock s c.request.new.self.state items.0 items.1 c.in_ok-number.ensures.after) c.pass.ensures.passed in
    let q = passed_same _ _ (g.P.Pace.paused c.args.pace.now) _ _ (sym c.settle_now.ensures.paused) p in
    subst (λ k. Passed s.core.clock k (g.P.Pace.paused c.args.pace.now) (g.P.Pace.paused c.settle_now.new.pace)) (sym (ap (λ (t : State). t.core.clock) c.settle_now.ensures.state)) q

-- the writes are those of the operations that the request carries
they_are : (s t : State) (n : _) (ws : _) → n ≡ s.flights.next → t ≡ after_send s → ws ≡ writes_of n t
    → writes_of s.flights.next (after_send s) ≡ writes_of_all (next_entries s) → ws ≡ writes_of_all (next_entries s)
they_are s t n ws number after found writes = found ∙ (λ i. writes_of (number i) (after i)) ∙ writes

pub send-sent-requires-clause-fresh : goal.send-sent-requires-clause-fresh
send-sent-requires-clause-fresh g c m =
    let s = c.args.lane.now.state in
    let number = at_some c.in_ok-number.field-0 c.in-Some.number (λ n. n ≡ s.flights.next) c.in-Some.is c.in_ok-number.ensures.number in
    next_is_new s c.totals.ensures.lane (subst (λ n. Mem n (out_of s)) number (subst (λ ns. Mem c.in-Some.number ns) c.requires.out m))

pub send-sent-requires-clause-few : goal.send-sent-requires-clause-few
send-sent-requires-clause-few g c =
    let s = c.args.lane.now.state in
    let items = some_items s c.in_ok-number.field-0 c.in-Some.number c.in-Some.is c.in_ok-number.ensures.when in
    let number = at_some c.in_ok-number.field-0 c.in-Some.number (λ n. n ≡ s.flights.next) c.in-Some.is c.in_ok-number.ensures.number in
    let same = they_are s c.request.new.self.state c.in-Some.number c.in-Some-writes.writes.now number c.in_ok-number.ensures.after c.in-Some-writes.ensures.writes (request_writes s c.totals.ensures.lane items.0 items.1) in
    subst (λ ws. length ws ≤ 10000) (sym same) (requests_fit s c.totals.ensures.lane).few

pub send-sent-requires-clause-dealt : goal.send-sent-requires-clause-dealt
send-sent-requires-clause-dealt g c =
    let s = c.args.lane.now.state in
    let items = some_items s c.in_ok-number.field-0 c.in-Some.number c.in-Some.is c.in_ok-number.ensures.when in
    let number = at_some c.in_ok-number.field-0 c.in-Some.number (λ n. n ≡ s.flights.next) c.in-Some.is c.in_ok-number.ensures.number in
    let same = they_are s c.request.new.self.state c.in-Some.number c.in-Some-writes.writes.now number c.in_ok-number.ensures.after c.in-Some-writes.ensures.writes (request_writes s c.totals.ensures.lane items.0 items.1) in
    subst AreDealt (sym same) (requests_fit s c.totals.ensures.lane).dealt

pub send-sent-requires-clause-bytes : goal.send-sent-requires-clause-bytes
send-sent-requires-clause-bytes g c =
    let s = c.args.lane.now.state in
    let items = some_items s c.in_ok-number.field-0 c.in-Some.number c.in-Some.is c.in_ok-number.ensures.when in
    let number = at_some c.in_ok-number.field-0 c.in-Some.number (λ n. n ≡ s.flights.next) c.in-Some.is c.in_ok-number.ensures.number in
    let same = they_are s c.request.new.self.state c.in-Some.number c.in-Some-writes.writes.now number c.in_ok-number.ensures.after c.in-Some-writes.ensures.writes (request_writes s c.totals.ensures.lane items.0 items.1) in
    subst (λ ws. length (text_of ws) ≤ 16777216) (sym same) (requests_fit s c.totals.ensures.lane).bytes

pub unreachable-requires : goal.unreachable-requires
unreachable-requires g c =
    let s = c.args.lane.now.state in
    let items = some_items s c.in_ok-number.field-0 c.in-Some.number c.in-Some.is c.in_ok-number.ensures.when in
    let number = at_some c.in_ok-number.field-0 c.in-Some.number (λ n. n ≡ s.flights.next) c.in-Some.is c.in_ok-number.ensures.number in
    let flies : is_flying c.in-Some.number c.request.new.self.state ≡ true = (λ i. is_flying (number i) (c.in_ok-number.ensures.after i)) ∙ request_flies s c.totals.ensures.lane items.0 items.1 in
    let none = c.in-None.ensures.flies in
    cc (flies, none)

pub returns-in-Ok-clause-out : goal.returns-in-Ok-clause-out
returns-in-Ok-clause-out g c =
    let s = c.args.lane.now.state in
    let items = some_items s c.in_ok-number.field-0 c.in-Some.number c.in-Some.is c.in_ok-number.ensures.when in
    let number = at_some c.in_ok-number.field-0 c.in-Some.number (λ n. n ≡ s.flights.next) c.in-Some.is c.in_ok-number.ensures.number in
    c.in-Ok.ensures.out ∙ (λ i. number i ∷ c.requires.out i) ∙ sym (out_sent s c.totals.ensures.lane items.0 items.1) ∙ ap out_of (sym c.in_ok-number.ensures.after) ∙ ap out_of (sym c.pass.ensures.ticked.reached)

pub returns-in-Ok-clause-turn : goal.returns-in-Ok-clause-turn
returns-in-Ok-clause-turn g c =
    let s = c.args.lane.now.state in
    let items = some_items s c.in_ok-number.field-0 c.in-Some.number c.in-Some.is c.in_ok-number.ensures.when in
    let number = at_some c.in_ok-number.field-0 c.in-Some.number (λ n. n ≡ s.flights.next) c.in-Some.is c.in_ok-number.ensures.number in
    let same = they_are s c.request.new.self.state c.in-Some.number c.in-Some-writes.writes.now number c.in_ok-number.ensures.after c.in-Some-writes.ensures.writes (request_writes s c.totals.ensures.lane items.0 items.1) in
    let d = g.W.Wire.describes c.args.wire.now in
    let v = c.args.wire.now in
    let w = c.send-sent.new.self in
    let ws = c.in-Some-writes.writes.now in
    let n = c.pass.ensures.ticked.ticks in
    let after = ticked_is s c.request.new.self.state c.pass.new.lane.state n c.in_ok-number.ensures.after c.pass.ensures.ticked.reached in (
      turns.Sends n,
      refl,
      after,
      subst (λ t. Delivers d g.W.Wire.fits g.W.Wire.carries v w s t (called_by (turns.Sends n) s)) (sym after)
          (delivers_send d g.W.Wire.fits g.W.Wire.carries v w s c.totals.ensures.lane items.0 items.1 ws same n (subst (λ n. ShowsNext d g.W.Wire.fits v w n (SendsOn ws)) number c.in-Ok.ensures.outside)
          (subst (λ n. g.W.Wire.carries v (Sends n ws None) w) number c.in-Ok.ensures.carries)),
    )

-- a request that could not be sent is settled as lost
lost_is : (s t r u : State) (why : Loss) (n k : _) → n ≡ s.flights.next → t ≡ after_send s → r ≡ after_ticks k t → u ≡ after_answer_to r n (Lost why) → u ≡ after_fail why k s
lost_is s t r u why n k number after ticked settled = settled ∙ ap (λ x. after_answer_to x n (Lost why)) ticked ∙ (λ i. after_answer_to (after_ticks k (after i)) (number i) (Lost why))

pub settle_now-requires-clause-flies : goal.settle_now-requires-clause-flies
settle_now-requires-clause-flies g c =
    let s = c.args.lane.now.state in
    let items = some_items s c.in_ok-number.field-0 c.in-Some.number c.in-Some.is c.in_ok-number.ensures.when in
    let number = at_some c.in_ok-number.field-0 c.in-Some.number (λ n. n ≡ s.flights.next) c.in-Some.is c.in_ok-number.ensures.number in
    ap (is_flying c.in-Some.number) c.pass.ensures.ticked.reached ∙ (λ i. is_flying (number i) (c.in_ok-number.ensures.after i)) ∙ request_flies s c.totals.ensures.lane items.0 items.1

pub returns-in-Err-clause-out : goal.returns-in-Err-clause-out
returns-in-Err-clause-out g c =
    let s = c.args.lane.now.state in
    let items = some_items s c.in_ok-number.field-0 c.in-Some.number c.in-Some.is c.in_ok-number.ensures.when in
    let number = at_some c.in_ok-number.field-0 c.in-Some.number (λ n. n ≡ s.flights.next) c.in-Some.is c.in_ok-number.ensures.number in
    let k = c.pass.ensures.ticked.ticks in
    let fails = lost_is s c.request.new.self.state c.pass.new.lane.state c.settle_now.new.lane.state c.in-Err.fault c.in-Some.number k number c.in_ok-number.ensures.after c.pass.ensures.ticked.reached c.settle_now.ensures.state in
    c.in-Err.ensures.out ∙ c.requires.out ∙ sym (out_failed s c.totals.ensures.lane items.0 items.1 c.in-Err.fault k) ∙ ap out_of (sym fails)

pub returns-in-Err-clause-turn : goal.returns-in-Err-clause-turn
returns-in-Err-clause-turn g c =
    let s = c.args.lane.now.state in
    let items = some_items s c.in_ok-number.field-0 c.in-Some.number c.in-Some.is c.in_ok-number.ensures.when in
    let number = at_some c.in_ok-number.field-0 c.in-Some.number (λ n. n ≡ s.flights.next) c.in-Some.is c.in_ok-number.ensures.number in
    let same = they_are s c.request.new.self.state c.in-Some.number c.in-Some-writes.writes.now number c.in_ok-number.ensures.after c.in-Some-writes.ensures.writes (request_writes s c.totals.ensures.lane items.0 items.1) in
    let k = c.pass.ensures.ticked.ticks in
    let fails = lost_is s c.request.new.self.state c.pass.new.lane.state c.settle_now.new.lane.state c.in-Err.fault c.in-Some.number k number c.in_ok-number.ensures.after c.pass.ensures.ticked.reached c.settle_now.ensures.state in
    let d = g.W.Wire.describes c.args.wire.now in
    let v = c.args.wire.now in
    let w = c.send-sent.new.self in
    let ws = c.in-Some-writes.writes.now in (
      turns.Fails c.in-Err.fault k,
      refl,
      fails,
      subst (λ t. Delivers d g.W.Wire.fits g.W.Wire.carries v w s t (called_by (turns.Fails c.in-Err.fault k) s)) (sym fails)
          (delivers_fail d g.W.Wire.fits g.W.Wire.carries v w s c.totals.ensures.lane items.0 items.1 ws same c.in-Err.fault k (subst (λ n. ShowsNext d g.W.Wire.fits v w n (ExchangesOn n ws (Lost c.in-Err.fault))) number c.in-Err.ensures.outside)
          (subst (λ n. g.W.Wire.carries v (Sends n ws (Some c.in-Err.fault)) w) number c.in-Err.ensures.carries)),
    )
