use Rattle.std.proofs.Common.{◌≡◌, ℕ, Bool, true, false, arith, sym, ap, subst, refl, length, get_or, List, [], ◌∷◌, ◌++◌, ◌+◌, ◌<◌, ◌∙◌}
use Rattle.std.specs.Prelude.{◌^◌}
use Rattle.std.proofs.lemmas.Bool.{true≢false}
use Rattle.std.proofs.lemmas.Result.{err_from_is_err_and}
use Rattle.relay_producer.specs.declared.fault.PutFault.{PutFault}
use Rattle.relay_producer.specs.declared.fault.PutFaultKind.{PutFaultKind}
use Rattle.relay_producer.specs.declared.fault.PutFaultKind.TheVariants.{LaneGone, NumbersSpent}
use Rattle.relay_action.specs.declared.key.DocKey.{DocKey}
use Rattle.relay_action.specs.declared.operation.Op.{Op}
use Rattle.relay_action.specs.declared.mail.Body.TheVariants.{Put}
use Rattle.relay_action.specs.Lanes.{lane_of_document}
use Rattle.relay_producer.specs.declared.ends.OpenEnd.{OpenEnd}
use Rattle.relay_producer.specs.Ends.{with_sent, with_mark, is_gone_at, open_puts, identities}
use Rattle.relay_producer.specs.Puts.{HasPut}
use Rattle.relay_producer.specs.States.{ProducerState, lane_for, is_lane_gone, next_op, after_gone}
use Rattle.relay_producer.proofs.Putting.{gone_here, marked_already, at_lane, same_count, put_more, producer_puts, producer_marks, same_identities, same_marked, on_ok, on_err}
use Rattle.relay_producer.proofs.producer.Producer.put.Goals as goal

pub invariant_of-self-2 : goal.invariant_of-self-2
invariant_of-self-2 g c =
    let room : c.self.inside.count < 2 ^ 40 = omega arith in
    let sent = on_ok c.send_op.result c.in_ok-map_err.ensures.variant c.send_op.ensures.sent in
    let op : Op = next_op c.args.key c.args.action (record { epoch = c.self.inside.epoch; producer = c.self.inside.producer; put = c.self.inside.count; ends = c.self.inside.ends.items }) in
    let e = at_lane c.args.key (with_sent (Put op)) c.self.inside.ends.items c.send_op.new.ends.items c.lane_of-lane.result c.len.result sent c.lane_of-lane.ensures.value (c.len.ensures ∙ c.self.inside.ends.ok.0) in
    let n = same_count (lane_of_document c.args.key (length c.self.inside.ends.items)) (with_sent (Put op)) c.self.inside.ends.items c.send_op.new.ends.items e in (
      producer_puts c.self.inside.epoch c.self.inside.producer c.self.inside.count c.self.inside.ends.items c.send_op.new.ends.items op refl refl room e c.self.invariant.0,
      c.self.invariant.1,
      omega (arith, n, c.self.invariant.2),
    )

pub returns-clause-same : goal.returns-clause-same
returns-clause-same g c =
    let sent = on_ok c.send_op.result c.in_ok-map_err.ensures.variant c.send_op.ensures.sent in
    let op : Op = next_op c.args.key c.args.action (record { epoch = c.self.inside.epoch; producer = c.self.inside.producer; put = c.self.inside.count; ends = c.self.inside.ends.items }) in
    let e = at_lane c.args.key (with_sent (Put op)) c.self.inside.ends.items c.send_op.new.ends.items c.lane_of-lane.result c.len.result sent c.lane_of-lane.ensures.value (c.len.ensures ∙ c.self.inside.ends.ok.0) in
    ap (λ (ends : List OpenEnd). identities (open_puts ends)) e
    ∙ same_identities (lane_of_document c.args.key (length c.self.inside.ends.items)) (with_sent (Put op)) c.self.inside.ends.items (λ x. refl)
    ∙ ap (λ (s : ProducerState). identities (open_puts s.ends)) c.self.view_is

pub returns-clause-put : goal.returns-clause-put
returns-clause-put g c ops =
    let sent = on_ok c.send_op.result c.in_ok-map_err.ensures.variant c.send_op.ensures.sent in
    let op : Op = next_op c.args.key c.args.action (record { epoch = c.self.inside.epoch; producer = c.self.inside.producer; put = c.self.inside.count; ends = c.self.inside.ends.items }) in
    let e = at_lane c.args.key (with_sent (Put op)) c.self.inside.ends.items c.send_op.new.ends.items c.lane_of-lane.result c.len.result sent c.lane_of-lane.ensures.value (c.len.ensures ∙ c.self.inside.ends.ok.0) in
    let P : ProducerState → Type 0 = λ s. HasPut s.producer s.put (open_puts s.ends) ops → HasPut c.self.inside.producer (c.self.inside.count + 1) (open_puts c.send_op.new.ends.items) (ops ++ next_op c.args.key c.args.action s ∷ []) in
    subst P c.self.view_is
    (λ h. subst (λ (ends : List OpenEnd). HasPut c.self.inside.producer (c.self.inside.count + 1) (open_puts ends) (ops ++ op ∷ [])) (sym e)
    (put_more c.self.inside.producer c.self.inside.count c.self.inside.ends.items ops op refl refl h))

pub invariant_of-self : goal.invariant_of-self
invariant_of-self g c =
    let gone = on_err c.send_op.result c.in_err-map_err.ensures.variant c.send_op.ensures.gone in
    let n = same_count c.lane_of-lane.result with_mark c.self.inside.ends.items c.send_op.new.ends.items gone in (
      producer_marks c.self.inside.epoch c.self.inside.producer c.self.inside.count c.lane_of-lane.result c.self.inside.ends.items c.send_op.new.ends.items gone c.self.invariant.0,
      c.self.invariant.1,
      omega (arith, n, c.self.invariant.2),
    )

pub returns-in_err-map_err-clause-refused : goal.returns-in_err-map_err-clause-refused
returns-in_err-map_err-clause-refused g c =
    let gone = on_err c.send_op.result c.in_err-map_err.ensures.variant c.send_op.ensures.gone in
    let p = err_from_is_err_and c.from_residual.result c.from_residual.ensures.1 in
    rw p.1
    (ap open_puts gone ∙ same_marked c.lane_of-lane.result c.self.inside.ends.items ∙ ap (λ (s : ProducerState). open_puts s.ends) c.self.view_is)

pub returns-in_err-map_err-clause-same : goal.returns-in_err-map_err-clause-same
returns-in_err-map_err-clause-same g c =
    let gone = on_err c.send_op.result c.in_err-map_err.ensures.variant c.send_op.ensures.gone in
    ap (λ (ends : List OpenEnd). identities (open_puts ends)) gone
    ∙ ap identities (same_marked c.lane_of-lane.result c.self.inside.ends.items)
    ∙ ap (λ (s : ProducerState). identities (open_puts s.ends)) c.self.view_is

-- fewer than 2^40 operations were put, so no queue took as many
pub send_op-requires-clause-room : goal.send_op-requires-clause-room
send_op-requires-clause-room g c k d below =
    let room : c.self.inside.count < 2 ^ 40 = omega arith in
    let own = (c.self.invariant.0.own k d below).1 in
    omega arith

-- what the end at the document's lane says is what the producer shows
shows : (ends : List OpenEnd) (lane : ℕ) (e : OpenEnd) (s : ProducerState) (b : Bool) (key : DocKey) → lane < length ends → e ≡ get_or ends lane e → lane ≡ lane_of_document key (length ends) → s.ends ≡ ends → e.gone ≡ b → is_lane_gone key s ≡ b
shows ends lane e s b key lt at is same gone =
    ap (λ (xs : List OpenEnd). is_gone_at xs (lane_of_document key (length xs))) same ∙ sym (ap (is_gone_at ends) is) ∙ gone_here ends lane e lt at ∙ gone

apart : (kind : PutFaultKind) → kind ≡ LaneGone → kind ≡ NumbersSpent → ⊥
apart kind g n = cc

-- to find a lane gone that is marked changes nothing
marked_there : (key : DocKey) (s : ProducerState) → is_lane_gone key s ≡ true → s ≡ after_gone key s
marked_there key s gone = λ i. record { epoch = s.epoch; producer = s.producer; put = s.put; ends = marked_already s.ends (lane_for key s) gone i }

pub returns-then-index-clause-gone : goal.returns-then-index-clause-gone
returns-then-index-clause-gone g c kind =
    let lt : c.lane_of-lane.result < length c.self.inside.ends.items = omega (arith, c.lane_of-lane.ensures.bound, c.len.ensures, c.self.inside.ends.ok.0) in
    let same = sym (ap (λ (s : ProducerState). s.ends) c.self.view_is) in
    marked_there c.args.key c.args.self.now (shows c.self.inside.ends.items c.lane_of-lane.result c.index.result.now c.args.self.now true c.args.key lt c.index.ensures (c.lane_of-lane.ensures.value ∙ ap (lane_of_document c.args.key) (c.len.ensures ∙ c.self.inside.ends.ok.0)) same c.if-index.true)

pub returns-then-index-clause-spent : goal.returns-then-index-clause-spent
returns-then-index-clause-spent g c =
    let lt : c.lane_of-lane.result < length c.self.inside.ends.items = omega (arith, c.lane_of-lane.ensures.bound, c.len.ensures, c.self.inside.ends.ok.0) in
    let same = sym (ap (λ (s : ProducerState). s.ends) c.self.view_is) in
    let gone = shows c.self.inside.ends.items c.lane_of-lane.result c.index.result.now c.args.self.now true c.args.key lt c.index.ensures (c.lane_of-lane.ensures.value ∙ ap (lane_of_document c.args.key) (c.len.ensures ∙ c.self.inside.ends.ok.0)) same c.if-index.true in
    (λ spent. absurd (apart c.refused.result.kind (ap (λ (f : PutFault). f.kind) c.refused.ensures) spent), λ h. absurd (true≢false (sym gone ∙ h.0)))

pub returns-then-self-ge-PUT_LIMIT-clause-marked : goal.returns-then-self-ge-PUT_LIMIT-clause-marked
returns-then-self-ge-PUT_LIMIT-clause-marked g c marked =
    let lt : c.lane_of-lane.result < length c.self.inside.ends.items = omega (arith, c.lane_of-lane.ensures.bound, c.len.ensures, c.self.inside.ends.ok.0) in
    let same = sym (ap (λ (s : ProducerState). s.ends) c.self.view_is) in
    let free = shows c.self.inside.ends.items c.lane_of-lane.result c.index.result.now c.args.self.now false c.args.key lt c.index.ensures (c.lane_of-lane.ensures.value ∙ ap (lane_of_document c.args.key) (c.len.ensures ∙ c.self.inside.ends.ok.0)) same c.if-index.false in
    absurd (true≢false (sym marked ∙ free))

pub returns-then-self-ge-PUT_LIMIT-clause-spent : goal.returns-then-self-ge-PUT_LIMIT-clause-spent
returns-then-self-ge-PUT_LIMIT-clause-spent g c =
    let lt : c.lane_of-lane.result < length c.self.inside.ends.items = omega (arith, c.lane_of-lane.ensures.bound, c.len.ensures, c.self.inside.ends.ok.0) in
    let same = sym (ap (λ (s : ProducerState). s.ends) c.self.view_is) in
    let free = shows c.self.inside.ends.items c.lane_of-lane.result c.index.result.now c.args.self.now false c.args.key lt c.index.ensures (c.lane_of-lane.ensures.value ∙ ap (lane_of_document c.args.key) (c.len.ensures ∙ c.self.inside.ends.ok.0)) same c.if-index.false in
    let put = ap (λ (s : ProducerState). s.put) c.self.view_is in
    let limit = c.self.invariant.0.limit in
    (λ spent. (free, omega arith), λ h. ap (λ (f : PutFault). f.kind) c.refused-then-self-ge-PUT_LIMIT.ensures)

pub returns-clause-reached : goal.returns-clause-reached
returns-clause-reached g c =
    let lt : c.lane_of-lane.result < length c.self.inside.ends.items = omega (arith, c.lane_of-lane.ensures.bound, c.len.ensures, c.self.inside.ends.ok.0) in
    let same = sym (ap (λ (s : ProducerState). s.ends) c.self.view_is) in
    shows c.self.inside.ends.items c.lane_of-lane.result c.index.result.now c.args.self.now false c.args.key lt c.index.ensures (c.lane_of-lane.ensures.value ∙ ap (lane_of_document c.args.key) (c.len.ensures ∙ c.self.inside.ends.ok.0)) same c.if-index.false

pub returns-clause-marked : goal.returns-clause-marked
returns-clause-marked g c marked =
    let lt : c.lane_of-lane.result < length c.self.inside.ends.items = omega (arith, c.lane_of-lane.ensures.bound, c.len.ensures, c.self.inside.ends.ok.0) in
    let same = sym (ap (λ (s : ProducerState). s.ends) c.self.view_is) in
    true≢false (sym marked ∙ shows c.self.inside.ends.items c.lane_of-lane.result c.index.result.now c.args.self.now false c.args.key lt c.index.ensures (c.lane_of-lane.ensures.value ∙ ap (lane_of_document c.args.key) (c.len.ensures ∙ c.self.inside.ends.ok.0)) same c.if-index.false)
