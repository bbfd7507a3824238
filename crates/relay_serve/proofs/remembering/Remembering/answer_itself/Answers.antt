use Rattle.std.proofs.Common.{◌∙◌, inl, inr, ⊎_elim}
use Rattle.relay_serve.proofs.Repeats.{itself}
use Rattle.relay_serve.proofs.remembering.Remembering.answer_itself.Goals as goal

pub returns-then-is_zero-clause-ok : goal.returns-then-is_zero-clause-ok
returns-then-is_zero-clause-ok g c =
    let old = c.args.self.now in
    let mid = c.call.new.self in
    let new = c.offer.new.self in
    itself old.front mid new.front old.spoken new.spoken c.args.request.now c.call.new.response c.in_ok-call.ensures.ok (c.offer.ensures.front ∙ c.withdraw.ensures.front)
    (c.offer.ensures.repeated ∙ c.withdraw.ensures.repeated ∙ c.reserve.ensures.items) (λ e m. ⊎_elim (λ l. inl (c.withdraw.ensures.given e l)) (λ q. inr (q, c.if-has_settled.true)) (c.offer.ensures.given e m))

pub returns-else-has_settled-clause-ok : goal.returns-else-has_settled-clause-ok
returns-else-has_settled-clause-ok g c =
    let old = c.args.self.now in
    let new = c.withdraw.new.self in
    itself old.front c.call.new.self new.front old.spoken new.spoken c.args.request.now c.call.new.response c.in_ok-call.ensures.ok c.withdraw.ensures.front
    (c.withdraw.ensures.repeated ∙ c.reserve.ensures.items) (λ e m. inl (c.withdraw.ensures.given e m))
