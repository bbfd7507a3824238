use Rattle.std.proofs.Common.{◌≡◌, ℕ, List, Some, refl, sym, ap, subst, ◌∙◌, arith}
use Rattle.relay_flight.specs.declared.request.Request.{Request}
use Rattle.relay_flight.specs.InFlight.{InFlight, IsInFlight, others}
use Rattle.relay_flight.proofs.Numbers.{Lacks-position, find-Lacks, others-Lacks, find-position, others-position, find-others, numbered_others, fewer_others}
use Rattle.relay_flight.proofs.flight.Flight.settle.Goals as goal

pub returns-in_err-at-clause-request : goal.returns-in_err-at-clause-request
returns-in_err-at-clause-request c =
    let found = find-Lacks c.args.number _ (Lacks-position c.args.number c.args.self.now.requests (sym c.place.ensures ∙ c.in_err-at.was)) in cc

pub returns-in_err-at-clause-after : goal.returns-in_err-at-clause-after
returns-in_err-at-clause-after c =
    let kept = others-Lacks c.args.number _ (Lacks-position c.args.number c.args.self.now.requests (sym c.place.ensures ∙ c.in_err-at.was)) in rw kept refl

pub returns-in_err-at-clause-looked_up : goal.returns-in_err-at-clause-looked_up
returns-in_err-at-clause-looked_up c = λ k.
    let kept = others-Lacks c.args.number _ (Lacks-position c.args.number c.args.self.now.requests (sym c.place.ensures ∙ c.in_err-at.was)) in
    rw kept at (find-others c.args.number k c.args.self.now.requests)

-- fewer keep the table in order
kept_less : (n : ℕ) (f : InFlight) (rs : List Request) → rs ≡ others n f.requests → IsInFlight f → IsInFlight (record { max = f.max; next = f.next; requests = rs })
kept_less n f rs same kept =
    let most = kept.within in
    let fewer = fewer_others n f.requests in
    subst (λ qs. IsInFlight (record { max = f.max; next = f.next; requests = qs })) (sym same) (record {
      begun = kept.begun;
      numbered = numbered_others n 1 f.next f.requests kept.numbered;
      within = omega (arith, most, fewer);
    })

pub invariant_of-self : goal.invariant_of-self
invariant_of-self c =
    let i = c.self.inside in
    let place = rw (← c.self.view_is) at (sym c.place.ensures ∙ c.in_ok-at.was) in
    let left = others-position c.args.number 1 i.next i.held.items c.in_ok-at.at c.remove.result c.self.invariant.flight.numbered place in
    record {
      flight = kept_less c.args.number (record { max = i.max; next = i.next; requests = i.held.items }) c.remove.new.self.items (c.remove.ensures.items ∙ sym left) c.self.invariant.flight;
      room = (let cap = c.remove.ensures.capacity in let room = c.self.invariant.room in omega (arith, cap, room));
      counted = c.self.invariant.counted;
    }

pub returns-clause-request : goal.returns-clause-request
returns-clause-request c =
    let place = rw (← c.self.view_is) at (sym c.place.ensures ∙ c.in_ok-at.was) in
    rw (← c.self.view_is)
    (ap Some c.remove.ensures.value ∙ sym (find-position c.args.number c.self.inside.held.items c.in_ok-at.at c.remove.result place))

pub returns-clause-after : goal.returns-clause-after
returns-clause-after c =
    let i = c.self.inside in
    let place = rw (← c.self.view_is) at (sym c.place.ensures ∙ c.in_ok-at.was) in
    let left = others-position c.args.number 1 i.next i.held.items c.in_ok-at.at c.remove.result c.self.invariant.flight.numbered place in
    rw (c.remove.ensures.items, ← c.self.view_is, left) refl

pub returns-clause-looked_up : goal.returns-clause-looked_up
returns-clause-looked_up c = λ k.
    let i = c.self.inside in
    let place = rw (← c.self.view_is) at (sym c.place.ensures ∙ c.in_ok-at.was) in
    let left = others-position c.args.number 1 i.next i.held.items c.in_ok-at.at c.remove.result c.self.invariant.flight.numbered place in
    rw (c.remove.ensures.items, ← c.self.view_is) (rw left at (find-others c.args.number k i.held.items))

pub returns-clause-kept : goal.returns-clause-kept
returns-clause-kept c = (invariant_of-self c).flight
