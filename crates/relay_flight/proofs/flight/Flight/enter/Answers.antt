use Rattle.std.proofs.Common.{◌≡◌, ◌+◌, ◌<◌, ◌++◌, ◌∷◌, List, [], length, length-append, refl, sym, subst, arith}
use Rattle.relay_flight.specs.declared.request.Request.{Request}
use Rattle.relay_flight.specs.InFlight.{InFlight, IsInFlight}
use Rattle.relay_flight.proofs.Numbers.{lacks_next, find-Lacks, find-push, numbered_push}
use Rattle.relay_flight.proofs.flight.Flight.enter.Goals as goal

-- one more keeps the table in order
kept_more : (f : InFlight) (x : Request) (rs : List Request) → x.number ≡ f.next → length f.requests < f.max → rs ≡ f.requests ++ x ∷ [] → IsInFlight f → IsInFlight (record { max = f.max; next = f.next + 1; requests = rs })
kept_more f x rs e lt same kept =
    let begun = kept.begun in
    let len = length-append f.requests (x ∷ []) in
    subst (λ qs. IsInFlight (record { max = f.max; next = f.next + 1; requests = qs })) (sym same) (record {
      begun = omega (arith, begun);
      numbered = numbered_push 1 f.next f.requests x begun e kept.numbered;
      within = omega (arith, len, lt);
    })

pub invariant_of-self : goal.invariant_of-self
invariant_of-self c = record {
  flight = kept_more (record { max = c.self.inside.max; next = c.self.inside.next; requests = c.self.inside.held.items }) (record { number = c.self.inside.next; batch = c.args.batch; writes = c.args.writes }) c.push_reserved.new.self.items refl (omega arith) c.push_reserved.ensures.items c.self.invariant.flight;
  room = (let cap = c.push_reserved.ensures.capacity in let room = c.self.invariant.room in omega (arith, cap, room));
  counted = c.self.invariant.counted;
}

pub returns-clause-looked_up : goal.returns-clause-looked_up
returns-clause-looked_up c = λ k.
    rw (c.push_reserved.ensures.items, ← c.self.view_is)
    (find-push k c.self.inside.held.items (record { number = c.self.inside.next; batch = c.args.batch; writes = c.args.writes }) (lacks_next 1 c.self.inside.next c.self.inside.held.items c.self.invariant.flight.numbered))

pub returns-clause-fresh : goal.returns-clause-fresh
returns-clause-fresh c = rw (← c.self.view_is) (find-Lacks c.self.inside.next c.self.inside.held.items (lacks_next 1 c.self.inside.next c.self.inside.held.items c.self.invariant.flight.numbered))

pub returns-clause-kept : goal.returns-clause-kept
returns-clause-kept c = (invariant_of-self c).flight
