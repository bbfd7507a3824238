use Rattle.std.proofs.Common.{ℕ, [], length, arith, sym, ap, ◌∙◌, subst, rules}
use Rattle.relay_flight.specs.InFlight.{InFlight, IsInFlight}
use Rattle.relay_held.specs.Queues.{Holding}
use Rattle.relay_core.specs.Memory.{AllKept, Rises, Carries, HasRoom, AreFew, writes_in, AllUnder, tries_left}
use Rattle.relay_core.proofs.Valid.{valid_facts}
use Rattle.relay_results.proofs.Lists.{apart_tests}
use Rattle.relay_core.specs.Quiet.{is_roomy}
use Rattle.relay_core.proofs.lane.Lane.new.Goals as goal

fresh_flight : (max : ℕ) → IsInFlight (record { max = max; next = 1; requests = [] })
fresh_flight max = record { begun = omega arith; numbered = tt; within = omega arith }

pub invariant_of-result : goal.invariant_of-result
invariant_of-result c =
    let f = valid_facts c.args.config c.requires in
    let held = ap (λ (h : Holding). h.list) c.new.ensures in
    let none = ap length held in
    let flight = c.in_ok-new.ensures in
    let none_flies = ap (λ (x : InFlight). x.requests) flight in
    let first = c.first_in.ensures in
    record {
      readable = record {
        kept = subst (AllKept _ _) (sym held) tt;
        rises = subst Rises (sym held) tt;
        carries = λ n. subst (λ hs. Carries n 0 hs (writes_in c.in_ok-new.field-0.requests n)) (sym held) (ap (λ fs. writes_in fs n) none_flies);
        caps = λ n. subst (λ hs. HasRoom n (length (writes_in c.in_ok-new.field-0.requests n)) hs) (sym held) tt;
        few = subst AreFew (sym none_flies) tt;
      };
      under = subst (AllUnder _) (sym held) tt;
      flight = subst IsInFlight (sym flight) (fresh_flight c.args.config.in_flight);
      most = ap (λ (x : InFlight). x.max) flight;
      room = omega (arith, c.new-3.ensures.len, none);
      places = (let l = c.new-4.ensures.len in omega (arith, none, l));
      few = omega (arith, none);
      limit = f.held;
      tries = f.tries;
      senders = c.in_ok-vec.ensures.len;
      first = omega (arith, first);
      versions = (let e = f.epoch in let d = f.deal.1 in omega (arith, first, e, d));
      dealt = (let d = f.deal.1 in omega (arith, d));
      counted = omega arith;
      done = omega (arith, none);
      left = (let a = ap (tries_left c.args.config.attempts) held in let b = ap (λ (x : InFlight). x.next) flight in omega arith);
      config = c.requires;
      begins = first;
      quiet = λ roomy. absurd (apart_tests (ap is_roomy (sym c.no_room.ensures) ∙ roomy));
    }

pub returns : goal.returns
returns c = search rules
