use Rattle.std.proofs.Common.{ap, subst, arith, rules}
use Rattle.std.proofs.lemmas.List.{length-map}
use Rattle.relay_flight.specs.InFlight.{numbered_batch}
use Rattle.relay_core.specs.State.{IsLane}
use Rattle.relay_core.specs.Memory.{writes_in}
use Rattle.relay_core.proofs.Taken.{entries_length}
use Rattle.relay_core.proofs.Weighed.{weighed_seen}
use Rattle.relay_core.proofs.Lasting.{held_in_order, rises_seen, same_many, numbers_seen}
use Rattle.relay_core.specs.State.{Seen}
use Rattle.relay_core.proofs.lane.Lane.totals.Goals as goal

pub returns-clause-lane : goal.returns-clause-lane
returns-clause-lane c =
    let i = c.self.inside in
    let v = c.self.invariant in
    let begun = v.flight.begun in
    subst IsLane (ap (λ (v : Seen). v.state) c.self.view_is) (record {
      valid = v.config;
      config = λ j. record { epoch = i.config.epoch; first = v.begins j; deals = i.config.deal; max = i.config.attempts; age = i.config.give_up_after; cap = i.config.limits.count };
      senders = (let n = v.senders in omega arith);
      clock = omega arith;
      held = (let n = entries_length i.held.list (writes_in i.flight.requests) in let f = v.few in omega arith);
      assigned = (let n = entries_length i.held.list (writes_in i.flight.requests) in let d = v.done in omega (arith, n, d));
      weighed = weighed_seen i.config.attempts i.flight.next (writes_in i.flight.requests) i.held.list v.readable.kept;
      in_order = held_in_order i v;
      rises = rises_seen (writes_in i.flight.requests) i.held.list v.readable.rises;
      flying = (let w = v.flight.within in let m = v.most in let n = length-map i.flight.requests numbered_batch in omega (arith, w, m, n));
      beside = same_many i.flight.requests;
      numbered = numbers_seen i v;
      next = omega (arith, begun);
      numbers = (let l = v.left in let d = v.dealt in omega (arith, l, d, begun));
    })

pub returns-clause-totals : goal.returns-clause-totals
returns-clause-totals c = search rules
