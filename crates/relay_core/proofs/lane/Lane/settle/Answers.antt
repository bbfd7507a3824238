use Rattle.std.proofs.Common.{◌≡◌, ℕ, ◌==◌, ◌-◌, ◌+◌, ◌++◌, Some, refl, sym, ap, ◌∙◌, subst, false, arith, length}
use Rattle.std.specs.Prelude.{map, is_some, min, Bool}
use Rattle.relay_results.specs.Fates.{Fate, Flies}
use Rattle.relay_delivery.specs.Machine.{is_applied_fate, is_already_fate, how_many}
use Rattle.relay_delivery.specs.Lane as core
use Rattle.relay_flight.specs.Flying as flight
use Rattle.relay_flight.specs.InFlight.{InFlight, request_at, others, batches_of}
use Rattle.relay_flight.proofs.Numbers.{batches_settled}
use Rattle.relay_results.proofs.Lists.{apart_tests}
use Rattle.relay_core.specs.Quiet.{is_roomy}
use Rattle.relay_core.specs.Walk.{allowed_at, report_of, kept_walk, reports_walk, successes_walk, tally_walk}
use Rattle.relay_core.specs.State.{State, config_of, is_flying, after_answer_to, writes_of, count_fates, is_reported_fate, is_retried_fate}
use Rattle.relay_core.specs.Successes.{successes_from}
use Rattle.relay_core.specs.Memory.{SaysAs, TellsAs, IsHalf, Carries, writes_in, entries, flying_of, AllUnder, tries_left}
use Rattle.relay_core.specs.View.{state_of, IsSound}
use Rattle.relay_core.proofs.Invariant.{readable_after, readable_by, under_walk, left_walk}
use Rattle.relay_core.proofs.Reading.{writes_seen, number_seen, found_in, found_from, writes_of_found}
use Rattle.relay_core.proofs.Settling.{tries_agree, allowed_most, kept_seen, reported_seen, succeeded_seen, tally_seen}
use Rattle.relay_core.proofs.Keeping.{without_other, without_seen}
use Rattle.relay_core.specs.State.{Seen}
use Rattle.relay_core.proofs.lane.Lane.settle.Goals as goal

pub invariant_of-self : goal.invariant_of-self
invariant_of-self c =
    let i = c.self.inside in
    subst (λ (f : InFlight). IsSound (record i { flight = f })) (sym c.in_default.ensures.unchanged) c.self.invariant

pub returns-in_default-clause-flies : goal.returns-in_default-clause-flies
returns-in_default-clause-flies c =
    let i = c.self.inside in
    ap is_some (sym c.in_default.is ∙ c.settle.ensures.request) ∙ found_in i.flight.requests c.args.number
    ∙ number_seen 1 i.flight.next i.flight.requests c.args.number (omega arith) c.self.invariant.flight.numbered
    ∙ ap (λ (v : Seen). is_flying c.args.number v.state) c.self.view_is

pub returns-clause-flies : goal.returns-clause-flies
returns-clause-flies c =
    let i = c.self.inside in
    ap is_some (sym c.in-Some.is ∙ c.settle.ensures.request) ∙ found_in i.flight.requests c.args.number
    ∙ number_seen 1 i.flight.next i.flight.requests c.args.number (omega arith) c.self.invariant.flight.numbered
    ∙ ap (λ (v : Seen). is_flying c.args.number v.state) c.self.view_is

pub settle_walk-found-requires-clause-carries : goal.settle_walk-found-requires-clause-carries
settle_walk-found-requires-clause-carries c =
    let i = c.self.inside in
    let n = c.args.number in
    let found : request_at n i.flight ≡ Some c.in-Some.request = sym c.settle.ensures.request ∙ c.in-Some.is in
    subst (λ ws. Carries n 0 i.held.list ws) (sym (writes_of_found i.flight.requests n c.in-Some.request found)) (c.self.invariant.readable.carries n)

pub returns-clause-settled : goal.returns-clause-settled
returns-clause-settled c a says tells =
    let i = c.self.inside in
    let v = c.self.invariant in
    let n = c.args.number in
    let e = c.settle_walk-found.ensures in
    let fs = i.flight.requests in
    let hs = i.held.list in
    let os = c.args.outcomes.items in
    let all = writes_in fs n in
    let g = (state_of i).core.config in
    let r = v.readable in
    let agree = tries_agree g i.held.clock (writes_in fs) hs r.rises in
    let next = i.flight.next in
    let found : request_at n i.flight ≡ Some c.in-Some.request = sym c.settle.ensures.request ∙ c.in-Some.is in
    let from = found_from next fs n c.in-Some.request v.flight.numbered found in
    let ws = writes_of_found fs n c.in-Some.request found in
    let of_all = writes_seen 1 next fs n (omega arith) v.flight.numbered from in
    let left : c.settle.new.self.requests ≡ others n fs = ap (λ (y : InFlight). y.requests) c.settle.ensures.after in
    let says' : SaysAs a all c.args.whole os = subst (λ vs. SaysAs a vs c.args.whole os) (ap (λ (s : State). writes_of n s) (sym (ap (λ (v : Seen). v.state) c.self.view_is)) ∙ of_all) says in
    let same : (m : ℕ) → (m == n) ≡ false → writes_in (others n fs) m ≡ writes_in fs m = without_other fs n in
    let walked = e.held ∙ (λ j. kept_walk hs (allowed_at (config_of i.config) (c.clock-clock.ensures j)) (c.clock-clock.ensures j) n c.args.whole (ws j) os) in
    let held = (λ j. entries (walked j) (writes_in (left j))) ∙ kept_seen (core.tries_in (state_of i).core) (allowed_at g i.held.clock) g.max i.held.clock n next c.args.whole all os a (writes_in fs) (writes_in (others n fs)) says' from refl same hs 0 all os refl refl (r.carries n) r.kept agree in
    let reports = e.reports ∙ (λ j. map report_of i.reports.items ++ reports_walk hs (allowed_at (config_of i.config) (c.clock-clock.ensures j)) n c.args.whole (ws j) os) ∙ ap (λ rs. map report_of i.reports.items ++ rs) (reported_seen (core.tries_in (state_of i).core) (allowed_at g i.held.clock) g.max i.held.clock n next c.args.whole all os a (writes_in fs) (writes_in (others n fs)) says' from refl same hs 0 all os refl refl (r.carries n) r.kept agree) in
    let tells' : TellsAs a all os = subst (λ vs. TellsAs a vs os) (ap (λ (s : State). writes_of n s) (sym (ap (λ (v : Seen). v.state) c.self.view_is)) ∙ of_all) tells in
    let successes = e.successes ∙ (λ j. i.successes.items ++ successes_walk hs (allowed_at (config_of i.config) (c.clock-clock.ensures j)) n c.args.whole (ws j) os) ∙ ap (λ rs. i.successes.items ++ rs) (succeeded_seen (core.tries_in (state_of i).core) (allowed_at g i.held.clock) g.max i.held.clock n next c.args.whole all os a (writes_in fs) (writes_in (others n fs)) says' from refl same tells' hs 0 all os refl refl (r.carries n) r.kept agree) in
    let tallied : (q : Fate → Bool) → q Flies ≡ false → tally_walk q hs (allowed_at (config_of i.config) c.clock-clock.result) n c.args.whole c.in-Some.request.writes.items os ≡ how_many q (core.tries_in (state_of i).core) (n - 1) all a (core.held_of (entries hs (writes_in fs))) =
    (λ q z. (λ j. tally_walk q hs (allowed_at (config_of i.config) (c.clock-clock.ensures j)) n c.args.whole (ws j) os) ∙ tally_seen (core.tries_in (state_of i).core) (allowed_at g i.held.clock) g.max i.held.clock n next c.args.whole all os a (writes_in fs) (writes_in (others n fs)) says' from refl same q z hs 0 all os refl refl (r.carries n) r.kept agree) in
    let applied = ap (λ k. i.applied + k) (e.applied ∙ tallied is_applied_fate refl) in
    let already = ap (λ k. i.already + k) (e.already ∙ tallied is_already_fate refl) in
    let flying = ap (map flying_of) left ∙ without_seen 1 next fs n (omega arith) v.flight.numbered from in
    let flights = ap batches_of c.settle.ensures.after ∙ batches_settled n i.flight in
    (λ j. record {
      config = i.config;
      core = record {
        config = g;
        clock = e.clock j;
        taken = i.taken;
        requests = (c.settle.ensures.after j).next - 1;
        held = held j;
        flying = flying j;
        reports = reports j;
        applied = applied j;
        already = already j;
      };
      mark = i.mark;
      closed = i.closed.items;
      flights = flights j;
      successes = successes j;
    })
    ∙ ap (λ vs. record (state_of i) { core = core.after_settling (state_of i).core (n - 1) vs a; flights = flight.without_batch n (batches_of i.flight); successes = i.successes.items ++ successes_from (core.tries_in (state_of i).core) (n - 1) vs a (core.held_of (entries hs (writes_in fs))) }) (sym of_all)
    ∙ ap (λ (s : State). after_answer_to s n a) (ap (λ (v : Seen). v.state) c.self.view_is)

pub returns-clause-counts : goal.returns-clause-counts
returns-clause-counts c a says =
    let i = c.self.inside in
    let v = c.self.invariant in
    let n = c.args.number in
    let e = c.settle_walk-found.ensures in
    let fs = i.flight.requests in
    let hs = i.held.list in
    let os = c.args.outcomes.items in
    let all = writes_in fs n in
    let g = (state_of i).core.config in
    let r = v.readable in
    let agree = tries_agree g i.held.clock (writes_in fs) hs r.rises in
    let next = i.flight.next in
    let found : request_at n i.flight ≡ Some c.in-Some.request = sym c.settle.ensures.request ∙ c.in-Some.is in
    let from = found_from next fs n c.in-Some.request v.flight.numbered found in
    let ws = writes_of_found fs n c.in-Some.request found in
    let of_all = writes_seen 1 next fs n (omega arith) v.flight.numbered from in
    let says' : SaysAs a all c.args.whole os = subst (λ vs. SaysAs a vs c.args.whole os) (ap (λ (s : State). writes_of n s) (sym (ap (λ (v : Seen). v.state) c.self.view_is)) ∙ of_all) says in
    let same : (m : ℕ) → (m == n) ≡ false → writes_in (others n fs) m ≡ writes_in fs m = without_other fs n in
    let is : (q : Fate → Bool) → q Flies ≡ false → tally_walk q hs (allowed_at (config_of i.config) c.clock-clock.result) n c.args.whole c.in-Some.request.writes.items os ≡ count_fates q c.args.self.now.state n a =
    (λ q z. (λ j. tally_walk q hs (allowed_at (config_of i.config) (c.clock-clock.ensures j)) n c.args.whole (ws j) os)
    ∙ tally_seen (core.tries_in (state_of i).core) (allowed_at g i.held.clock) g.max i.held.clock n next c.args.whole all os a (writes_in fs) (writes_in (others n fs)) says' from refl same q z hs 0 all os refl refl (r.carries n) r.kept agree
    ∙ ap (λ vs. how_many q (core.tries_in (state_of i).core) (n - 1) vs a (core.held_of (entries hs (writes_in fs)))) (sym of_all)
    ∙ ap (λ (s : State). count_fates q s n a) (ap (λ (v : Seen). v.state) c.self.view_is)) in
    record {
      applied = e.applied ∙ is is_applied_fate refl;
      already = e.already ∙ is is_already_fate refl;
      reported = e.reported ∙ is is_reported_fate refl;
      retried = e.retried ∙ is is_retried_fate refl;
    }

pub invariant_of-self-2 : goal.invariant_of-self-2
invariant_of-self-2 c =
    let i = c.self.inside in
    let v = c.self.invariant in
    let e = c.settle_walk-found.ensures in
    let n = c.args.number in
    let fs = i.flight.requests in
    let next = i.flight.next in
    let found : request_at n i.flight ≡ Some c.in-Some.request = sym c.settle.ensures.request ∙ c.in-Some.is in
    let from = found_from next fs n c.in-Some.request v.flight.numbered found in
    let ws = writes_of_found fs n c.in-Some.request found in
    let of_all = writes_seen 1 next fs n (omega arith) v.flight.numbered from in
    let left : c.settle.new.self.requests ≡ others n fs = ap (λ (y : InFlight). y.requests) c.settle.ensures.after in
    let half : IsHalf c.args.whole (length (writes_in fs n)) = subst (λ vs. IsHalf c.args.whole (length vs)) (ap (λ (s : State). writes_of n s) (sym (ap (λ (v : Seen). v.state) c.self.view_is)) ∙ of_all) c.requires.halves in
    let walked = e.held ∙ (λ j. kept_walk i.held.list (allowed_at (config_of i.config) (c.clock-clock.ensures j)) (c.clock-clock.ensures j) n c.args.whole (ws j) c.args.outcomes.items) in
    record {
      readable = readable_by _ _ _ _ _ (ap (λ (f : InFlight). f.next) (sym c.settle.ensures.after))
          (readable_after (allowed_at (config_of i.config) i.held.clock) i.config.attempts i.held.clock n next (allowed_most (config_of i.config) i.held.clock) v.tries.0 (omega (arith, c.self.ranges)) c.args.whole c.args.outcomes.items i.held.list _ fs _ walked left half v.readable);
      under = subst (λ hs. AllUnder (i.first + min i.taken i.config.deal) hs) (sym walked) (under_walk (allowed_at (config_of i.config) i.held.clock) i.held.clock n c.args.whole _ i.held.list (writes_in fs n) c.args.outcomes.items v.under);
      flight = c.settle.ensures.kept;
      most = ap (λ (f : InFlight). f.max) c.settle.ensures.after ∙ v.most;
      room = e.room;
      places = e.places;
      few = (let p = e.fewer in let q = v.few in omega arith);
      limit = v.limit;
      tries = v.tries;
      senders = v.senders;
      first = v.first;
      versions = v.versions;
      dealt = v.dealt;
      counted = (let p = e.more in let q = v.counted in omega arith);
      done = (let p = e.done in let q = v.done in omega arith);
      left = (let p = left_walk (allowed_at (config_of i.config) i.held.clock) i.config.attempts i.held.clock n (length (writes_in fs n)) c.args.whole i.held.list (writes_in fs n) c.args.outcomes.items half (v.readable.caps n) in
          let q = ap (tries_left i.config.attempts) walked in
          let t = ap (λ (f : InFlight). f.next) c.settle.ensures.after in
          let l = v.left in omega arith);
      config = v.config;
      begins = v.begins;
      quiet = λ roomy. absurd (apart_tests (ap is_roomy (sym c.no_room-self-inside.ensures) ∙ roomy));
    }
