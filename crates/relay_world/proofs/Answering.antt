-- A reply, an answer to a whole request and a loss keep a world tied.
use Rattle.std.proofs.Common.{◌≡◌, ℕ, ◌+◌, arith, List, Some, Bool, true, refl, sym, ap, ◌∙◌, subst, ⊎_elim}
use Rattle.std.specs.Prelude.{slice_get, option_and_then}
use Rattle.relay_action.specs.declared.operation.Op.{Op}
use Rattle.relay_results.specs.Words.{Mem, update}
use Rattle.relay_results.specs.Outside.{Answer, Unanswered, Request, IsHonest}
use Rattle.relay_results.specs.Numbers.{from_zero}
use Rattle.relay_results.proofs.Lists.{equal_or_not, at-map, at-update-cases, length-update, some_same}
use Rattle.relay_delivery.specs.Machine.{Config, Core, Answers, step}
use Rattle.relay_delivery.specs.Lane as delivery
use Rattle.relay_delivery.specs.Together.{Together, Origin, AnswersAt, act, MayAct}
use Rattle.relay_delivery.proofs.Numbered.{unanswered_on, answer_on}
use Rattle.relay_delivery.proofs.Accounts.{act_together}
use Rattle.relay_delivery.proofs.Sharing.{TogetherFacts, happens_in_lanes}
use Rattle.relay_delivery.proofs.Lives.{past_of, facts_together}
use Rattle.relay_delivery.specs.Renumbering.{numbered_on}
use Rattle.relay_core.specs.State as lane
use Rattle.relay_core.specs.State.{config_of}
use Rattle.relay_world.specs.State.{Desk, Sent, World, opening_version, ended_of, desk_at, lane_of, op_with, writes_of, has_closed}
use Rattle.relay_world.specs.Headline.{request_of, runs_of}
use Rattle.relay_world.specs.Changes.{with_answer, answered_desk}
use Rattle.relay_world.specs.Ties.{versions_of, IsOriginOf, IsLaneOf, AreLanes, AreRequests, IsTied}
use Rattle.relay_world.proofs.Carried.{Keeps, TakesMore, keeps, found_kept, request_kept, map-update, Mem-update}
use Rattle.relay_world.proofs.Indexed.{over_same, SameIndex, index_kept}
use Rattle.relay_world.proofs.Alike.{changed_same, changed_other, any_unmoved, seen_unmoved, IsDeskOf, desk_there, desks_after, lanes_from, takes_more, takes_none}

module _ (w : World) (t : Together) (b : ℕ → ℕ) (i : IsTied w t b) (k : ℕ) (s : Sent) (here : slice_get w.sent k ≡ Some s) (a : Answer)
    (d : Desk) (there : desk_at w s.lane ≡ Some d) (of_now : s.epoch ≡ w.config.epoch) (flies : lane.is_flying s.number d.lane ≡ true) (honest : IsHonest t.runs k (writes_of w s) a) where
  abbrev g : Config
  g = config_of w.config

  abbrev from : Origin
  from = record { lane = s.lane; number = from_zero (b s.lane + s.number) }

  -- what is old in its lane
  abbrev old : ℕ → Bool
  old = delivery.old_in (numbered_on (b s.lane) d.lane.core)

  abbrev u : Together
  u = act g (lane_of w) (AnswersAt k a old from) t

  abbrev answered : Desk → Desk
  answered = answered_desk s.number a

  abbrev sent_now : List Sent
  sent_now = update k (with_answer a) w.sent

  -- the world afterwards
  abbrev new : World
  new = over_same w (update s.lane answered w.desks) w.accepted sent_now

  facts : TogetherFacts g (lane_of w) (past_of (opening_version w) (ended_of w)) t
  facts = facts_together (opening_version w) g (lane_of w) (ended_of w) t i.came_about

  is_origin : IsOriginOf w t b k s
  is_origin = i.requests.origins k s here

  origin : slice_get t.origins k ≡ Some from
  origin = is_origin.origin ∙ ap (λ m. Some (record { lane = s.lane; number = m })) (is_origin.of_now of_now).0

  request_is : slice_get t.sent k ≡ Some (request_of w s)
  request_is = ap (λ qs. slice_get qs k) i.requests.sent ∙ at-map (request_of w) w.sent k s here

  desk_is : IsDeskOf w.config (b s.lane) (Some d) (t.lanes.queue s.lane) (t.lanes.lane s.lane)
  desk_is = desk_there w t b i.lanes s.lane d there

  works : IsLaneOf w.config d
  works = desk_is.works d refl

  -- it was not answered yet
  unanswered : s.answer ≡ Unanswered
  unanswered =
      let same = facts.same k from origin in
      let there_is = unanswered_on (b s.lane) d.lane.core (t.lanes.lane s.lane) s.number flies desk_is.lane in
      let one = some_same (request_of w s) same.request (sym request_is ∙ same.here) in
      let two = some_same same.request (record { writes = delivery.writes_at (from_zero s.number) d.lane.core.flying; answer = Unanswered }) (sym same.there ∙ there_is) in
      ap (λ (q : Request). q.answer) (one ∙ two)

  may : MayAct g (AnswersAt k a old from) t
  may = (happens_in_lanes g (lane_of w) (past_of (opening_version w) (ended_of w)) t facts).answers k a old from origin (record { request = request_of w s; sent = request_is; open_yet = unanswered; honest = honest })

  -- ---- the desk

  desk_now : IsDeskOf w.config (b s.lane) (Some (answered d)) (t.lanes.queue s.lane) (step g (Answers from.number a old) (t.lanes.lane s.lane))
  desk_now = record {
    queue_is = desk_is.queue_is;
    taken = desk_is.taken;
    lane = subst (λ x. delivery.IsOf (numbered_on (b s.lane) (delivery.after_answer_to d.lane.core s.number a)) (step x (Answers from.number a old) (t.lanes.lane s.lane))) works.config
        (answer_on (b s.lane) d.lane.core (t.lanes.lane s.lane) s.number a flies desk_is.lane);
    works = λ x e. let one : answered d ≡ x = cc in subst (IsLaneOf w.config) one (record { config = works.config; senders = works.senders; next = works.next });
  }

  more_none : TakesMore w new
  more_none = takes_none w s.lane answered w.accepted sent_now (λ x. refl)

  lanes_now : AreLanes new u b
  lanes_now =
      let c = step g (Answers from.number a old) (t.lanes.lane s.lane) in
      lanes_from new u b i.lanes.producers i.lanes.accepted
      (λ p. i.lanes.closed p ∙ sym (any_unmoved (has_closed p) answered s.lane w.desks (λ x. refl)))
      (desks_after w t b i.lanes s.lane d there answered u.lanes.queue u.lanes.lane
      (subst (λ x. IsDeskOf w.config (b s.lane) (Some (answered d)) (t.lanes.queue s.lane) x) (sym (changed_same t.lanes.lane s.lane c)) desk_now)
      (λ m ne. (refl, changed_other t.lanes.lane s.lane c m ne)))

  -- ---- the requests

  kept : Keeps w new
  kept = keeps w new refl refl more_none

  requests_now : AreRequests new u b
  requests_now =
      let r = i.requests in
      record {
        sent = ap (update k (λ q. record { writes = q.writes; answer = a })) r.sent
            ∙ sym (map-update (request_of new) (request_of w) (with_answer a) (λ q. record { writes = q.writes; answer = a }) k w.sent
            (λ x m. request_kept w new x x x.answer kept (r.found x m) refl refl refl)
            (λ x m. request_kept w new x (with_answer a x) a kept (r.found x m) refl refl refl));
        origins = λ m x at. ⊎_elim {C = IsOriginOf new u b m x}
            (λ old. let o = r.origins m x old.1 in record { number = o.number; origin = o.origin; not_later = o.not_later; of_now = o.of_now })
            (λ one.
            let o = r.origins m one.1.0 (ap (slice_get w.sent) one.0 ∙ one.1.1) in
            let now : IsOriginOf new u b m (with_answer a one.1.0) = record { number = o.number; origin = o.origin; not_later = o.not_later; of_now = o.of_now } in
            subst (λ (z : Sent). IsOriginOf new u b m z) (sym one.1.2) now)
            (at-update-cases k (with_answer a) w.sent m x at);
        grown = λ p m. (let le = r.grown p m in let n = length-update k (with_answer a) w.sent in omega (arith, le, n));
        runs = λ request place. r.runs request place ∙ sym (seen_unmoved (λ o. runs_of (option_and_then (λ (x : Sent). slice_get x.items place) o)) (with_answer a) k w.sent request (λ x. refl));
        found = λ x m. ⊎_elim {C = (v : ℕ) → Mem v (versions_of x) → (o : Op) × (op_with new x.lane v ≡ Some o)}
            (λ old. found_kept w new kept x.lane (versions_of x) (r.found x old))
            (λ y. subst (λ (z : Sent). (v : ℕ) → Mem v (versions_of z) → (o : Op) × (op_with new z.lane v ≡ Some o)) (sym y.2) (found_kept w new kept y.0.lane (versions_of y.0) (r.found y.0 y.1)))
            (Mem-update k (with_answer a) w.sent x m);
      }

  same_index : (m : ℕ) → SameIndex (u.lanes.lane m).outside (t.lanes.lane m).outside
  same_index m =
      let c = step g (Answers from.number a old) (t.lanes.lane s.lane) in
      ⊎_elim {C = SameIndex (u.lanes.lane m).outside (t.lanes.lane m).outside}
      (λ e.
      subst (λ n. SameIndex (u.lanes.lane n).outside (t.lanes.lane n).outside) (sym e)
      (subst (λ (x : Core). SameIndex x.outside (t.lanes.lane s.lane).outside) (sym (changed_same t.lanes.lane s.lane c)) (record { stored = refl; before = refl; applied = refl })))
      (λ ne. subst (λ (x : Core). SameIndex x.outside (t.lanes.lane m).outside) (sym (changed_other t.lanes.lane s.lane c m ne)) (record { stored = refl; before = refl; applied = refl }))
      (equal_or_not m s.lane)

  pub answer_tied : IsTied new u b
  answer_tied = record {
    few = i.few;
    came_about = act_together (opening_version w) g (lane_of w) (ended_of w) t (AnswersAt k a old from) i.came_about may (is_origin.of_now of_now).1;
    lanes = lanes_now;
    requests = requests_now;
    index = index_kept w (update s.lane answered w.desks) w.accepted sent_now t u i.index i.came_about same_index (takes_more w new t u b b i.lanes lanes_now more_none);
  }
