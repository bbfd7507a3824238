-- A send keeps a world tied.
use Rattle.std.proofs.Common.{◌≡◌, ℕ, zero, suc, ◌+◌, List, [], ◌∷◌, ◌++◌, length, Option, Some, refl, sym, ap, ◌∙◌, subst, ⊎_elim, inl, inr, arith, ◌≤◌, length-append}
use Rattle.std.specs.Prelude.{slice_get, map, option_and_then, option_map, option_to_list}
use Rattle.std.proofs.lemmas.List.{map-append, length-map}
use Rattle.relay_action.specs.declared.operation.Op.{Op}
use Rattle.relay_action.specs.declared.write.Write.{Write}
use Rattle.relay_batch.specs.declared.item.BatchItem.{BatchItem}
use Rattle.relay_results.specs.Words.{Mem, update}
use Rattle.relay_results.specs.Documents.{write_for}
use Rattle.relay_results.specs.Outside.{Unanswered}
use Rattle.relay_results.specs.Numbers.{from_zero}
use Rattle.relay_results.proofs.Lists.{equal_or_not, Mem-cases, Mem-one, Mem-map, Mem-last, at-left, at-last, at-cases}
use Rattle.relay_delivery.specs.Machine.{Config, Core, Held, Sends, MaySend, write_of, step}
use Rattle.relay_delivery.specs.Lane as delivery
use Rattle.relay_delivery.specs.Lane.{Entry, held_of, candidates}
use Rattle.relay_delivery.specs.Together.{Together, SendsFrom, act}
use Rattle.relay_delivery.proofs.Facts.{Past, CoreFacts}
use Rattle.relay_delivery.proofs.Numbered.{chosen_on, may_send_on, send_on, sent_on}
use Rattle.relay_delivery.proofs.Lives.{IsOfThese, past_of, facts_together, facts_of_life}
use Rattle.relay_delivery.proofs.Parts.{op_of_write}
use Rattle.relay_delivery.proofs.Accounts.{next, all_above, act_together}
use Rattle.relay_delivery.specs.Renumbering.{numbered_on, held_on}
use Rattle.relay_delivery.specs.Restarts.{Incarnation, incarnation_of, with_running}
use Rattle.relay_delivery.specs.Incarnations.{op_dealt}
use Rattle.relay_world.proofs.Past.{running_seen}
use Rattle.relay_core.specs.State as lane
use Rattle.relay_core.specs.State.{config_of, next_entries, next_batch, gathering}
use Rattle.relay_core.specs.Rule as rule
use Rattle.relay_core.proofs.Tying.{chosen_sub}
use Rattle.relay_core.proofs.Forming.{items_of_operations}
use Rattle.relay_core.proofs.Batched.{next_keeps}
use Rattle.relay_world.specs.State.{Desk, Item, Sent, World, opening_version, ended_of, incarnations, desk_at, lane_of, op_with, has_closed}
use Rattle.relay_world.specs.Headline as headline
use Rattle.relay_world.specs.Headline.{runs_of}
use Rattle.relay_world.specs.Changes.{item_of, items_of, sent_request, request_of, sent_by, after_send}
use Rattle.relay_world.specs.Ties.{versions_of, IsOriginOf, IsLaneOf, AreLanes, AreRequests, IsTied}
use Rattle.relay_world.proofs.Carried.{writes_by, writes_are, dealt_among, one_listed, Keeps, TakesMore, keeps, found_kept, request_kept, map-kept}
use Rattle.relay_world.proofs.Logged.{pushed_at}
use Rattle.relay_world.proofs.Indexed.{over_same, SameIndex, index_kept}
use Rattle.relay_world.proofs.Alike.{changed_same, changed_other, any_unmoved, IsDeskOf, desk_there, desks_after, lanes_from, takes_more, takes_none}

versions_in : (es : List Entry) → map (λ (i : Item). i.version) (map item_of (map rule.item_of es)) ≡ map (λ (h : Held). h.version) (held_of es)
versions_in [] = refl
versions_in (e ∷ es) = ap (λ vs. e.held.version ∷ vs) (versions_in es)

-- the writes of operations that were taken with these versions
writes_in : (f : ℕ → Option Op) (hs : List Held) → ((h : Held) → Mem h hs → f h.version ≡ Some h.op) → writes_by f (map (λ (h : Held). h.version) hs) ≡ map write_of hs
writes_in f [] all = refl
writes_in f (h ∷ hs) all =
    let rest = writes_in f hs (λ x m. all x (inr m)) in
    λ i. option_to_list (option_map (λ o. write_for o h.version) (all h (inl refl) i)) ++ rest i

-- what is chosen is among it, with numbers counted on
own_chosen : (n : ℕ) (es : List Entry) (h : Held) → Mem h (held_of es) → Mem (held_on n h) (chosen_on n es)
own_chosen n [] h m = elim m [ ]
own_chosen n (e ∷ es) h (inl same) = inl (ap (held_on n) same)
own_chosen n (e ∷ es) h (inr m) = inr (own_chosen n es h m)

pub none_run : (is : List BatchItem) (place : ℕ) → runs_of (slice_get (map item_of is) place) ≡ []
none_run [] place = refl
none_run (x ∷ is) zero = refl
none_run (x ∷ is) (suc place) = none_run is place

module _ (w : World) (t : Together) (b : ℕ → ℕ) (i : IsTied w t b) (l : ℕ) (d : Desk) (there : desk_at w l ≡ Some d) (items : List BatchItem) (formed : next_batch d.lane ≡ Some items) where
  abbrev g : Config
  g = config_of w.config

  abbrev entries : List Entry
  entries = next_entries d.lane

  -- what is sent, and what it is beside the requests before the restart
  abbrev own : List Held
  own = held_of (next_entries d.lane)

  abbrev chosen : List Held
  chosen = chosen_on (b l) (next_entries d.lane)

  abbrev u : Together
  u = act g (lane_of w) (SendsFrom l chosen) t

  abbrev desks_now : List Desk
  desks_now = update l sent_request w.desks

  abbrev new_sent : Sent
  new_sent = request_of w.config.epoch l d

  -- the world afterwards
  abbrev new : World
  new = over_same w desks_now w.accepted (w.sent ++ new_sent ∷ [])

  is_new : after_send w l ≡ new
  is_new = ap (λ o. over_same w desks_now w.accepted (w.sent ++ sent_by w.config.epoch l o)) there

  abbrev past : ℕ → Past
  past = past_of (opening_version w) (ended_of w)

  facts : CoreFacts g (past l) (t.lanes.lane l)
  facts = (facts_together (opening_version w) g (lane_of w) (ended_of w) t i.came_about).lanes.lane l

  desk_is : IsDeskOf w.config (b l) (Some d) (t.lanes.queue l) (t.lanes.lane l)
  desk_is = desk_there w t b i.lanes l d there

  works : IsLaneOf w.config d
  works = desk_is.works d refl

  may : MaySend (t.lanes.lane l) chosen
  may = may_send_on (past l) (b l) d.lane.core (t.lanes.lane l) (next_entries d.lane) (chosen_sub (candidates d.lane.core) (gathering d.lane)) (next_keeps d.lane items formed) desk_is.lane
      (subst (λ x. CoreFacts x (past l) (t.lanes.lane l)) (sym works.config) facts)

  -- ---- the desk

  left : Desk
  left = record { queue = d.queue; senders = d.senders; taken = d.taken; lane = lane.after_request d.lane (Some items) }

  left_is : sent_request d ≡ left
  unfolding left
  left_is = ap (λ b. record { queue = d.queue; senders = d.senders; taken = d.taken; lane = lane.after_request d.lane b }) formed

  desk_left : IsDeskOf w.config (b l) (Some left) (t.lanes.queue l) (step g (Sends chosen) (t.lanes.lane l))
  unfolding left
  desk_left = record {
    queue_is = desk_is.queue_is;
    taken = desk_is.taken;
    lane = subst (λ x. delivery.IsOf (numbered_on (b l) (delivery.after_request_of d.lane.core entries)) (step x (Sends chosen) (t.lanes.lane l))) works.config (send_on (b l) d.lane.core (t.lanes.lane l) entries desk_is.lane);
    works = λ x e.
        let one : record { queue = d.queue; senders = d.senders; taken = d.taken; lane = lane.after_request d.lane (Some items) } ≡ x = cc in
        subst (IsLaneOf w.config) one (record { config = works.config; senders = works.senders; next = ap (λ n. n + 1) works.next });
  }

  more_none : TakesMore w new
  more_none = takes_none w l sent_request w.accepted (w.sent ++ new_sent ∷ []) (λ x. refl)

  lanes_now : AreLanes new u b
  lanes_now =
      let c = step g (Sends chosen) (t.lanes.lane l) in
      lanes_from new u b i.lanes.producers i.lanes.accepted
      (λ p. i.lanes.closed p ∙ sym (any_unmoved (has_closed p) sent_request l w.desks (λ x. refl)))
      (desks_after w t b i.lanes l d there sent_request u.lanes.queue u.lanes.lane
      (subst (λ x. IsDeskOf w.config (b l) (Some x) (t.lanes.queue l) (u.lanes.lane l)) (sym left_is)
      (subst (λ x. IsDeskOf w.config (b l) (Some left) (t.lanes.queue l) x) (sym (changed_same t.lanes.lane l c)) desk_left))
      (λ m ne. (refl, changed_other t.lanes.lane l c m ne)))

  -- ---- the request

  versions_are : versions_of new_sent ≡ map (λ (h : Held). h.version) own
  versions_are =
      ap (λ b. map (λ (x : Item). x.version) (items_of b)) formed
      ∙ ap (λ xs. map (λ (x : Item). x.version) (map item_of xs)) (items_of_operations d.lane items formed)
      ∙ versions_in entries

  abbrev is_running : Incarnation
  is_running = incarnation_of g t

  of_these : (h : Held) → Mem h chosen → IsOfThese (with_running (ended_of w) g t) l (write_of h)
  of_these h m = record {
    which = is_running;
    among = Mem-last (ended_of w) is_running;
    of_one = record { op = h.op; write = refl; dealt = (facts.held h (may.eligible h m).is_held).dealt };
  }

  numbered_found : (h : Held) → Mem h chosen → op_with w l h.version ≡ Some h.op
  unfolding of_these
  numbered_found h m =
      let life = facts_of_life (opening_version w) g (lane_of w) (ended_of w) t i.came_about in
      let dealt = op_of_write (with_running (ended_of w) g t) (next g) (all_above (opening_version w) g (lane_of w) (ended_of w) t life) l (write_of h) (of_these h m) in
      one_listed (op_with w l h.version) h.op
      (sym (dealt_among w.config (incarnations w) l h.version) ∙ ap (λ ps. op_dealt ps l h.version) (sym (running_seen w t b i)) ∙ dealt)

  chosen_found : (h : Held) → Mem h own → op_with w l h.version ≡ Some h.op
  chosen_found h m = numbered_found (held_on (b l) h) (own_chosen (b l) entries h m)

  found_new : (v : ℕ) → Mem v (versions_of new_sent) → (o : Op) × (op_with w l v ≡ Some o)
  found_new v m =
      let h = Mem-map (λ (x : Held). x.version) v own (subst (λ vs. Mem v vs) versions_are m) in
      (h.0.op, ap (op_with w l) h.2 ∙ chosen_found h.0 h.1)

  kept : Keeps w new
  kept = keeps w new refl refl more_none

  request_is : headline.request_of new new_sent ≡ record { writes = map write_of chosen; answer = Unanswered }
  request_is =
      request_kept w new new_sent new_sent Unanswered kept found_new refl refl refl
      ∙ ap (λ ws. record { writes = ws; answer = Unanswered }) (writes_are w new_sent ∙ ap (writes_by (op_with w l)) versions_are ∙ writes_in (op_with w l) own chosen_found ∙ sym (sent_on (b l) entries))

  as_long : length t.origins ≡ length w.sent
  as_long = (facts_together (opening_version w) g (lane_of w) (ended_of w) t i.came_about).as_long ∙ ap length i.requests.sent ∙ length-map w.sent (headline.request_of w)

  requests_now : AreRequests new u b
  requests_now =
      let r = i.requests in
      let old = map-kept (headline.request_of new) (headline.request_of w) w.sent (λ s m. request_kept w new s s s.answer kept (r.found s m) refl refl refl) in
      let number : length (t.lanes.lane l).outside.requests ≡ from_zero (b l + d.lane.flights.next) = let n = works.next in let q = desk_is.lane.requests in omega (arith, n, q) in
      record {
        sent = (let back = sym request_is in λ j. r.sent j ++ back j ∷ []) ∙ ap (λ qs. qs ++ headline.request_of new new_sent ∷ []) (sym old) ∙ sym (map-append (headline.request_of new) w.sent (new_sent ∷ []));
        origins = λ k s at. ⊎_elim {C = IsOriginOf new u b k s}
            (λ old. let o = r.origins k s old in record { number = o.number; origin = at-left t.origins (record { lane = l; number = length (t.lanes.lane l).outside.requests } ∷ []) k (record { lane = s.lane; number = o.number }) o.origin; not_later = o.not_later; of_now = o.of_now })
            (λ last.
            let same : slice_get u.origins k ≡ Some (record { lane = l; number = length (t.lanes.lane l).outside.requests }) = ap (slice_get u.origins) (last.0 ∙ sym as_long) ∙ at-last t.origins (record { lane = l; number = length (t.lanes.lane l).outside.requests }) in
            let here : IsOriginOf new u b k new_sent = record { number = length (t.lanes.lane l).outside.requests; origin = same; not_later = (let z : w.config.epoch ≤ w.config.epoch = omega arith in z); of_now = λ e. (number, λ p m. (let le = r.grown p m in let n = last.0 in omega (arith, le, n))) } in
            subst (λ (x : Sent). IsOriginOf new u b k x) (sym last.1) here)
            (at-cases w.sent new_sent k s at);
        grown = λ p m. (let le = r.grown p m in let n = length-append w.sent (new_sent ∷ []) in omega (arith, le, n));
        runs = λ request place. r.runs request place
            ∙ sym (pushed_at (λ o. runs_of (option_and_then (λ (s : Sent). slice_get s.items place) o)) w.sent new_sent request refl
            (ap (λ b. runs_of (slice_get (items_of b) place)) formed ∙ none_run items place));
        found = λ s m v n. ⊎_elim
            (λ a. found_kept w new kept s.lane (versions_of s) (r.found s a) v n)
            (λ b.
            let e = Mem-one s new_sent b in
            let p = found_kept w new kept l (versions_of new_sent) found_new v (subst (λ (x : Sent). Mem v (versions_of x)) e n) in
            (p.0, ap (λ (x : Sent). op_with new x.lane v) e ∙ p.1))
            (Mem-cases s w.sent (new_sent ∷ []) m);
      }

  same_index : (m : ℕ) → SameIndex (u.lanes.lane m).outside (t.lanes.lane m).outside
  same_index m =
      let c = step g (Sends chosen) (t.lanes.lane l) in
      ⊎_elim {C = SameIndex (u.lanes.lane m).outside (t.lanes.lane m).outside}
      (λ e.
      subst (λ n. SameIndex (u.lanes.lane n).outside (t.lanes.lane n).outside) (sym e)
      (subst (λ (x : Core). SameIndex x.outside (t.lanes.lane l).outside) (sym (changed_same t.lanes.lane l c)) (record { stored = refl; before = refl; applied = refl })))
      (λ ne. subst (λ (x : Core). SameIndex x.outside (t.lanes.lane m).outside) (sym (changed_other t.lanes.lane l c m ne)) (record { stored = refl; before = refl; applied = refl }))
      (equal_or_not m l)

  pub send_tied : IsTied (after_send w l) u b
  send_tied = subst (λ x. IsTied x u b) (sym is_new) (record {
    few = i.few;
    came_about = act_together (opening_version w) g (lane_of w) (ended_of w) t (SendsFrom l chosen) i.came_about may tt;
    lanes = lanes_now;
    requests = requests_now;
    index = index_kept w desks_now w.accepted (w.sent ++ new_sent ∷ []) t u i.index i.came_about same_index (takes_more w new t u b b i.lanes lanes_now more_none);
  })
