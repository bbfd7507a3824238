-- A take keeps a world tied.
use Rattle.std.proofs.Common.{◌≡◌, ◌≢◌, ℕ, List, [], ◌∷◌, ◌++◌, Some, refl, sym, ap, ◌∙◌, subst, ⊎_elim, append-nil}
use Rattle.std.specs.Prelude.{slice_get}
use Rattle.relay_action.specs.declared.operation.Op.{Op}
use Rattle.relay_action.specs.declared.mail.Mail.{Mail}
use Rattle.relay_action.specs.declared.mail.Body.{Body}
use Rattle.relay_action.specs.declared.mail.Body.TheVariants as body
use Rattle.relay_results.specs.Words.{update}
use Rattle.relay_results.proofs.Lists.{equal_or_not, at-update_same, at-update_other}
use Rattle.relay_delivery.specs.Machine.{Config, Core, Takes, step}
use Rattle.relay_delivery.specs.Lane as delivery
use Rattle.relay_delivery.specs.Lanes.{Lanes, Fetches, after_fetch}
use Rattle.relay_delivery.specs.Together.{Together, Plain}
use Rattle.relay_delivery.specs.Restarts.{CameAboutTogether}
use Rattle.relay_delivery.specs.Renumbering.{numbered_on}
use Rattle.relay_delivery.proofs.Numbered.{take_on}
use Rattle.relay_delivery.proofs.Accounts.{act_together}
use Rattle.relay_core.specs.State as lane
use Rattle.relay_core.specs.State.{config_of}
use Rattle.relay_core.specs.Ties.{ops_of}
use Rattle.relay_world.specs.State.{Desk, World, opening_version, ended_of, desk_at, lane_of, has_closed, is_closed, taken_of}
use Rattle.relay_world.specs.Changes.{front_taken, took_front, at_lane}
use Rattle.relay_world.specs.Ties.{puts_of, IsLaneOf, IsTied}
use Rattle.relay_world.proofs.Carried.{TakesMore, keeps}
use Rattle.relay_world.proofs.Indexed.{SameIndex, index_kept}
use Rattle.relay_world.proofs.Alike.{changed_same, changed_other, any_unmoved, IsDeskOf, desk_there, desks_after, lanes_from, takes_more, requests_kept}

pub closed_front : (p : ℕ) (ms : List Mail) (d : Desk) → has_closed p (front_taken ms d) ≡ has_closed p d
closed_front p [] d = refl
closed_front p (m ∷ ms) d = refl

module _ (w : World) (t : Together) (b : ℕ → ℕ) (i : IsTied w t b) (l : ℕ) (d : Desk) (there : desk_at w l ≡ Some d) (m : Mail) (ms : List Mail) (front : d.queue ≡ m ∷ ms) where
  abbrev desks_now : List Desk
  desks_now = update l took_front w.desks

  abbrev new : World
  new = at_lane l took_front w

  took : took_front d ≡ front_taken (m ∷ ms) d
  took = ap (λ q. front_taken q d) front

  more_taken : TakesMore w new
  more_taken n = ⊎_elim {C = (os : List Op) × (taken_of (desk_at new n) ≡ taken_of (desk_at w n) ++ os)}
      (λ e. (
        ops_of m.body,
        ap (λ k. taken_of (slice_get desks_now k)) e ∙ ap taken_of (at-update_same l took_front w.desks d there) ∙ ap (λ x. taken_of (Some x)) took
            ∙ sym (ap (λ k. taken_of (desk_at w k) ++ ops_of m.body) e ∙ ap (λ o. taken_of o ++ ops_of m.body) there),
      ))
      (λ ne. ([], ap taken_of (at-update_other l took_front w.desks n ne) ∙ sym (append-nil (taken_of (desk_at w n)))))
      (equal_or_not n l)

  closed_after : (p : ℕ) → t.lanes.closed p ≡ is_closed new p
  closed_after p = i.lanes.closed p ∙ sym (any_unmoved (has_closed p) took_front l w.desks (λ x. closed_front p x.queue x))

  -- the machines of the world afterwards, by those of its desk
  taken_tied : (u : Together) → CameAboutTogether (opening_version w) (config_of w.config) (lane_of w) (ended_of w) u → u.lanes.accepted ≡ t.lanes.accepted → u.lanes.closed ≡ t.lanes.closed
      → IsDeskOf w.config (b l) (Some (front_taken (m ∷ ms) d)) (u.lanes.queue l) (u.lanes.lane l)
      → ((n : ℕ) → n ≢ l → (u.lanes.queue n ≡ t.lanes.queue n) × (u.lanes.lane n ≡ t.lanes.lane n)) → ((n : ℕ) → SameIndex (u.lanes.lane n).outside (t.lanes.lane n).outside)
      → u.sent ≡ t.sent → u.origins ≡ t.origins → u.runs ≡ t.runs → IsTied new u b
  taken_tied u came accepted closed now others same sent origins runs =
      let lanes = lanes_from new u b i.lanes.producers (λ p. ap (λ f. f p) accepted ∙ i.lanes.accepted p) (λ p. ap (λ f. f p) closed ∙ closed_after p)
      (desks_after w t b i.lanes l d there took_front u.lanes.queue u.lanes.lane (subst (λ x. IsDeskOf w.config (b l) (Some x) (u.lanes.queue l) (u.lanes.lane l)) (sym took) now) others) in
      record {
        few = i.few;
        came_about = came;
        lanes = lanes;
        requests = requests_kept w desks_now w.accepted t u b i.requests (keeps w new refl refl more_taken) sent origins runs;
        index = index_kept w desks_now w.accepted w.sent t u i.index i.came_about same (takes_more w new t u b b i.lanes lanes more_taken);
      }

  -- ---- a message that is not a put

  -- what the lane becomes is of the same core
  pub quiet_tied : ops_of m.body ≡ [] → (new_lane : lane.State) → lane.after_take d.lane m.sender m.body ≡ new_lane → ((c : Core) → delivery.IsOf (numbered_on (b l) d.lane.core) c → delivery.IsOf (numbered_on (b l) new_lane.core) c)
      → (IsLaneOf w.config d → IsLaneOf w.config (record d { lane = new_lane })) → IsTied new t b
  quiet_tied none new_lane becomes is_of works =
      let now = desk_there w t b i.lanes l d there in
      let left : Desk = record { queue = ms; senders = d.senders; taken = d.taken; lane = new_lane } in
      let same : front_taken (m ∷ ms) d ≡ left = λ j. record { queue = ms; senders = d.senders; taken = (ap (λ os. d.taken ++ os) none ∙ append-nil d.taken) j; lane = becomes j } in
      let old = works (now.works d refl) in
      taken_tied t i.came_about refl refl
      (subst (λ x. IsDeskOf w.config (b l) (Some x) (t.lanes.queue l) (t.lanes.lane l)) (sym same) (record {
        queue_is = now.queue_is ∙ ap puts_of front ∙ ap (λ os. os ++ puts_of ms) none;
        taken = now.taken;
        lane = is_of (t.lanes.lane l) now.lane;
        works = λ x e. let one : left ≡ x = cc in subst (IsLaneOf w.config) one (record { config = old.config; senders = old.senders; next = old.next });
      }))
      (λ n ne. (refl, refl)) (λ n. record { stored = refl; before = refl; applied = refl }) refl refl refl

  -- ---- a put

  module _ (o : Op) (put : m.body ≡ body.Put o) where
    abbrev g : Config
    g = config_of w.config

    queue_is : t.lanes.queue l ≡ o ∷ puts_of ms
    queue_is = (desk_there w t b i.lanes l d there).queue_is ∙ ap puts_of front ∙ ap (λ b. ops_of b ++ puts_of ms) put

    abbrev with_lanes : Lanes → Together
    with_lanes ls = record { lanes = ls; sent = t.sent; origins = t.origins; runs = t.runs }

    abbrev fetched_now : Together
    fetched_now = with_lanes (after_fetch g l t.lanes (o ∷ puts_of ms))

    came : CameAboutTogether (opening_version w) g (lane_of w) (ended_of w) fetched_now
    came = subst (λ q. CameAboutTogether (opening_version w) g (lane_of w) (ended_of w) (with_lanes (after_fetch g l t.lanes q))) queue_is
        (act_together (opening_version w) g (lane_of w) (ended_of w) t (Plain (Fetches l)) i.came_about (tt, tt) tt)

    left : Desk
    left = record { queue = ms; senders = d.senders; taken = d.taken ++ o ∷ []; lane = lane.after_op d.lane o }

    left_is : front_taken (m ∷ ms) d ≡ left
    unfolding left
    left_is = λ j. record { queue = ms; senders = d.senders; taken = d.taken ++ ops_of (put j); lane = lane.after_take d.lane m.sender (put j) }

    desk_left : IsDeskOf w.config (b l) (Some left) (puts_of ms) (step g (Takes o) (t.lanes.lane l))
    unfolding left
    desk_left =
        let now = desk_there w t b i.lanes l d there in
        let old = now.works d refl in
        record {
          queue_is = refl;
          taken = ap (λ os. os ++ o ∷ []) now.taken;
          lane = subst (λ x. delivery.IsOf (numbered_on (b l) (lane.after_op d.lane o).core) (step x (Takes o) (t.lanes.lane l))) old.config (take_on (b l) d.lane.core (t.lanes.lane l) o (lane.bytes_of d.lane o) now.lane);
          works = λ x e. let one : record { queue = ms; senders = d.senders; taken = d.taken ++ o ∷ []; lane = lane.after_op d.lane o } ≡ x = cc in subst (IsLaneOf w.config) one (record { config = old.config; senders = old.senders; next = old.next });
        }

    same_outside : (n : ℕ) → (fetched_now.lanes.lane n).outside ≡ (t.lanes.lane n).outside
    same_outside n = ⊎_elim
        (λ e. ap (λ k. (fetched_now.lanes.lane k).outside) e ∙ ap (λ (c : Core). c.outside) (changed_same t.lanes.lane l (step g (Takes o) (t.lanes.lane l))) ∙ ap (λ k. (t.lanes.lane k).outside) (sym e))
        (λ ne. ap (λ (c : Core). c.outside) (changed_other t.lanes.lane l (step g (Takes o) (t.lanes.lane l)) n ne))
        (equal_or_not n l)

    pub put_taken_tied : IsTied new fetched_now b
    put_taken_tied =
        let c = step g (Takes o) (t.lanes.lane l) in
        taken_tied fetched_now came refl refl
        (subst (λ x. IsDeskOf w.config (b l) (Some x) (fetched_now.lanes.queue l) (fetched_now.lanes.lane l)) (sym left_is)
        (subst (λ q. IsDeskOf w.config (b l) (Some left) q (fetched_now.lanes.lane l)) (sym (changed_same t.lanes.queue l (puts_of ms)))
        (subst (λ x. IsDeskOf w.config (b l) (Some left) (puts_of ms) x) (sym (changed_same t.lanes.lane l c)) desk_left)))
        (λ n ne. (changed_other t.lanes.queue l (puts_of ms) n ne, changed_other t.lanes.lane l c n ne))
        (λ n. record { stored = ap (λ o. o.stored) (same_outside n); before = ap (λ o. o.before) (same_outside n); applied = ap (λ o. o.applied) (same_outside n) })
        refl refl refl

-- ---- any message

pub take_tied : (w : World) (t : Together) (n : ℕ → ℕ) → IsTied w t n → (l : ℕ) (d : Desk) → desk_at w l ≡ Some d → (m : Mail) (ms : List Mail) → d.queue ≡ m ∷ ms → (u : Together) × IsTied (at_lane l took_front w) u n
take_tied w t n i l d there m ms front = by m.body refl
  where
    by : (b : Body) → m.body ≡ b → (u : Together) × IsTied (at_lane l took_front w) u n
    by (body.Put o) e = (fetched_now w t n i l d there m ms front o e, put_taken_tied w t n i l d there m ms front o e)
    by body.Tick e = (
      t,
      quiet_tied w t n i l d there m ms front (ap ops_of e) (lane.after_tick d.lane) (ap (lane.after_take d.lane m.sender) e)
          (λ c x. record { taken = x.taken; held = x.held; reports = x.reports; applied = x.applied; already = x.already; requests = x.requests; flying = x.flying })
          (λ x. record { config = x.config; senders = x.senders; next = x.next }),
    )
    by body.Flush e = (
      t,
      quiet_tied w t n i l d there m ms front (ap ops_of e) (lane.after_flush d.lane) (ap (lane.after_take d.lane m.sender) e)
          (λ c x. x)
          (λ x. record { config = x.config; senders = x.senders; next = x.next }),
    )
    by body.Done e = (
      t,
      quiet_tied w t n i l d there m ms front (ap ops_of e) (lane.after_take d.lane m.sender body.Done) (ap (lane.after_take d.lane m.sender) e)
          (λ c x. x)
          (λ x. record { config = x.config; senders = x.senders; next = x.next }),
    )
