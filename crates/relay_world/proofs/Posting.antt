-- A put, a close, a tick and a flush keep a world tied.
use Rattle.std.proofs.Common.{◌≡◌, ◌≢◌, ℕ, ◌+◌, List, [], ◌∷◌, ◌++◌, length, Option, Some, Bool, true, false, refl, sym, ap, ◌∙◌, subst, ⊎_elim, append_assoc, append-nil}
use Rattle.std.specs.Prelude.{slice_get, option_map, unwrap_or, ◌||◌}
use Rattle.std.specs.List.{list_any}
use Rattle.std.proofs.Math.Bool.{or-false}
use Rattle.relay_action.specs.declared.operation.Op.{Op}
use Rattle.relay_action.specs.declared.mail.Mail.{Mail}
use Rattle.relay_action.specs.declared.mail.Body.{Body}
use Rattle.relay_action.specs.declared.mail.Body.TheVariants as body
use Rattle.relay_results.specs.Words.{update}
use Rattle.relay_results.specs.Documents.{document_of}
use Rattle.relay_results.proofs.Lists.{or_right, equal_or_not, at-update_same, at-update_other, length-update}
use Rattle.relay_delivery.specs.Lanes.{Puts, Closes}
use Rattle.relay_delivery.specs.Together.{Together, Plain, act}
use Rattle.relay_delivery.specs.Restarts.{CameAboutTogether}
use Rattle.relay_delivery.proofs.Accounts.{act_together}
use Rattle.relay_core.specs.State.{config_of}
use Rattle.relay_core.specs.Ties.{ops_of}
use Rattle.relay_world.specs.declared.sender.Sender.{Sender}
use Rattle.relay_world.specs.State.{Desk, World, opening_version, ended_of, desk_at, lane_of, accepted_from, has_closed, is_closed}
use Rattle.relay_world.specs.Changes.{is_done_mail, after_mail, mail_of, after_post, at_lane, after_put}
use Rattle.relay_world.specs.Ties.{puts_of, IsLaneOf, IsTied}
use Rattle.relay_world.proofs.Carried.{TakesMore, keeps}
use Rattle.relay_world.proofs.Indexed.{over_same, index_kept}
use Rattle.relay_world.proofs.Alike.{changed_same, changed_other, added_same, added_other, any_unmoved, any_now, seen_unmoved, IsDeskOf, desk_there, desks_after, lanes_from, takes_more, takes_none, requests_kept}

-- ---- a message at the back of a queue

puts-push : (ms : List Mail) (m : Mail) → puts_of (ms ++ m ∷ []) ≡ puts_of ms ++ ops_of m.body
puts-push [] m = append-nil (ops_of m.body)
puts-push (x ∷ ms) m = ap (λ os. ops_of x.body ++ os) (puts-push ms m) ∙ sym (append_assoc (ops_of x.body) (puts_of ms) (ops_of m.body))

abbrev pub closed_in : Option Sender → Bool
closed_in o = unwrap_or (option_map (λ (s : Sender). s.closed) o) false

-- only a Done closes
pub closed_posted : (p s : ℕ) (b : Body) (d : Desk) → is_done_mail b ≡ false → has_closed p (after_post s b d) ≡ has_closed p d
closed_posted p s b d stays = seen_unmoved closed_in (after_mail b) s d.senders p (λ x. ap (λ t. x.closed || t) stays ∙ or-false x.closed)

-- its sender, and no other
pub closed_done : (p s : ℕ) (d : Desk) → p ≢ s → has_closed p (after_post s body.Done d) ≡ has_closed p d
closed_done p s d ne = ap closed_in (at-update_other s (after_mail body.Done) d.senders p ne)

pub closed_now : (s : ℕ) (d : Desk) (x : Sender) → slice_get d.senders s ≡ Some x → has_closed s (after_post s body.Done d) ≡ true
closed_now s d x at = ap closed_in (at-update_same s (after_mail body.Done) d.senders x at) ∙ or_right x.closed true refl

-- ---- ties

module _ (w : World) (t : Together) (n : ℕ → ℕ) (i : IsTied w t n) (l s : ℕ) (b : Body) (d : Desk) (there : desk_at w l ≡ Some d) where
  desk_posted : IsDeskOf w.config (n l) (Some (after_post s b d)) (t.lanes.queue l ++ ops_of b) (t.lanes.lane l)
  desk_posted =
      let now = desk_there w t n i.lanes l d there in
      record {
        queue_is = ap (λ os. os ++ ops_of b) now.queue_is ∙ sym (puts-push d.queue (mail_of d s b));
        taken = now.taken;
        lane = now.lane;
        works = λ x e. let same : after_post s b d ≡ x = cc in let old = now.works d refl in subst (λ y. IsLaneOf w.config y) same (record { config = old.config; senders = length-update s (after_mail b) d.senders ∙ old.senders; next = old.next });
      }

  abbrev desks_now : List Desk
  desks_now = update l (after_post s b) w.desks

  more_posted : (accepted : List (List Op)) → TakesMore w (over_same w desks_now accepted w.sent)
  more_posted accepted = takes_none w l (after_post s b) accepted w.sent (λ x. refl)

  -- the machines of a world to which a message was posted, with the operation of a put at the back
  -- of its queue and a Done has closed its sender
  pub posted_tied : (accepted : List (List Op)) (u : Together) → length accepted ≡ w.config.producers → CameAboutTogether (opening_version w) (config_of w.config) (lane_of w) (ended_of w) u
      → ((p : ℕ) → u.lanes.accepted p ≡ accepted_from (over_same w desks_now accepted w.sent) p)
      → ((p : ℕ) → u.lanes.closed p ≡ is_closed (over_same w desks_now accepted w.sent) p)
      → u.lanes.queue l ≡ t.lanes.queue l ++ ops_of b → ((m : ℕ) → m ≢ l → u.lanes.queue m ≡ t.lanes.queue m) → u.lanes.lane ≡ t.lanes.lane
      → u.sent ≡ t.sent → u.origins ≡ t.origins → u.runs ≡ t.runs
      → IsTied (over_same w desks_now accepted w.sent) u n
  posted_tied accepted u producers came accepted_is closed_is here others cores sent origins runs =
      let new = over_same w desks_now accepted w.sent in
      let now = subst (λ q. IsDeskOf w.config (n l) (Some (after_post s b d)) q (u.lanes.lane l)) (sym here)
      (subst (λ f. IsDeskOf w.config (n l) (Some (after_post s b d)) (t.lanes.queue l ++ ops_of b) (f l)) (sym cores) desk_posted) in
      let lanes = lanes_from new u n producers accepted_is closed_is
      (desks_after w t n i.lanes l d there (after_post s b) u.lanes.queue u.lanes.lane now (λ m ne. (others m ne, ap (λ f. f m) cores))) in
      record {
        few = i.few;
        came_about = came;
        lanes = lanes;
        requests = requests_kept w desks_now accepted t u n i.requests (keeps w new refl refl (more_posted accepted)) sent origins runs;
        index = index_kept w desks_now accepted w.sent t u i.index i.came_about
            (λ m. let same = ap (λ f. (f m).outside) cores in record { stored = ap (λ o. o.stored) same; before = ap (λ o. o.before) same; applied = ap (λ o. o.applied) same })
            (takes_more w new t u n n i.lanes lanes (more_posted accepted));
      }

-- ---- a tick, a flush: nothing of it reaches the machines

pub control_tied : (w : World) (t : Together) (n : ℕ → ℕ) → IsTied w t n → (l s : ℕ) (b : Body) (d : Desk) → desk_at w l ≡ Some d → is_done_mail b ≡ false → ops_of b ≡ [] → IsTied (at_lane l (after_post s b) w) t n
control_tied w t n i l s b d there stays none =
    posted_tied w t n i l s b d there w.accepted t i.lanes.producers i.came_about i.lanes.accepted
    (λ p. i.lanes.closed p ∙ sym (any_unmoved (has_closed p) (after_post s b) l w.desks (λ x. closed_posted p s b x stays)))
    (sym (append-nil (t.lanes.queue l)) ∙ ap (λ os. t.lanes.queue l ++ os) (sym none))
    (λ m ne. refl) refl refl refl refl

-- ---- a close

module _ (w : World) (t : Together) (n : ℕ → ℕ) (i : IsTied w t n) (l s : ℕ) (d : Desk) (there : desk_at w l ≡ Some d) (x : Sender) (known : slice_get d.senders s ≡ Some x) where
  abbrev after_close : Together
  after_close = act (config_of w.config) (lane_of w) (Plain (Closes s)) t

  closed_after : (p : ℕ) → after_close.lanes.closed p ≡ list_any (has_closed p) (update l (after_post s body.Done) w.desks)
  closed_after p = ⊎_elim
      (λ e.
      ap after_close.lanes.closed e ∙ changed_same t.lanes.closed s true
      ∙ sym (any_now (has_closed s) (after_post s body.Done) l w.desks d there (closed_now s d x known))
      ∙ ap (λ q. list_any (has_closed q) (update l (after_post s body.Done) w.desks)) (sym e))
      (λ ne.
      changed_other t.lanes.closed s true p ne ∙ i.lanes.closed p
      ∙ sym (any_unmoved (has_closed p) (after_post s body.Done) l w.desks (λ y. closed_done p s y ne)))
      (equal_or_not p s)

  pub close_tied : IsTied (at_lane l (after_post s body.Done) w) after_close n
  close_tied =
      posted_tied w t n i l s body.Done d there w.accepted after_close i.lanes.producers
      (act_together (opening_version w) (config_of w.config) (lane_of w) (ended_of w) t (Plain (Closes s)) i.came_about (tt, tt) tt)
      i.lanes.accepted closed_after (sym (append-nil (t.lanes.queue l))) (λ m ne. refl) refl refl refl refl

-- ---- a put

module _ (w : World) (t : Together) (n : ℕ → ℕ) (i : IsTied w t n) (o : Op) (d : Desk) (there : desk_at w (lane_of w (document_of o.key)) ≡ Some d)
    (os : List Op) (known : slice_get w.accepted o.producer ≡ Some os) (open_yet : is_closed w o.producer ≡ false) (epoch : o.epoch ≡ w.config.epoch) (number : o.number ≡ length os + 1) where
  abbrev l : ℕ
  l = lane_of w (document_of o.key)

  abbrev after : Together
  after = act (config_of w.config) (lane_of w) (Plain (Puts o)) t

  accepted_before : accepted_from w o.producer ≡ os
  accepted_before = ap (λ x. unwrap_or x []) known

  accepted_after : (p : ℕ) → after.lanes.accepted p ≡ unwrap_or (slice_get (update o.producer (λ xs. xs ++ o ∷ []) w.accepted) p) []
  accepted_after p = ⊎_elim
      (λ e.
      ap after.lanes.accepted e ∙ added_same t.lanes.accepted o.producer o
      ∙ ap (λ xs. xs ++ o ∷ []) (i.lanes.accepted o.producer ∙ accepted_before)
      ∙ sym (ap (λ x. unwrap_or x []) (at-update_same o.producer (λ xs. xs ++ o ∷ []) w.accepted os known))
      ∙ ap (λ q. unwrap_or (slice_get (update o.producer (λ xs. xs ++ o ∷ []) w.accepted) q) []) (sym e))
      (λ ne.
      added_other t.lanes.accepted o.producer o p ne ∙ i.lanes.accepted p
      ∙ sym (ap (λ x. unwrap_or x []) (at-update_other o.producer (λ xs. xs ++ o ∷ []) w.accepted p ne)))
      (equal_or_not p o.producer)

  pub put_tied : IsTied (after_put w o) after n
  put_tied =
      posted_tied w t n i l o.producer (body.Put o) d there (update o.producer (λ xs. xs ++ o ∷ []) w.accepted) after
      (length-update o.producer (λ xs. xs ++ o ∷ []) w.accepted ∙ i.lanes.producers)
      (act_together (opening_version w) (config_of w.config) (lane_of w) (ended_of w) t (Plain (Puts o)) i.came_about
      (tt, record { epoch = epoch; open_yet = i.lanes.closed o.producer ∙ open_yet; number = number ∙ ap (λ xs. length xs + 1) (sym (i.lanes.accepted o.producer ∙ accepted_before)) }) tt)
      accepted_after
      (λ p. i.lanes.closed p ∙ sym (any_unmoved (has_closed p) (after_post o.producer (body.Put o)) l w.desks (λ x. closed_posted p o.producer (body.Put o) x refl)))
      (added_same t.lanes.queue l o) (λ m ne. added_other t.lanes.queue l o m ne) refl refl refl refl
