-- An answer is passed along the writes of its request, one after another: what each makes of the held list.
use Rattle.std.proofs.Common.{◌≡◌, ℕ, ◌+◌, ◌≤◌, List, [], ◌∷◌, ◌++◌, length, Option, Some, None, Bool, true, false, refl, sym, ap, ◌∙◌, subst, ⊎_elim, inl, inr, arith, drop}
use Rattle.std.specs.Prelude.{if◌then◌else◌, filter, slice_get}
use Rattle.relay_action.specs.declared.key.DocKey.{DocKey}
use Rattle.relay_action.specs.declared.write.Write.{Write}
use Rattle.relay_results.specs.declared.outcome.Outcome.{Outcome}
use Rattle.relay_results.specs.Words.{Mem}
use Rattle.relay_results.specs.Fates.{Fate, Flies, Applied, Already, Retried, Halved, Reported}
use Rattle.relay_delivery.specs.Machine as machine
use Rattle.relay_results.proofs.Lists.{apart_tests, true_or_false, some_same, none_some, filter-Mem}
use Rattle.relay_held.specs.declared.kept.Kept.{Kept}
use Rattle.relay_held.specs.declared.kept.Spot.{Spot}
use Rattle.relay_held.specs.Queues.{same_key, is_of, first_of, with_first, without_first, AllWait, OnlyFirstsFly}
use Rattle.relay_held.proofs.Merging.{same_self}
use Rattle.relay_held.proofs.Changing.{first_is}
use Rattle.relay_core.specs.declared.fates.Way.{Way}
use Rattle.relay_core.specs.Walk.{flies_here, fate_met, fate_one, after_one, back, halved_at, met_maybe, reports_maybe, reports_one, tally_maybe, tally, kept_walk, reports_walk, tally_walk, status_in, success_one, success_maybe, successes_walk}
use Rattle.relay_core.specs.Memory.{Given, further, rest_if, IsMet, Carries}
use Rattle.relay_core.proofs.Settling.{settles, met_ends, rest_drop}

-- ---- who it is

first_write : (w v : Write) (ws vs : List Write) → w ∷ ws ≡ v ∷ vs → w ≡ v
first_write w v ws vs e = some_same w v (ap (λ xs. slice_get xs 0) e)

module _ (n : ℕ) where
  pub met_here : (h : Kept) (hs : List Kept) (p : ℕ) (ws : List Write) → flies_here n h.flies ≡ true → Carries n p (h ∷ hs) ws → IsMet n p h ws
  met_here h hs p ws t c = subst (λ b. Given b (IsMet n p h ws)) t c.0

  pub met_rest : (h : Kept) (hs : List Kept) (p : ℕ) (ws : List Write) → flies_here n h.flies ≡ true → Carries n p (h ∷ hs) ws → Carries n (p + 1) hs (drop 1 ws)
  met_rest h hs p ws t c = subst (λ vs. Carries n (p + 1) hs vs) (rest_drop ws) (subst (λ b. Carries n (further b p) hs (rest_if b ws)) t c.1)

  pub past_rest : (h : Kept) (hs : List Kept) (p : ℕ) (ws : List Write) → flies_here n h.flies ≡ false → Carries n p (h ∷ hs) ws → Carries n p hs ws
  past_rest h hs p ws t c = subst (λ b. Carries n (further b p) hs (rest_if b ws)) t c.1

  is_its_document : (h : Kept) (p : ℕ) (w : Write) (ws : List Write) → IsMet n p h (w ∷ ws) → is_of w.key h ≡ true
  is_its_document h p w ws m =
      let e = first_write w m.write ws (rest_if true (w ∷ ws)) m.found in
      ap (λ k. same_key k h.key) (ap (λ (x : Write). x.key) e ∙ m.matches.key) ∙ same_self h.key

  pub record Flying (w : Write) (hs : List Kept) : Type 0 where
    pub one : Kept
    pub held : Mem one hs
    pub of : is_of w.key one ≡ true
    pub flies : flies_here n one.flies ≡ true

  pub find_flying : (hs : List Kept) (p : ℕ) (w : Write) (ws : List Write) → Carries n p hs (w ∷ ws) → Flying w hs
  find_flying [] p w ws c = absurd (cc)
  find_flying (h ∷ hs) p w ws c = ⊎_elim {C = Flying w (h ∷ hs)}
      (λ t. record { one = h; held = inl refl; of = is_its_document h p w ws (met_here h hs p (w ∷ ws) t c); flies = t })
      (λ f. let r = find_flying hs p w ws (past_rest h hs p (w ∷ ws) f c) in record { one = r.one; held = inr r.held; of = r.of; flies = r.flies })
      (true_or_false (flies_here n h.flies))

  waits_not : (s : Option Spot) → s ≡ None → flies_here n s ≡ true → ⊥
  waits_not None e t = apart_tests t
  waits_not (Some s) e t = cc

  wait_none : (q : List Kept) (x : Kept) → AllWait q → Mem x q → flies_here n x.flies ≡ true → ⊥
  wait_none [] x a m t = elim m [ ]
  wait_none (y ∷ q) x a m t = ⊎_elim (λ e. waits_not x.flies (ap (λ (z : Kept). z.flies) e ∙ a.0) t) (λ r. wait_none q x a.1 r t) m

  head_of : (q : List Kept) (x : Kept) → AllWait (drop 1 q) → Mem x q → flies_here n x.flies ≡ true → slice_get q 0 ≡ Some x
  head_of [] x a m t = elim m [ ]
  head_of (y ∷ q) x a m t = ⊎_elim {C = Some y ≡ Some x} (λ e. ap Some (sym e)) (λ r. absurd (wait_none q x a r t)) m

  -- the one that flies is the first of its document
  pub flying_first : (hs : List Kept) (w : Write) → OnlyFirstsFly hs → (f : Flying w hs) → first_of w.key hs ≡ Some f.one
  flying_first hs w o f = first_is w.key hs ∙ head_of (filter (is_of w.key) hs) f.one (o w.key) (filter-Mem (is_of w.key) f.one hs f.held f.of) f.flies

  -- one before it that does not fly in the request is of another document
  other_document : (w : Write) (x : Kept) (hs : List Kept) (h : Kept) → first_of w.key (x ∷ hs) ≡ Some h → flies_here n h.flies ≡ true → flies_here n x.flies ≡ false → is_of w.key x ≡ false
  other_document w x hs h e t f = ⊎_elim {C = is_of w.key x ≡ false}
      (λ y. let is : x ≡ h = some_same x h (sym (ap (λ b. if b then Some x else first_of w.key hs) y) ∙ e) in absurd (apart_tests (sym f ∙ ap (λ (z : Kept). flies_here n z.flies) is ∙ t)))
      (λ g. g)
      (true_or_false (is_of w.key x))

  later_first : (w : Write) (x : Kept) (hs : List Kept) (h : Kept) → is_of w.key x ≡ false → first_of w.key (x ∷ hs) ≡ Some h → first_of w.key hs ≡ Some h
  later_first w x hs h f e = sym (ap (λ b. if b then Some x else first_of w.key hs) f) ∙ e

  here_first : (w : Write) (x : Kept) (hs : List Kept) (h : Kept) → is_of w.key x ≡ true → first_of w.key (x ∷ hs) ≡ Some h → x ≡ h
  here_first w x hs h t e = some_same x h (sym (ap (λ b. if b then Some x else first_of w.key hs) t) ∙ e)

  after_here : (clock : ℕ) (w : Write) (x : Kept) (hs : List Kept) (y : Fate) → is_of w.key x ≡ true → settles y ≡ true → after_one clock w (x ∷ hs) y ≡ met_maybe clock y (Some w) (x ∷ []) ++ hs
  after_here clock w x hs Flies t s = absurd (apart_tests s)
  after_here clock w x hs Applied t s = ap (λ b. if b then hs else x ∷ without_first w.key hs) t
  after_here clock w x hs Already t s = ap (λ b. if b then hs else x ∷ without_first w.key hs) t
  after_here clock w x hs Retried t s = ap (λ b. if b then back clock w x ∷ hs else x ∷ with_first w.key (back clock w) hs) t
  after_here clock w x hs (Halved k) t s = ap (λ b. if b then halved_at clock k w x ∷ hs else x ∷ with_first w.key (halved_at clock k w) hs) t
  after_here clock w x hs (Reported c) t s = ap (λ b. if b then hs else x ∷ without_first w.key hs) t

  after_past : (clock : ℕ) (w : Write) (x : Kept) (hs : List Kept) (y : Fate) → is_of w.key x ≡ false → after_one clock w (x ∷ hs) y ≡ x ∷ after_one clock w hs y
  after_past clock w x hs Flies f = refl
  after_past clock w x hs Applied f = ap (λ b. if b then hs else x ∷ without_first w.key hs) f
  after_past clock w x hs Already f = ap (λ b. if b then hs else x ∷ without_first w.key hs) f
  after_past clock w x hs Retried f = ap (λ b. if b then back clock w x ∷ hs else x ∷ with_first w.key (back clock w) hs) f
  after_past clock w x hs (Halved k) f = ap (λ b. if b then halved_at clock k w x ∷ hs else x ∷ with_first w.key (halved_at clock k w) hs) f
  after_past clock w x hs (Reported c) f = ap (λ b. if b then hs else x ∷ without_first w.key hs) f

  module _ (allowed : Kept → ℕ) (clock : ℕ) (whole : Way) where
    abbrev walk : List Kept → List Write → List Outcome → List Kept
    walk hs ws os = kept_walk hs allowed clock n whole ws os

    -- what one left of itself is passed over
    met_over : (w : Write) (h : Kept) (hs : List Kept) (y : Fate) (ws : List Write) (os : List Outcome) → settles y ≡ true
        → kept_walk (met_maybe clock y (Some w) (h ∷ []) ++ hs) allowed clock n whole ws os ≡ met_maybe clock y (Some w) (h ∷ []) ++ kept_walk hs allowed clock n whole ws os
    met_over w h hs Flies ws os s = absurd (apart_tests s)
    met_over w h hs Applied ws os s = refl
    met_over w h hs Already ws os s = refl
    met_over w h hs Retried ws os s = refl
    met_over w h hs (Halved k) ws os s = refl
    met_over w h hs (Reported c) ws os s = refl

    over_here : (h : Kept) (hs : List Kept) (w : Write) (ws : List Write) (os : List Outcome) → flies_here n h.flies ≡ true
        → kept_walk (h ∷ hs) allowed clock n whole (w ∷ ws) os ≡ met_maybe clock (fate_met allowed whole h os) (Some w) (h ∷ []) ++ kept_walk hs allowed clock n whole ws (drop 1 os)
    over_here h hs w ws os t = ap (λ b. if b then met_maybe clock (fate_met allowed whole h os) (Some w) (h ∷ []) ++ kept_walk hs allowed clock n whole ws (drop 1 os) else h ∷ kept_walk hs allowed clock n whole (w ∷ ws) os) t

    over_past : (h : Kept) (hs : List Kept) (ws : List Write) (os : List Outcome) → flies_here n h.flies ≡ false → kept_walk (h ∷ hs) allowed clock n whole ws os ≡ h ∷ kept_walk hs allowed clock n whole ws os
    over_past h hs ws os f = ap (λ b. if b then met_maybe clock (fate_met allowed whole h os) (slice_get ws 0) (h ∷ []) ++ kept_walk hs allowed clock n whole (drop 1 ws) (drop 1 os) else h ∷ kept_walk hs allowed clock n whole ws os) f

    pub kept_step : (hs : List Kept) (p : ℕ) (w : Write) (ws : List Write) (os : List Outcome) (h : Kept) → Carries n p hs (w ∷ ws) → first_of w.key hs ≡ Some h → flies_here n h.flies ≡ true
        → kept_walk hs allowed clock n whole (w ∷ ws) os ≡ kept_walk (after_one clock w hs (fate_one allowed whole h (slice_get os 0))) allowed clock n whole ws (drop 1 os)
    kept_step [] p w ws os h c e t = absurd (cc)
    kept_step (x ∷ hs) p w ws os h c e t = ⊎_elim {C = kept_walk (x ∷ hs) allowed clock n whole (w ∷ ws) os ≡ kept_walk (after_one clock w (x ∷ hs) (fate_one allowed whole h (slice_get os 0))) allowed clock n whole ws (drop 1 os)}
        (λ y. let of = is_its_document x p w ws (met_here x hs p (w ∷ ws) y c) in
        let is = here_first w x hs h of e in
        over_here x hs w ws os y
        ∙ sym (met_over w x hs (fate_met allowed whole x os) ws (drop 1 os) (met_ends allowed whole x os))
        ∙ ap (λ zs. kept_walk zs allowed clock n whole ws (drop 1 os)) (sym (after_here clock w x hs (fate_met allowed whole x os) of (met_ends allowed whole x os)))
        ∙ ap (λ (z : Kept). kept_walk (after_one clock w (x ∷ hs) (fate_one allowed whole z (slice_get os 0))) allowed clock n whole ws (drop 1 os)) is)
        (λ g. let of = other_document w x hs h e t g in
        over_past x hs (w ∷ ws) os g
        ∙ ap (λ zs. x ∷ zs) (kept_step hs p w ws os h (past_rest x hs p (w ∷ ws) g c) (later_first w x hs h of e) t)
        ∙ sym (over_past x (after_one clock w hs (fate_one allowed whole h (slice_get os 0))) ws (drop 1 os) g)
        ∙ ap (λ zs. kept_walk zs allowed clock n whole ws (drop 1 os)) (sym (after_past clock w x hs (fate_one allowed whole h (slice_get os 0)) of)))
        (true_or_false (flies_here n x.flies))

    -- the same of the reports, and of a count
    reports_over : (w : Write) (h : Kept) (hs : List Kept) (y : Fate) (ws : List Write) (os : List Outcome) → settles y ≡ true
        → reports_walk (met_maybe clock y (Some w) (h ∷ []) ++ hs) allowed n whole ws os ≡ reports_walk hs allowed n whole ws os
    reports_over w h hs Flies ws os s = absurd (apart_tests s)
    reports_over w h hs Applied ws os s = refl
    reports_over w h hs Already ws os s = refl
    reports_over w h hs Retried ws os s = refl
    reports_over w h hs (Halved k) ws os s = refl
    reports_over w h hs (Reported c) ws os s = refl

    pub reports_step : (hs : List Kept) (p : ℕ) (w : Write) (ws : List Write) (os : List Outcome) (h : Kept) → Carries n p hs (w ∷ ws) → first_of w.key hs ≡ Some h → flies_here n h.flies ≡ true
        → reports_walk hs allowed n whole (w ∷ ws) os ≡ reports_one (fate_one allowed whole h (slice_get os 0)) h w ++ reports_walk (after_one clock w hs (fate_one allowed whole h (slice_get os 0))) allowed n whole ws (drop 1 os)
    reports_step [] p w ws os h c e t = absurd (cc)
    reports_step (x ∷ hs) p w ws os h c e t = ⊎_elim {C = reports_walk (x ∷ hs) allowed n whole (w ∷ ws) os ≡ reports_one (fate_one allowed whole h (slice_get os 0)) h w ++ reports_walk (after_one clock w (x ∷ hs) (fate_one allowed whole h (slice_get os 0))) allowed n whole ws (drop 1 os)}
        (λ y. let of = is_its_document x p w ws (met_here x hs p (w ∷ ws) y c) in
        let is = here_first w x hs h of e in
        ap (λ b. if b then reports_maybe (fate_met allowed whole x os) (Some w) (x ∷ []) ++ reports_walk hs allowed n whole ws (drop 1 os) else reports_walk hs allowed n whole (w ∷ ws) os) y
        ∙ ap (λ rs. reports_one (fate_met allowed whole x os) x w ++ rs) (sym (reports_over w x hs (fate_met allowed whole x os) ws (drop 1 os) (met_ends allowed whole x os))
        ∙ ap (λ zs. reports_walk zs allowed n whole ws (drop 1 os)) (sym (after_here clock w x hs (fate_met allowed whole x os) of (met_ends allowed whole x os))))
        ∙ ap (λ (z : Kept). reports_one (fate_one allowed whole z (slice_get os 0)) z w ++ reports_walk (after_one clock w (x ∷ hs) (fate_one allowed whole z (slice_get os 0))) allowed n whole ws (drop 1 os)) is)
        (λ g. let of = other_document w x hs h e t g in
        ap (λ b. if b then reports_maybe (fate_met allowed whole x os) (Some w) (x ∷ []) ++ reports_walk hs allowed n whole ws (drop 1 os) else reports_walk hs allowed n whole (w ∷ ws) os) g
        ∙ reports_step hs p w ws os h (past_rest x hs p (w ∷ ws) g c) (later_first w x hs h of e) t
        ∙ ap (λ rs. reports_one (fate_one allowed whole h (slice_get os 0)) h w ++ rs)
        (sym (ap (λ b. if b then reports_maybe (fate_met allowed whole x (drop 1 os)) (slice_get ws 0) (x ∷ []) ++ reports_walk (after_one clock w hs (fate_one allowed whole h (slice_get os 0))) allowed n whole (drop 1 ws) (drop 1 (drop 1 os)) else reports_walk (after_one clock w hs (fate_one allowed whole h (slice_get os 0))) allowed n whole ws (drop 1 os)) g)
        ∙ ap (λ zs. reports_walk zs allowed n whole ws (drop 1 os)) (sym (after_past clock w x hs (fate_one allowed whole h (slice_get os 0)) of))))
        (true_or_false (flies_here n x.flies))

    successes_over : (w : Write) (h : Kept) (hs : List Kept) (y : Fate) (ws : List Write) (os : List Outcome) → settles y ≡ true
        → successes_walk (met_maybe clock y (Some w) (h ∷ []) ++ hs) allowed n whole ws os ≡ successes_walk hs allowed n whole ws os
    successes_over w h hs Flies ws os s = absurd (apart_tests s)
    successes_over w h hs Applied ws os s = refl
    successes_over w h hs Already ws os s = refl
    successes_over w h hs Retried ws os s = refl
    successes_over w h hs (Halved k) ws os s = refl
    successes_over w h hs (Reported c) ws os s = refl

    pub successes_step : (hs : List Kept) (p : ℕ) (w : Write) (ws : List Write) (os : List Outcome) (h : Kept) → Carries n p hs (w ∷ ws) → first_of w.key hs ≡ Some h → flies_here n h.flies ≡ true
        → successes_walk hs allowed n whole (w ∷ ws) os ≡ success_one (fate_one allowed whole h (slice_get os 0)) (status_in (slice_get os 0)) h w ++ successes_walk (after_one clock w hs (fate_one allowed whole h (slice_get os 0))) allowed n whole ws (drop 1 os)
    successes_step [] p w ws os h c e t = absurd (cc)
    successes_step (x ∷ hs) p w ws os h c e t = ⊎_elim {C = successes_walk (x ∷ hs) allowed n whole (w ∷ ws) os ≡ success_one (fate_one allowed whole h (slice_get os 0)) (status_in (slice_get os 0)) h w ++ successes_walk (after_one clock w (x ∷ hs) (fate_one allowed whole h (slice_get os 0))) allowed n whole ws (drop 1 os)}
        (λ y. let of = is_its_document x p w ws (met_here x hs p (w ∷ ws) y c) in
        let is = here_first w x hs h of e in
        let status = status_in (slice_get os 0) in
        ap (λ b. if b then success_maybe (fate_met allowed whole x os) status (Some w) (x ∷ []) ++ successes_walk hs allowed n whole ws (drop 1 os) else successes_walk hs allowed n whole (w ∷ ws) os) y
        ∙ ap (λ rs. success_one (fate_met allowed whole x os) status x w ++ rs) (sym (successes_over w x hs (fate_met allowed whole x os) ws (drop 1 os) (met_ends allowed whole x os))
        ∙ ap (λ zs. successes_walk zs allowed n whole ws (drop 1 os)) (sym (after_here clock w x hs (fate_met allowed whole x os) of (met_ends allowed whole x os))))
        ∙ ap (λ (z : Kept). success_one (fate_one allowed whole z (slice_get os 0)) status z w ++ successes_walk (after_one clock w (x ∷ hs) (fate_one allowed whole z (slice_get os 0))) allowed n whole ws (drop 1 os)) is)
        (λ g. let of = other_document w x hs h e t g in
        let status = status_in (slice_get os 0) in
        ap (λ b. if b then success_maybe (fate_met allowed whole x os) status (Some w) (x ∷ []) ++ successes_walk hs allowed n whole ws (drop 1 os) else successes_walk hs allowed n whole (w ∷ ws) os) g
        ∙ successes_step hs p w ws os h (past_rest x hs p (w ∷ ws) g c) (later_first w x hs h of e) t
        ∙ ap (λ rs. success_one (fate_one allowed whole h (slice_get os 0)) status h w ++ rs)
        (sym (ap (λ b. if b then success_maybe (fate_met allowed whole x (drop 1 os)) (status_in (slice_get (drop 1 os) 0)) (slice_get ws 0) (x ∷ []) ++ successes_walk (after_one clock w hs (fate_one allowed whole h (slice_get os 0))) allowed n whole (drop 1 ws) (drop 1 (drop 1 os)) else successes_walk (after_one clock w hs (fate_one allowed whole h (slice_get os 0))) allowed n whole ws (drop 1 os)) g)
        ∙ ap (λ zs. successes_walk zs allowed n whole ws (drop 1 os)) (sym (after_past clock w x hs (fate_one allowed whole h (slice_get os 0)) of))))
        (true_or_false (flies_here n x.flies))

    tally_over : (q : Fate → Bool) (w : Write) (h : Kept) (hs : List Kept) (y : Fate) (ws : List Write) (os : List Outcome) → settles y ≡ true
        → tally_walk q (met_maybe clock y (Some w) (h ∷ []) ++ hs) allowed n whole ws os ≡ tally_walk q hs allowed n whole ws os
    tally_over q w h hs Flies ws os s = absurd (apart_tests s)
    tally_over q w h hs Applied ws os s = refl
    tally_over q w h hs Already ws os s = refl
    tally_over q w h hs Retried ws os s = refl
    tally_over q w h hs (Halved k) ws os s = refl
    tally_over q w h hs (Reported c) ws os s = refl

    pub tally_step : (q : Fate → Bool) (hs : List Kept) (p : ℕ) (w : Write) (ws : List Write) (os : List Outcome) (h : Kept) → Carries n p hs (w ∷ ws) → first_of w.key hs ≡ Some h → flies_here n h.flies ≡ true
        → tally_walk q hs allowed n whole (w ∷ ws) os ≡ tally (q (fate_one allowed whole h (slice_get os 0))) + tally_walk q (after_one clock w hs (fate_one allowed whole h (slice_get os 0))) allowed n whole ws (drop 1 os)
    tally_step q [] p w ws os h c e t = absurd (cc)
    tally_step q (x ∷ hs) p w ws os h c e t = ⊎_elim {C = tally_walk q (x ∷ hs) allowed n whole (w ∷ ws) os ≡ tally (q (fate_one allowed whole h (slice_get os 0))) + tally_walk q (after_one clock w (x ∷ hs) (fate_one allowed whole h (slice_get os 0))) allowed n whole ws (drop 1 os)}
        (λ y. let of = is_its_document x p w ws (met_here x hs p (w ∷ ws) y c) in
        let is = here_first w x hs h of e in
        ap (λ b. if b then tally_maybe q (fate_met allowed whole x os) (Some w) + tally_walk q hs allowed n whole ws (drop 1 os) else tally_walk q hs allowed n whole (w ∷ ws) os) y
        ∙ ap (λ r. tally (q (fate_met allowed whole x os)) + r) (sym (tally_over q w x hs (fate_met allowed whole x os) ws (drop 1 os) (met_ends allowed whole x os))
        ∙ ap (λ zs. tally_walk q zs allowed n whole ws (drop 1 os)) (sym (after_here clock w x hs (fate_met allowed whole x os) of (met_ends allowed whole x os))))
        ∙ ap (λ (z : Kept). tally (q (fate_one allowed whole z (slice_get os 0))) + tally_walk q (after_one clock w (x ∷ hs) (fate_one allowed whole z (slice_get os 0))) allowed n whole ws (drop 1 os)) is)
        (λ g. let of = other_document w x hs h e t g in
        ap (λ b. if b then tally_maybe q (fate_met allowed whole x os) (Some w) + tally_walk q hs allowed n whole ws (drop 1 os) else tally_walk q hs allowed n whole (w ∷ ws) os) g
        ∙ tally_step q hs p w ws os h (past_rest x hs p (w ∷ ws) g c) (later_first w x hs h of e) t
        ∙ ap (λ r. tally (q (fate_one allowed whole h (slice_get os 0))) + r)
        (sym (ap (λ b. if b then tally_maybe q (fate_met allowed whole x (drop 1 os)) (slice_get ws 0) + tally_walk q (after_one clock w hs (fate_one allowed whole h (slice_get os 0))) allowed n whole (drop 1 ws) (drop 1 (drop 1 os)) else tally_walk q (after_one clock w hs (fate_one allowed whole h (slice_get os 0))) allowed n whole ws (drop 1 os)) g)
        ∙ ap (λ zs. tally_walk q zs allowed n whole ws (drop 1 os)) (sym (after_past clock w x hs (fate_one allowed whole h (slice_get os 0)) of))))
        (true_or_false (flies_here n x.flies))

    carries_over : (w : Write) (h : Kept) (hs : List Kept) (y : Fate) (p : ℕ) (ws : List Write) → settles y ≡ true → Carries n p hs ws → Carries n p (met_maybe clock y (Some w) (h ∷ []) ++ hs) ws
    carries_over w h hs Flies p ws s c = absurd (apart_tests s)
    carries_over w h hs Applied p ws s c = c
    carries_over w h hs Already p ws s c = c
    carries_over w h hs Retried p ws s c = (tt, c)
    carries_over w h hs (Halved k) p ws s c = (tt, c)
    carries_over w h hs (Reported r) p ws s c = c

    pub carries_step : (hs : List Kept) (p : ℕ) (w : Write) (ws : List Write) (os : List Outcome) (h : Kept) → Carries n p hs (w ∷ ws) → first_of w.key hs ≡ Some h → flies_here n h.flies ≡ true
        → Carries n (p + 1) (after_one clock w hs (fate_one allowed whole h (slice_get os 0))) ws
    carries_step [] p w ws os h c e t = absurd (cc)
    carries_step (x ∷ hs) p w ws os h c e t = ⊎_elim {C = Carries n (p + 1) (after_one clock w (x ∷ hs) (fate_one allowed whole h (slice_get os 0))) ws}
        (λ y. let of = is_its_document x p w ws (met_here x hs p (w ∷ ws) y c) in
        let is = here_first w x hs h of e in
        subst (λ (z : Kept). Carries n (p + 1) (after_one clock w (x ∷ hs) (fate_one allowed whole z (slice_get os 0))) ws) is
        (subst (λ zs. Carries n (p + 1) zs ws) (sym (after_here clock w x hs (fate_met allowed whole x os) of (met_ends allowed whole x os)))
        (carries_over w x hs (fate_met allowed whole x os) (p + 1) ws (met_ends allowed whole x os) (met_rest x hs p (w ∷ ws) y c))))
        (λ g. let of = other_document w x hs h e t g in
        subst (λ zs. Carries n (p + 1) zs ws) (sym (after_past clock w x hs (fate_one allowed whole h (slice_get os 0)) of))
        (let k = carries_step hs p w ws os h (past_rest x hs p (w ∷ ws) g c) (later_first w x hs h of e) t in
        subst (λ b. Given b (IsMet n (p + 1) x ws) × Carries n (further b (p + 1)) (after_one clock w hs (fate_one allowed whole h (slice_get os 0))) (rest_if b ws)) (sym g) (tt, k)))
        (true_or_false (flies_here n x.flies))

    -- if no write is left, nothing flies
    pub none_flies : (hs : List Kept) (p : ℕ) (x : Kept) (rest : List Kept) → Carries n p (x ∷ rest) [] → flies_here n x.flies ≡ false
    none_flies hs p x rest c = ⊎_elim {C = flies_here n x.flies ≡ false} (λ t. let m = met_here x rest p [] t c in let e = m.found in absurd (cc)) (λ f. f) (true_or_false (flies_here n x.flies))

    pub kept_end : (hs : List Kept) (p : ℕ) (os : List Outcome) → Carries n p hs [] → kept_walk hs allowed clock n whole [] os ≡ hs
    kept_end [] p os c = refl
    kept_end (x ∷ hs) p os c = let f = none_flies hs p x hs c in over_past x hs [] os f ∙ ap (λ zs. x ∷ zs) (kept_end hs p os (past_rest x hs p [] f c))

    pub reports_end : (hs : List Kept) (p : ℕ) (os : List Outcome) → Carries n p hs [] → reports_walk hs allowed n whole [] os ≡ []
    reports_end [] p os c = refl
    reports_end (x ∷ hs) p os c = let f = none_flies hs p x hs c in
        ap (λ b. if b then reports_maybe (fate_met allowed whole x os) None (x ∷ []) ++ reports_walk hs allowed n whole [] (drop 1 os) else reports_walk hs allowed n whole [] os) f ∙ reports_end hs p os (past_rest x hs p [] f c)

    pub successes_end : (hs : List Kept) (p : ℕ) (os : List Outcome) → Carries n p hs [] → successes_walk hs allowed n whole [] os ≡ []
    successes_end [] p os c = refl
    successes_end (x ∷ hs) p os c = let f = none_flies hs p x hs c in
        ap (λ b. if b then success_maybe (fate_met allowed whole x os) (status_in (slice_get os 0)) None (x ∷ []) ++ successes_walk hs allowed n whole [] (drop 1 os) else successes_walk hs allowed n whole [] os) f ∙ successes_end hs p os (past_rest x hs p [] f c)

    pub tally_end : (q : Fate → Bool) (hs : List Kept) (p : ℕ) (os : List Outcome) → Carries n p hs [] → tally_walk q hs allowed n whole [] os ≡ 0
    tally_end q [] p os c = refl
    tally_end q (x ∷ hs) p os c = let f = none_flies hs p x hs c in
        ap (λ b. if b then tally_maybe q (fate_met allowed whole x os) None + tally_walk q hs allowed n whole [] (drop 1 os) else tally_walk q hs allowed n whole [] os) f ∙ tally_end q hs p os (past_rest x hs p [] f c)

pub with_first_same : (k : DocKey) (f g : Kept → Kept) (hs : List Kept) (h : Kept) → first_of k hs ≡ Some h → f h ≡ g h → with_first k f hs ≡ with_first k g hs
with_first_same k f g [] h e s = refl
with_first_same k f g (x ∷ hs) h e s = ⊎_elim {C = with_first k f (x ∷ hs) ≡ with_first k g (x ∷ hs)}
    (λ t. let is : x ≡ h = some_same x h (sym (ap (λ b. if b then Some x else first_of k hs) t) ∙ e) in rw t (ap (λ z. z ∷ hs) (ap f is ∙ s ∙ sym (ap g is))))
    (λ n. rw n (ap (λ zs. x ∷ zs) (with_first_same k f g hs h (sym (ap (λ b. if b then Some x else first_of k hs) n) ∙ e) s)))
    (true_or_false (is_of k x))

-- ---- lengths

pub cons_of : {A : Type 0} (xs : List A) (x : A) → slice_get xs 0 ≡ Some x → xs ≡ x ∷ drop 1 xs
cons_of [] x e = absurd (cc)
cons_of (y ∷ xs) x e = ap (λ z. z ∷ xs) (some_same y x e)

pub nil_of : {A : Type 0} (xs : List A) → slice_get xs 0 ≡ None → xs ≡ []
nil_of [] e = refl
nil_of (y ∷ xs) e = absurd (none_some y (sym e))

pub carried_few : (n : ℕ) (hs : List Kept) (p : ℕ) (ws : List Write) → Carries n p hs ws → length ws ≤ length hs
carried_few n [] p ws c = let e = ap length c in omega (arith, e)
carried_few n (h ∷ hs) p ws c = ⊎_elim {C = length ws ≤ length (h ∷ hs)}
    (λ t. let m = met_here n h hs p ws t c in let r = carried_few n hs (p + 1) (drop 1 ws) (met_rest n h hs p ws t c) in let e = ap length m.found in
    let d : length (drop 1 ws) + 1 ≡ length ws = subst (λ vs. length (drop 1 vs) + 1 ≡ length vs) (sym m.found) (omega arith) in omega (arith, r, d))
    (λ f. let r = carried_few n hs p ws (past_rest n h hs p ws f c) in omega (arith, r))
    (true_or_false (flies_here n h.flies))

abbrev pub ends : Fate → ℕ
ends Flies = 0
ends Applied = 1
ends Already = 1
ends Retried = 0
ends (Halved k) = 0
ends (Reported c) = 1

length_changed : (k : DocKey) (f : Kept → Kept) (hs : List Kept) → length (with_first k f hs) ≡ length hs
length_changed k f [] = refl
length_changed k f (h ∷ hs) = ⊎_elim {C = length (with_first k f (h ∷ hs)) ≡ length (h ∷ hs)} (λ t. rw t refl) (λ g. rw g (let ih = length_changed k f hs in omega (arith, ih))) (true_or_false (is_of k h))

pub length_after : (clock : ℕ) (w : Write) (hs : List Kept) (h : Kept) (y : Fate) → first_of w.key hs ≡ Some h → length (after_one clock w hs y) + ends y ≡ length hs
length_after clock w hs h Flies e = omega arith
length_after clock w hs h Applied e = Rattle.relay_held.proofs.Holding.length_without w.key hs h e
length_after clock w hs h Already e = Rattle.relay_held.proofs.Holding.length_without w.key hs h e
length_after clock w hs h Retried e = let l = length_changed w.key (back clock w) hs in omega (arith, l)
length_after clock w hs h (Halved k) e = let l = length_changed w.key (halved_at clock k w) hs in omega (arith, l)
length_after clock w hs h (Reported c) e = Rattle.relay_held.proofs.Holding.length_without w.key hs h e

-- ---- one turn of the loop, over plain values

pub record Turned (n : ℕ) (allowed : Kept → ℕ) (clock : ℕ) (whole : Way) (hs hs' : List Kept) (ws : List Write) (os : List Outcome) (h : Kept) (y : Fate) : Type 0 where
  pub carries : (p : ℕ) × Carries n p hs' (drop 1 ws)
  pub few : length (drop 1 ws) + 1 ≡ length ws
  pub fewer : length hs' + ends y ≡ length hs
  pub kept : kept_walk hs allowed clock n whole ws os ≡ kept_walk hs' allowed clock n whole (drop 1 ws) (drop 1 os)
  pub tallied : (q : Fate → Bool) → tally_walk q hs allowed n whole ws os ≡ tally (q y) + tally_walk q hs' allowed n whole (drop 1 ws) (drop 1 os)

pub turned : (n : ℕ) (allowed : Kept → ℕ) (clock : ℕ) (whole : Way) (hs hs' : List Kept) (ws : List Write) (os : List Outcome) (w : Write) → slice_get ws 0 ≡ Some w
    → (c : (p : ℕ) × Carries n p hs ws) → (h : Kept) → first_of w.key hs ≡ Some h → flies_here n h.flies ≡ true → hs' ≡ after_one clock w hs (fate_one allowed whole h (slice_get os 0))
    → Turned n allowed clock whole hs hs' ws os h (fate_one allowed whole h (slice_get os 0))
turned n allowed clock whole hs hs' ws os w at c h e t is =
    let all = cons_of ws w at in
    let cs = subst (λ xs. Carries n c.0 hs xs) all c.1 in
    let y = fate_one allowed whole h (slice_get os 0) in
    record {
      carries = (c.0 + 1, subst (λ zs. Carries n (c.0 + 1) zs (drop 1 ws)) (sym is) (carries_step n allowed clock whole hs c.0 w (drop 1 ws) os h cs e t));
      few = sym (ap length all ∙ (let z : length (w ∷ drop 1 ws) ≡ length (drop 1 ws) + 1 = omega arith in z));
      fewer = ap (λ zs. length zs + ends y) is ∙ length_after clock w hs h y e;
      kept = ap (λ xs. kept_walk hs allowed clock n whole xs os) all ∙ kept_step n allowed clock whole hs c.0 w (drop 1 ws) os h cs e t ∙ ap (λ zs. kept_walk zs allowed clock n whole (drop 1 ws) (drop 1 os)) (sym is);
      tallied = λ q. ap (λ xs. tally_walk q hs allowed n whole xs os) all ∙ tally_step n allowed clock whole q hs c.0 w (drop 1 ws) os h cs e t ∙ ap (λ zs. tally (q y) + tally_walk q zs allowed n whole (drop 1 ws) (drop 1 os)) (sym is);
    }

pub reported_turn : (n : ℕ) (allowed : Kept → ℕ) (clock : ℕ) (whole : Way) (hs hs' : List Kept) (ws : List Write) (os : List Outcome) (w : Write) → slice_get ws 0 ≡ Some w
    → (c : (p : ℕ) × Carries n p hs ws) → (h : Kept) → first_of w.key hs ≡ Some h → flies_here n h.flies ≡ true → hs' ≡ after_one clock w hs (fate_one allowed whole h (slice_get os 0))
    → reports_walk hs allowed n whole ws os ≡ reports_one (fate_one allowed whole h (slice_get os 0)) h w ++ reports_walk hs' allowed n whole (drop 1 ws) (drop 1 os)
reported_turn n allowed clock whole hs hs' ws os w at c h e t is =
    let all = cons_of ws w at in
    let cs = subst (λ xs. Carries n c.0 hs xs) all c.1 in
    let y = fate_one allowed whole h (slice_get os 0) in
    ap (λ xs. reports_walk hs allowed n whole xs os) all ∙ reports_step n allowed clock whole hs c.0 w (drop 1 ws) os h cs e t
    ∙ ap (λ zs. reports_one y h w ++ reports_walk zs allowed n whole (drop 1 ws) (drop 1 os)) (sym is)

pub succeeded_turn : (n : ℕ) (allowed : Kept → ℕ) (clock : ℕ) (whole : Way) (hs hs' : List Kept) (ws : List Write) (os : List Outcome) (w : Write) → slice_get ws 0 ≡ Some w
    → (c : (p : ℕ) × Carries n p hs ws) → (h : Kept) → first_of w.key hs ≡ Some h → flies_here n h.flies ≡ true → hs' ≡ after_one clock w hs (fate_one allowed whole h (slice_get os 0))
    → successes_walk hs allowed n whole ws os ≡ success_one (fate_one allowed whole h (slice_get os 0)) (status_in (slice_get os 0)) h w ++ successes_walk hs' allowed n whole (drop 1 ws) (drop 1 os)
succeeded_turn n allowed clock whole hs hs' ws os w at c h e t is =
    let all = cons_of ws w at in
    let cs = subst (λ xs. Carries n c.0 hs xs) all c.1 in
    let y = fate_one allowed whole h (slice_get os 0) in
    ap (λ xs. successes_walk hs allowed n whole xs os) all ∙ successes_step n allowed clock whole hs c.0 w (drop 1 ws) os h cs e t
    ∙ ap (λ zs. success_one y (status_in (slice_get os 0)) h w ++ successes_walk zs allowed n whole (drop 1 ws) (drop 1 os)) (sym is)

-- each fate counts once, and what ends or is reported is one fewer
pub counts_one : (y : Fate) → settles y ≡ true → (tally (machine.is_applied_fate y) + tally (machine.is_already_fate y) + tally (Rattle.relay_core.specs.State.is_reported_fate y) + tally (Rattle.relay_core.specs.State.is_retried_fate y) ≡ 1)
counts_one Flies s = absurd (apart_tests s)
counts_one Applied s = refl
counts_one Already s = refl
counts_one Retried s = refl
counts_one (Halved k) s = refl
counts_one (Reported c) s = refl

pub ends_is : (y : Fate) → settles y ≡ true → tally (machine.is_applied_fate y) + tally (machine.is_already_fate y) + tally (Rattle.relay_core.specs.State.is_reported_fate y) ≡ ends y
ends_is Flies s = absurd (apart_tests s)
ends_is Applied s = refl
ends_is Already s = refl
ends_is Retried s = refl
ends_is (Halved k) s = refl
ends_is (Reported c) s = refl

pub nothing_after : {A : Type 0} (xs : List A) → xs ++ [] ≡ xs
nothing_after [] = refl
nothing_after (x ∷ xs) = ap (λ ys. x ∷ ys) (nothing_after xs)

pub tally_as : (q : Fate → Bool) (hs : List Kept) (allowed : Kept → ℕ) (n : ℕ) (whole : Way) (ws vs : List Write) (os rs : List Outcome) → ws ≡ vs → os ≡ rs → tally_walk q hs allowed n whole ws os ≡ tally_walk q hs allowed n whole vs rs
tally_as q hs allowed n whole ws vs os rs a b = λ i. tally_walk q hs allowed n whole (a i) (b i)
