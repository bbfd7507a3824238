-- What the parts of the world keep.
use Rattle.std.proofs.Common.{◌≡◌, ℕ, zero, suc, ◌<◌, ◌≤◌, List, [], ◌∷◌, ◌++◌, length, Option, Some, None, Bool, true, false, refl, sym, ap, ◌∙◌, subst, ⊎_elim, arith, append-nil}
use Rattle.std.specs.Prelude.{slice_get, slice_set, option_map, unwrap_or, nat_lt, nat_le, is_some, not, OnOk, OnErr, IfOk, Ok, Err, Result, if◌then◌else◌}
use Rattle.relay_action.specs.declared.mail.Mail.{Mail}
use Rattle.relay_action.specs.declared.mail.Body.{Body}
use Rattle.relay_action.specs.declared.operation.Op.{Op}
use Rattle.relay_action.specs.declared.mail.Body.TheVariants as body
use Rattle.relay_batch.specs.declared.item.BatchItem.{BatchItem}
use Rattle.relay_results.specs.Words.{update}
use Rattle.relay_results.specs.Documents.{document_of}
use Rattle.relay_results.specs.Outside.{Answer}
use Rattle.relay_results.proofs.Lists.{at-Mem, at-update-cases, any_false, length-update}
use Rattle.relay_core.specs.State as lane
use Rattle.relay_world.specs.declared.sender.Sender.{Sender}
use Rattle.relay_world.specs.declared.event.Refusal.{Refusal}
use Rattle.relay_world.specs.declared.event.Refusal.TheVariants as no
use borrow.Author.Tests.{ltb-false, leb-false}
use Rattle.relay_world.specs.State.{Desk, Sent, World, desk_at, lane_of, has_closed, is_closed}
use Rattle.relay_world.specs.Refusals.{cause_if, at_desk, front_refusal, put_refusal, close_refusal, control_refusal, take_refusal, send_refusal, is_full}
use Rattle.relay_world.specs.Changes.{at_lane, after_post, front_taken, took_front, sent_request, answered_desk, after_mail, after_put, request_of, sent_by}
use Rattle.relay_world.specs.Memory.{WorksAs, ArePartsOf, IsOpenAt, IsOpenIn, IsThere, Forms, FormsBy, batch_at}
use Rattle.relay_world.proofs.Places.{either, on_ok, on_ok_two, on_err, on_err_two, set-update, set-same, length-set}
use Rattle.relay_world.proofs.Desks.{took_config}

-- ---- a desk is changed

pub at_lane_is : (w : World) (l : ℕ) (f : Desk → Desk) (d e : Desk) → desk_at w l ≡ Some d → e ≡ f d → record w { desks = slice_set w.desks l e } ≡ at_lane l f w
at_lane_is w l f d e there is = ap (λ ds. record w { desks = ds }) (set-update f w.desks l d e there is)

pub lane_same : (w : World) (l : ℕ) (d e : Desk) → desk_at w l ≡ Some d → e ≡ d → record w { desks = slice_set w.desks l e } ≡ w
lane_same w l d e there is = ap (λ ds. record w { desks = ds }) (ap (slice_set w.desks l) is ∙ set-same w.desks l d there)

abbrev pub Works : World → (Desk → Desk) → Type 0
Works w f = (d : Desk) → WorksAs w.config d → WorksAs w.config (f d)

pub at_lane_keeps : (w : World) (l : ℕ) (f : Desk → Desk) → Works w f → ArePartsOf w → ArePartsOf (at_lane l f w)
at_lane_keeps w l f keeps p = record {
  valid = p.valid;
  lanes = length-update l f w.desks ∙ p.lanes;
  producers = p.producers;
  works = λ m d e. ⊎_elim (λ o. p.works m d o.1) (λ s. subst (WorksAs w.config) (sym s.1.2) (keeps s.1.0 (p.works l s.1.0 s.1.1))) (at-update-cases l f w.desks m d e);
}

-- by how a call of a desk ended
module _ {A E : Type 0} (r : Result A E) (w : World) (l : ℕ) (f : Desk → Desk) (d e : Desk) (there : desk_at w l ≡ Some d) where
  pub parts_result : OnOk r (e ≡ f d) → OnErr r (e ≡ d) → Works w f → ArePartsOf w → ArePartsOf (record w { desks = slice_set w.desks l e })
  parts_result ok err keeps p =
      either r (e ≡ f d) (e ≡ d) (ArePartsOf (record w { desks = slice_set w.desks l e })) ok err
      (λ is. subst ArePartsOf (sym (at_lane_is w l f d e there is)) (at_lane_keeps w l f keeps p))
      (λ is. subst ArePartsOf (sym (lane_same w l d e there is)) p)

  pub view_result : OnOk r (e ≡ f d) → OnOk r (record w { desks = slice_set w.desks l e } ≡ at_lane l f w)
  view_result ok = on_ok r (e ≡ f d) (record w { desks = slice_set w.desks l e } ≡ at_lane l f w) (λ is. at_lane_is w l f d e there is) ok

  pub same_result : OnErr r (e ≡ d) → OnErr r (record w { desks = slice_set w.desks l e } ≡ w)
  same_result err = on_err r (e ≡ d) (record w { desks = slice_set w.desks l e } ≡ w) (λ is. lane_same w l d e there is) err

-- ---- desks continue to work

pub posted_works : (w : World) (sender : ℕ) (b : Body) → Works w (after_post sender b)
posted_works w sender b d k = record { config = k.config; senders = length-update sender (after_mail b) d.senders ∙ k.senders }

front_works : (w : World) (q : List Mail) (d : Desk) → WorksAs w.config d → WorksAs w.config (front_taken q d)
front_works w [] d k = k
front_works w (m ∷ ms) d k = record { config = took_config d.lane m.sender m.body ∙ k.config; senders = k.senders }

pub took_works : (w : World) → Works w took_front
took_works w d k = front_works w d.queue d k

requested_works : (w : World) (b : Option (List BatchItem)) (d : Desk) → WorksAs w.config d → WorksAs w.config (record d { lane = lane.after_request d.lane b })
requested_works w None d k = k
requested_works w (Some is) d k = record { config = k.config; senders = k.senders }

pub sent_works : (w : World) → Works w sent_request
sent_works w d k = requested_works w (lane.next_batch d.lane) d k

pub answered_works : (w : World) (number : ℕ) (a : Answer) → Works w (answered_desk number a)
answered_works w number a d k = record { config = k.config; senders = k.senders }

-- ---- what follows if nothing is refused

no_cause : (b : Bool) (r : Refusal) (next : Option Refusal) → cause_if b r next ≡ None → (b ≡ false) × (next ≡ None)
no_cause true r next e = absurd (cc)
no_cause false r next e = (refl, e)

not_le : (a b : ℕ) → nat_le a b ≡ false → b < a
not_le a b e = leb-false a b e

not_lt : (a b : ℕ) → nat_lt a b ≡ false → b ≤ a
not_lt a b e = ltb-false a b e

-- a known sender that has not closed is open
opens : (p : ℕ) (d : Desk) → p < length d.senders → has_closed p d ≡ false → IsOpenAt p d
opens p d lt c = by d.senders p lt c
  where
    by : (ss : List Sender) (n : ℕ) → n < length ss → unwrap_or (option_map (λ (s : Sender). s.closed) (slice_get ss n)) false ≡ false → option_map (λ (s : Sender). s.closed) (slice_get ss n) ≡ Some false
    by [] n lt e = absurd (omega arith)
    by (s ∷ ss) zero lt e = ap Some e
    by (s ∷ ss) (suc n) lt e = by ss n (omega arith) e

open_by : (w : World) (p l : ℕ) (o : Option Desk) → desk_at w l ≡ o → ArePartsOf w → p ≤ w.config.producers → (f : Desk → Option Refusal) → at_desk o f ≡ None → ((d : Desk) → Some d ≡ o → has_closed p d ≡ false) → IsOpenIn w p l
open_by w p l None e a lt f n c = absurd (cc)
open_by w p l (Some d) e a lt f n c =
    let s = (a.works l d e).senders in
    record { desk = d; there = e; is_open = opens p d (omega (arith, s, lt)) (c d refl) }

-- a sender that has closed nowhere has not closed here
not_here : (w : World) (p l : ℕ) (d : Desk) → is_closed w p ≡ false → desk_at w l ≡ Some d → has_closed p d ≡ false
not_here w p l d c there = any_false (has_closed p) d w.desks c (at-Mem w.desks l d there)

pub put_open : (w : World) (p l : ℕ) → ArePartsOf w → put_refusal w p l ≡ None → IsOpenIn w p l × (p < w.config.producers)
put_open w p l a n =
    let first = no_cause _ _ _ n in
    let second = no_cause _ _ _ first.1 in
    let third = no_cause _ _ _ second.1 in
    let lt = not_le w.config.producers p first.0 in
    (open_by w p l (desk_at w l) refl a (omega (arith, lt)) _ third.1 (λ d e. not_here w p l d second.0 (sym e)), lt)

pub close_open : (w : World) (p l : ℕ) → ArePartsOf w → close_refusal w p l ≡ None → IsOpenIn w p l
close_open w p l a n = by (desk_at w l) refl n
  where
    by : (o : Option Desk) → desk_at w l ≡ o → at_desk o (λ d. cause_if (nat_lt w.config.producers p) no.NoSuch (cause_if (has_closed p d) no.Closed (cause_if (is_full w d) no.QueueFull None))) ≡ None → IsOpenIn w p l
    by None e k = absurd (cc)
    by (Some d) e k =
        let first = no_cause _ _ _ k in
        let second = no_cause _ _ _ first.1 in
        let lt = not_lt w.config.producers p first.0 in
        let s = (a.works l d e).senders in
        record { desk = d; there = e; is_open = opens p d (omega (arith, s, lt)) second.0 }

pub control_open : (w : World) (l : ℕ) → ArePartsOf w → control_refusal w l ≡ None → IsOpenIn w w.config.producers l
control_open w l a n = by (desk_at w l) refl n
  where
    by : (o : Option Desk) → desk_at w l ≡ o → at_desk o (λ d. cause_if (is_closed w w.config.producers) no.Closed (cause_if (is_full w d) no.QueueFull None)) ≡ None → IsOpenIn w w.config.producers l
    by None e k = absurd (cc)
    by (Some d) e k =
        let first = no_cause _ _ _ k in
        let s = (a.works l d e).senders in
        record { desk = d; there = e; is_open = opens w.config.producers d (omega (arith, s)) (not_here w w.config.producers l d first.0 e) }

pub take_there : (w : World) (l : ℕ) → take_refusal w l ≡ None → IsThere w l
take_there w l n = by (desk_at w l) refl n
  where
    by : (o : Option Desk) → desk_at w l ≡ o → at_desk o (λ d. front_refusal d.lane d.queue) ≡ None → IsThere w l
    by None e k = absurd (cc)
    by (Some d) e k = record { desk = d; there = e }

-- ---- an operation is accepted

module _ {A E : Type 0} (r : Result A E) (w : World) (o : Op) (l : ℕ) (d e : Desk) where
  pub accepted_parts : (list : List Op) → desk_at w l ≡ Some d → OnOk r (e ≡ after_post o.producer (body.Put o) d) → OnErr r (e ≡ d) → ArePartsOf w → ArePartsOf (record w { desks = slice_set w.desks l e; accepted = slice_set w.accepted o.producer list })
  accepted_parts list there ok err p =
      let k = parts_result r w l (after_post o.producer (body.Put o)) d e there ok err (posted_works w o.producer (body.Put o)) p in
      record { valid = k.valid; lanes = k.lanes; producers = length-set w.accepted o.producer list ∙ k.producers; works = k.works }

  pub accepted_view : (old list : List Op) → desk_at w l ≡ Some d → slice_get w.accepted o.producer ≡ Some old → l ≡ lane_of w (document_of o.key)
      → OnOk r (e ≡ after_post o.producer (body.Put o) d) → OnOk r (list ≡ old ++ o ∷ [])
      → OnOk r (record w { desks = slice_set w.desks l e; accepted = slice_set w.accepted o.producer list } ≡ after_put w o)
  accepted_view old list there at at_lane_of queue more =
      on_ok_two r (e ≡ after_post o.producer (body.Put o) d) (list ≡ old ++ o ∷ []) (record w { desks = slice_set w.desks l e; accepted = slice_set w.accepted o.producer list } ≡ after_put w o)
      (λ q m.
      let ds = set-update (after_post o.producer (body.Put o)) w.desks l d e there q ∙ ap (λ n. update n (after_post o.producer (body.Put o)) w.desks) at_lane_of in
      let ls = set-update (λ os. os ++ o ∷ []) w.accepted o.producer old list at m in
      λ i. record w { desks = ds i; accepted = ls i })
      queue more

  pub accepted_same : (old list : List Op) → desk_at w l ≡ Some d → slice_get w.accepted o.producer ≡ Some old → OnErr r (e ≡ d) → OnErr r (list ≡ old)
      → OnErr r (record w { desks = slice_set w.desks l e; accepted = slice_set w.accepted o.producer list } ≡ w)
  accepted_same old list there at queue same =
      on_err_two r (e ≡ d) (list ≡ old) (record w { desks = slice_set w.desks l e; accepted = slice_set w.accepted o.producer list } ≡ w)
      (λ q m.
      let ds = ap (slice_set w.desks l) q ∙ set-same w.desks l d there in
      let ls = ap (slice_set w.accepted o.producer) m ∙ set-same w.accepted o.producer old at in
      λ i. record w { desks = ds i; accepted = ls i })
      queue same

-- ---- a request is formed

pub formed_parts : {A E : Type 0} (r : Result A E) (w : World) (l : ℕ) (d e : Desk) (ss : List Sent) → desk_at w l ≡ Some d → OnOk r (e ≡ sent_request d) → OnErr r (e ≡ d) → ArePartsOf w
    → ArePartsOf (record w { desks = slice_set w.desks l e; sent = ss })
formed_parts r w l d e ss there ok err p =
    let k = parts_result r w l sent_request d e there ok err (sent_works w) p in
    record { valid = k.valid; lanes = k.lanes; producers = k.producers; works = k.works }

formed_by : (w : World) (l : ℕ) (d e : Desk) (ss : List Sent) (b : Bool) (o : Option (List BatchItem)) → lane.next_batch d.lane ≡ o → desk_at w l ≡ Some d → b ≡ is_some o → e ≡ sent_request d
    → ss ≡ w.sent ++ (if b then request_of w.config.epoch l d ∷ [] else []) → FormsBy w l o b (record w { desks = slice_set w.desks l e; sent = ss })
formed_by w l d e ss b None batch there when is more =
    let same : e ≡ d = is ∙ ap (λ x. record d { lane = lane.after_request d.lane x }) batch in
    let ds = ap (slice_set w.desks l) same ∙ set-same w.desks l d there in
    let none : ss ≡ w.sent = more ∙ ap (λ x. w.sent ++ (if x then request_of w.config.epoch l d ∷ [] else [])) when ∙ append-nil w.sent in
    (when, λ i. record w { desks = ds i; sent = none i })
formed_by w l d e ss b (Some is) batch there when made more =
    let ds = set-update sent_request w.desks l d e there made in
    let one : ss ≡ w.sent ++ sent_by w.config.epoch l (desk_at w l) = more ∙ ap (λ x. w.sent ++ (if x then request_of w.config.epoch l d ∷ [] else [])) when ∙ ap (λ x. w.sent ++ sent_by w.config.epoch l x) (sym there) in
    (when, λ i. record w { desks = ds i; sent = one i })

pub formed : {E : Type 0} (r : Result Bool E) (w : World) (l : ℕ) (d e : Desk) (ss : List Sent) → desk_at w l ≡ Some d → IfOk r (λ b. b ≡ is_some (lane.next_batch d.lane)) → OnOk r (e ≡ sent_request d)
    → IfOk r (λ b. ss ≡ w.sent ++ (if b then request_of w.config.epoch l d ∷ [] else [])) → IfOk r (λ b. Forms w l b (record w { desks = slice_set w.desks l e; sent = ss }))
formed (Ok b) w l d e ss there when made more =
    subst (λ x. FormsBy w l (batch_at x) b (record w { desks = slice_set w.desks l e; sent = ss })) (sym there)
    (formed_by w l d e ss b (lane.next_batch d.lane) refl there when made more)
formed (Err x) w l d e ss there when made more = when

-- ... and if there is one to form, nothing refuses it
pub form_due : {A E : Type 0} (r : Result A E) (w : World) (l : ℕ) (d : Desk) → desk_at w l ≡ Some d → OnErr r (is_some (lane.next_batch d.lane) ≡ true) → OnErr r (send_refusal w l ≡ None)
form_due (Ok x) w l d there due = tt
form_due (Err e) w l d there due =
    ap (λ o. at_desk o (λ x. cause_if (not (is_some (lane.next_batch x.lane))) no.NoRequest None)) there
    ∙ ap (λ b. cause_if (not b) no.NoRequest None) due
