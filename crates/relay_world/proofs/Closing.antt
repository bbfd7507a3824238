-- Nothing more is accepted from a producer that has closed.
use Rattle.std.proofs.Common.{◌≡◌, ◌≤◌, arith, ℕ, zero, suc, List, [], ◌∷◌, ◌++◌, Option, Some, None, Bool, true, false, refl, sym, ap, ◌∙◌, subst}
use Rattle.std.specs.List.{list_any}
use Rattle.std.specs.Prelude.{slice_get, unwrap_or, not, nat_lt, nat_le, ◌||◌}
use borrow.Author.Tests.{ltb-true}
use Rattle.relay_results.specs.declared.cause.Loss.TheVariants as loss
use Rattle.relay_action.specs.declared.operation.Op.{Op}
use Rattle.relay_action.specs.declared.mail.Body.{Body}
use Rattle.relay_action.specs.declared.mail.Body.TheVariants as body
use Rattle.relay_results.specs.Words.{update}
use Rattle.relay_results.specs.Outside as outside
use Rattle.relay_results.specs.Documents.{document_of}
use Rattle.relay_results.proofs.Lists.{and_left, or_left, or_right, at-update_other}
use Rattle.relay_world.specs.declared.event.Event.{Event}
use Rattle.relay_world.specs.declared.event.Event.TheVariants as event
use Rattle.relay_world.specs.declared.event.Refusal.{Refusal}
use Rattle.relay_world.specs.declared.event.RunEnd.{RunEnd}
use Rattle.relay_world.specs.declared.event.StepAnswer.{StepAnswer}
use Rattle.relay_world.specs.declared.sender.Sender.{Sender}
use Rattle.relay_world.specs.State.{Desk, Sent, World, lane_of, has_closed, is_closed}
use Rattle.relay_world.specs.Headline.{StaysClosed}
use Rattle.relay_world.specs.Refusals.{is_above, refusal}
use Rattle.relay_world.specs.Changes.{is_done_mail, after_mail, after_post, took_front, sent_request, answered_desk, op_of_put, after_put, after_send, after_answer, Changes}
use Rattle.relay_world.specs.Steps.{StepsBy, Steps, counts_after, Plays}
use Rattle.relay_world.proofs.Events.{unrefused, not_false}
use Rattle.relay_world.proofs.Posting.{closed_in}
use Rattle.relay_world.proofs.Fetching.{closed_front}

-- what an element passes, it passes after the change
any_more : {A : Type 0} (p : A → Bool) (f : A → A) (k : ℕ) (xs : List A) → ((x : A) → p x ≡ true → p (f x) ≡ true) → list_any p xs ≡ true → list_any p (update k f xs) ≡ true
any_more p f k [] more t = t
any_more p f zero (x ∷ xs) more t = by (p x) refl t
  where
    by : (b : Bool) → p x ≡ b → (b || list_any p xs) ≡ true → (p (f x) || list_any p xs) ≡ true
    by true e q = or_left (p (f x)) (list_any p xs) (more x e)
    by false e q = or_right (p (f x)) (list_any p xs) q
any_more p f (suc k) (x ∷ xs) more t = by (p x) t (any_more p f k xs more)
  where
    by : (b : Bool) → (b || list_any p xs) ≡ true → (list_any p xs ≡ true → list_any p (update k f xs) ≡ true) → (b || list_any p (update k f xs)) ≡ true
    by true q rest = refl
    by false q rest = rest q

closed_more : (f : Sender → Sender) → ((y : Sender) → y.closed ≡ true → (f y).closed ≡ true) → (s : ℕ) (xs : List Sender) (p : ℕ) → closed_in (slice_get xs p) ≡ true → closed_in (slice_get (update s f xs) p) ≡ true
closed_more f more s [] p t = t
closed_more f more zero (x ∷ xs) zero t = more x t
closed_more f more zero (x ∷ xs) (suc p) t = t
closed_more f more (suc s) (x ∷ xs) zero t = t
closed_more f more (suc s) (x ∷ xs) (suc p) t = closed_more f more s xs p t

posted_more : (p s : ℕ) (b : Body) (d : Desk) → has_closed p d ≡ true → has_closed p (after_post s b d) ≡ true
posted_more p s b d t = closed_more (after_mail b) (λ y e. or_left y.closed (is_done_mail b) e) s d.senders p t

-- a desk was changed at which what was closed stays so
desk_closed : (w : World) (l : ℕ) (f : Desk → Desk) (sent : List Sent) → ((p : ℕ) (d : Desk) → has_closed p d ≡ true → has_closed p (f d) ≡ true) → StaysClosed w (record w { desks = update l f w.desks; sent = sent })
desk_closed w l f sent more = record { epoch = (let z : w.config.epoch ≤ w.config.epoch = omega arith in z); closed = λ same p t. (refl, any_more (has_closed p) f l w.desks (more p) t) }

put_closed : (w : World) (o : Op) → is_closed w o.producer ≡ false → StaysClosed w (after_put w o)
put_closed w o open_yet = record {
  epoch = (let z : w.config.epoch ≤ w.config.epoch = omega arith in z);
  closed = λ same p t. (
    ap (λ x. unwrap_or x []) (at-update_other o.producer (λ os. os ++ o ∷ []) w.accepted p (λ e. cc (ap (is_closed w) e, t, open_yet))),
    any_more (has_closed p) (after_post o.producer (body.Put o)) (lane_of w (document_of o.key)) w.desks (λ d. posted_more p o.producer (body.Put o) d) t,
  );
}

-- in the same epoch, and the same is closed
pub closed_same : (w : World) → StaysClosed w w
closed_same w = record { epoch = (let z : w.config.epoch ≤ w.config.epoch = omega arith in z); closed = λ same p t. (refl, t) }

changes_closed : (w new : World) (e : Event) (x : StepAnswer) → refusal w e ≡ None → Changes w e x new → StaysClosed w new
changes_closed w new (event.Put p key action) x q c =
    subst (StaysClosed w) (sym c.1) (put_closed w (op_of_put w p key action) (unrefused (is_closed w p) _ _ (unrefused _ _ _ q).1).0)
changes_closed w new (event.Close p l) x q c = subst (StaysClosed w) (sym c.1) (desk_closed w l (after_post p body.Done) w.sent (λ s d. posted_more s p body.Done d))
changes_closed w new (event.Tick l) x q c = subst (StaysClosed w) (sym c.1) (desk_closed w l (after_post w.config.producers body.Tick) w.sent (λ s d. posted_more s w.config.producers body.Tick d))
changes_closed w new (event.Flush l) x q c = subst (StaysClosed w) (sym c.1) (desk_closed w l (after_post w.config.producers body.Flush) w.sent (λ s d. posted_more s w.config.producers body.Flush d))
changes_closed w new (event.Take l) x q c = subst (StaysClosed w) (sym c.1) (desk_closed w l took_front w.sent (λ p d t. closed_front p d.queue d ∙ t))
changes_closed w new (event.Send l) x q c = subst (StaysClosed w) (sym c.1) (desk_closed w l sent_request (after_send w l).sent (λ p d t. t))
changes_closed w new (event.Run request item choice) x q c = subst (StaysClosed w) (sym c.after) (record { epoch = (let z : w.config.epoch ≤ w.config.epoch = omega arith in z); closed = λ same p t. (refl, t) })
changes_closed w new (event.Reply request picks) x q c = subst (StaysClosed w) (sym c.4.after) (desk_closed w c.0.lane (answered_desk c.0.number (outside.Items c.1)) (after_answer w request c.0 (outside.Items c.1)).sent (λ p d t. t))
changes_closed w new (event.Whole request status) x q c = subst (StaysClosed w) (sym c.2.after) (desk_closed w c.0.lane (answered_desk c.0.number (outside.Whole status None)) (after_answer w request c.0 (outside.Whole status None)).sent (λ p d t. t))
changes_closed w new (event.Lost request) x q c = subst (StaysClosed w) (sym c.2.after) (desk_closed w c.0.lane (answered_desk c.0.number (outside.Lost loss.Closed)) (after_answer w request c.0 (outside.Lost loss.Closed)).sent (λ p d t. t))
changes_closed w new (event.Restart epoch) x q c =
    let up = not_false _ (unrefused (not (is_above w epoch)) _ _ q).0 in
    let lt = ltb-true w.config.epoch epoch (and_left (nat_lt w.config.epoch epoch) (nat_le epoch 4194303) up) in
    subst (StaysClosed w) (sym c.1) (record { epoch = omega (arith, lt); closed = λ same p t. absurd (omega (arith, lt, same)) })

pub step_closed : (w new : World) (e : Event) (x : StepAnswer) → Steps w e x new → StaysClosed w new
step_closed w new e x s = by (refusal w e) refl s
  where
    by : (r : Option Refusal) → refusal w e ≡ r → StepsBy r w e x new → StaysClosed w new
    by (Some r) q c = subst (StaysClosed w) (sym c.1) (closed_same w)
    by None q c = changes_closed w new e x q c

pub closed_on : (a b c : World) → StaysClosed a b → StaysClosed b c → StaysClosed a c
closed_on a b c f g =
    let m = f.epoch in
    let n = g.epoch in
    record {
      epoch = omega (arith, m, n);
      closed = λ same p t.
          let x = f.closed (omega (arith, m, n, same)) p t in
          let y = g.closed (omega (arith, m, n, same)) p x.1 in (y.0 ∙ x.0, y.1);
    }

pub plays_closed : (w : World) (n : RunEnd) (es : List Event) (end : RunEnd) (new : World) → Plays w n es end new → StaysClosed w new
plays_closed w n [] end new c = subst (StaysClosed w) (sym c.1) (closed_same w)
plays_closed w n (e ∷ es) end new c = closed_on w c.1 new (step_closed w c.1 e c.0 c.2) (plays_closed c.1 (counts_after c.0 n) es end new c.3)
