-- The index runs an item of a request.
use Rattle.std.proofs.Common.{◌≡◌, ℕ, ◌<◌, ◌≤◌, List, [], ◌∷◌, ◌++◌, Option, Some, None, Bool, true, false, refl, sym, ap, ◌∙◌, subst, ⊎_elim, inl, inr, arith}
use Rattle.std.specs.Prelude.{slice_get, option_and_then, is_some, if◌then◌else◌}
use borrow.Author.Tests.{ltb-true, ltb-false}
use Rattle.relay_action.specs.Actions.{kind_of}
use Rattle.relay_action.specs.declared.action.ActionKind.{ActionKind}
use Rattle.relay_action.specs.declared.action.ActionKind.TheVariants as kind
use Rattle.relay_action.specs.declared.write.Write.{Write}
use Rattle.relay_results.specs.declared.outcome.Outcome.{Outcome}
use Rattle.relay_results.specs.Words.{Mem}
use Rattle.relay_results.specs.Documents.{Document, document_of, same_document, write_for}
use Rattle.relay_results.specs.Verdicts.{is_success}
use Rattle.relay_results.specs.Outside.{Request, writes_of, Ran, Outside, is_above, is_applied, IsOutcomeOf, MayRun, with_applied, with_run, ran_of}
use Rattle.relay_results.specs.declared.cause.Cause.{Cause}
use Rattle.relay_results.specs.declared.cause.Cause.TheVariants as cause
use Rattle.relay_delivery.specs.Causes.{IsAnswered, IsTrueOf}
use Rattle.relay_results.proofs.Same.{same_document-true, same_document-self}
use Rattle.relay_results.proofs.Excluded.{with_error}
use Rattle.relay_delivery.specs.Machine.{fewest, Config, Core, with_outside, step, Runs}
use Rattle.relay_results.proofs.Lists.{at-Mem, Mem-left, Mem-last, Mem-push_cases}
use Rattle.relay_delivery.proofs.Facts.{Past, IsKnown, TellsOwn, IsSent, RunFact, IsRising, IndexFact, CoreFacts}
use Rattle.relay_delivery.proofs.Dealt.{sent_by}

-- an item that is run is in a request
pub found_at : (q : Option Request) (place : ℕ) (w : Write) → option_and_then (λ x. slice_get (writes_of x) place) q ≡ Some w → (x : Request) × (q ≡ Some x) × (slice_get x.writes place ≡ Some w)
found_at None place w e = absurd (cc)
found_at (Some x) place w e = (x, refl, e)

-- ---- what more runs leave true

answered-more : (s : Outside) (runs : List Ran) (stored : Document → Option ℕ) (applied : Document → List Write) (w : Write) (o : Outcome) → ((r : Ran) → Mem r s.runs → Mem r runs)
    → IsAnswered s w o → IsAnswered (record { requests = s.requests; runs = runs; stored = stored; before = s.before; applied = applied }) w o
answered-more s runs stored applied w o more a = record {
  number = a.number;
  place = a.place;
  request = a.request;
  carried = a.carried;
  says = a.says;
  ran = record { run = a.ran.run; among = more a.ran.run a.ran.among; of_request = a.ran.of_request; of_place = a.ran.of_place; status = a.ran.status; error = a.ran.error };
}

cause-more : (max : ℕ) (s : Outside) (runs : List Ran) (stored : Document → Option ℕ) (applied : Document → List Write) (w : Write) (c : Cause) → ((r : Ran) → Mem r s.runs → Mem r runs)
    → IsTrueOf max s w c → IsTrueOf max (record { requests = s.requests; runs = runs; stored = stored; before = s.before; applied = applied }) w c
cause-more max s runs stored applied w (cause.Refused status kind reason) more h = record { outcome = h.outcome; answered = answered-more s runs stored applied w h.outcome more h.answered; refused = h.refused; status_is = h.status_is; kind_is = h.kind_is; reason_is = h.reason_is }
cause-more max s runs stored applied w (cause.Request status reason) more h = record { number = h.number; place = h.place; request = h.request; carried = h.carried; given = h.given; answer = h.answer; reason_is = h.reason_is; final = h.final }
cause-more max s runs stored applied w (cause.Conflict version reason) more h = record { outcome = h.outcome; answered = answered-more s runs stored applied w h.outcome more h.answered; conflict = h.conflict; stored_is = h.stored_is; reason_is = h.reason_is; other = h.other }
cause-more max s runs stored applied w (cause.GaveUp sends tried) more h = h
cause-more max s runs stored applied w cause.Spent more h = h

-- ---- versions

success_no_conflict : (k : ActionKind) (has_error : Bool) → is_success k 409 has_error ≡ true → ⊥
success_no_conflict kind.Index true e = cc
success_no_conflict kind.Index false e = cc
success_no_conflict kind.Delete true e = cc
success_no_conflict kind.Delete false e = cc

below : (s : Option ℕ) (v u : ℕ) → is_above s v ≡ true → s ≡ Some u → u < v
below None v u t e = absurd (cc)
below (Some s) v u t e = let l = ltb-true _ _ t in let e' : s ≡ u = cc in omega arith

not_above : (s : Option ℕ) (v : ℕ) → is_above s v ≡ false → (u : ℕ) × (s ≡ Some u) × (v ≤ u)
not_above None v t = absurd (cc)
not_above (Some s) v t = (s, refl, ltb-false _ _ t)

Rising-push : (xs : List Write) (y : Write) → IsRising xs → ((x : Write) → Mem x xs → x.version < y.version) → IsRising (xs ++ y ∷ [])
Rising-push [] y h below = ((λ z m. absurd m), tt)
Rising-push (x ∷ xs) y h below = (
  (λ z m. ⊎_elim (λ l. h.0 z l) (λ e. subst (λ (t : Write). x.version < t.version) (sym e) (below x (inl refl))) (Mem-push_cases z xs y m)),
  Rising-push xs y h.1 (λ z m. below z (inr m)),
)

append_nothing : {A : Type 0} (xs : List A) → xs ++ [] ≡ xs
append_nothing [] = refl
append_nothing (x ∷ xs) = ap (λ ys. x ∷ ys) (append_nothing xs)

-- what is known stays known
known_more : (versions : ℕ → Type 0) (applied more : List Write) (u : ℕ) → IsKnown versions applied u → IsKnown versions (applied ++ more) u
known_more versions applied more u h = ⊎_elim (λ old. inl old) (λ z. inr (z.0, Mem-left z.0 applied more z.1, z.2)) h

-- what tells of all runs tells of the earlier ones
tells_before : (g : Config) (past : Past) (runs : List Ran) (r : Ran) → TellsOwn g past (runs ++ r ∷ []) → TellsOwn g past runs
tells_before g past runs r tells = ⊎_elim (λ low. inl low) (λ states. inr (states.0, λ s m. states.1 s (Mem-left s runs (r ∷ []) m))) tells

-- ---- a run that changes nothing in the index

module _ (g : Config) (past : Past) (c : Core) (f : CoreFacts g past c) (r : Ran) where
  with_run_keeps : RunFact past.versions c.outside.requests c.outside.stored c.outside.applied r → CoreFacts g past (with_outside c (with_run c.outside r))
  with_run_keeps new = record {
    past_below = f.past_below;
    held = f.held;
    alone = f.alone;
    in_rise = f.in_rise;
    sent = f.sent;
    runs = λ s m. ⊎_elim (λ y. f.runs s y) (λ e. subst (λ t. RunFact past.versions c.outside.requests c.outside.stored c.outside.applied t) (sym e) new) (Mem-push_cases s c.outside.runs r m);
    index = f.index;
    reports = λ p m. ⊎_elim
        (λ s. inl s)
        (λ s. inr (record {
          op = s.op;
          name = s.name;
          document = s.document;
          version = s.version;
          dealt = s.dealt;
          settled = s.settled;
          cause = cause-more (fewest g) c.outside (c.outside.runs ++ r ∷ []) c.outside.stored c.outside.applied (write_for s.op s.version) p.cause (λ x y. Mem-left x c.outside.runs (r ∷ []) y) s.cause;
        }))
        (f.reports p m);
    apart = f.apart;
    totals = f.totals;
    nothing_lost = λ tells. f.nothing_lost (tells_before g past c.outside.runs r tells);
  }

  -- ---- a run that applies the write

  module _ (w : Write) (sent : IsSent c.outside.requests w) (above : is_above (c.outside.stored (document_of w.key)) w.version ≡ true) where
    new : Outside
    new = with_run (with_applied c.outside w) r

    index_by : (k : Document) (b : Bool) → same_document k (document_of w.key) ≡ b → IndexFact past.versions c.outside.requests (if b then Some w.version else c.outside.stored k) (c.outside.applied k ++ (if b then w ∷ [] else [])) k
    index_by k true e =
        let same : k ≡ document_of w.key = same_document-true k (document_of w.key) e in
        let lower : (x : Write) → Mem x (c.outside.applied k) → x.version < w.version = λ x m.
        let u = (f.index k).above x m in
        let lt = below (c.outside.stored (document_of w.key)) w.version u.0 above (ap c.outside.stored (sym same) ∙ u.1) in omega (arith, u.2, lt) in
        record {
          sent = λ x m. ⊎_elim (λ l. (f.index k).sent x l) (λ d. subst (λ z. IsSent c.outside.requests z) (sym d) sent) (Mem-push_cases x (c.outside.applied k) w m);
          document = λ x m. ⊎_elim (λ l. (f.index k).document x l) (λ d. ap (λ (z : Write). document_of z.key) d ∙ sym same) (Mem-push_cases x (c.outside.applied k) w m);
          rising = Rising-push (c.outside.applied k) w (f.index k).rising lower;
          above = λ x m. (w.version, refl, ⊎_elim {C = x.version ≤ w.version} (λ l. let lt = lower x l in omega (arith, lt)) (λ d. let v = ap (λ (z : Write). z.version) d in omega (arith, v)) (Mem-push_cases x (c.outside.applied k) w m));
          from = λ u s. inr (w, Mem-last (c.outside.applied k) w, cc);
        }
    index_by k false e = subst (λ xs. IndexFact past.versions c.outside.requests (c.outside.stored k) xs k) (sym (append_nothing (c.outside.applied k))) (f.index k)

    stored_by : (k : Document) (b : Bool) → same_document k (document_of w.key) ≡ b → (u v : ℕ) → c.outside.stored k ≡ Some u → v ≤ u → (u' : ℕ) × ((if b then Some w.version else c.outside.stored k) ≡ Some u') × (v ≤ u')
    stored_by k true e u v s le =
        let same : k ≡ document_of w.key = same_document-true k (document_of w.key) e in
        let lt = below (c.outside.stored (document_of w.key)) w.version u above (ap c.outside.stored (sym same) ∙ s) in (w.version, refl, omega (arith, lt, le))
    stored_by k false e u v s le = (u, s, le)

    run-later : (s : Ran) → RunFact past.versions c.outside.requests c.outside.stored c.outside.applied s → RunFact past.versions c.outside.requests new.stored new.applied s
    unfolding new
    run-later s h = record {
      request = h.request;
      write = h.write;
      sent = h.sent;
      stands = h.stands;
      if_applied = λ t. Mem-left h.write (c.outside.applied (document_of h.write.key)) (if same_document (document_of h.write.key) (document_of w.key) then w ∷ [] else []) (h.if_applied t);
      if_conflict = λ e. let u = h.if_conflict e in stored_by (document_of h.write.key) (same_document (document_of h.write.key) (document_of w.key)) refl u.0 h.write.version u.1 u.2;
      if_stated = λ e u s. known_more past.versions (c.outside.applied (document_of h.write.key)) (if same_document (document_of h.write.key) (document_of w.key) then w ∷ [] else []) u (h.if_stated e u s);
    }

    its_own : Mem w (new.applied (document_of w.key))
    unfolding new
    its_own = subst (λ b. Mem w (c.outside.applied (document_of w.key) ++ (if b then w ∷ [] else []))) (sym (same_document-self (document_of w.key))) (Mem-last (c.outside.applied (document_of w.key)) w)

    apply_keeps : RunFact past.versions c.outside.requests new.stored new.applied r → CoreFacts g past (with_outside c new)
    unfolding new
    apply_keeps fact = record {
      past_below = f.past_below;
      held = f.held;
      alone = f.alone;
      in_rise = f.in_rise;
      sent = f.sent;
      runs = λ s m. ⊎_elim (λ y. run-later s (f.runs s y)) (λ e. subst (λ t. RunFact past.versions c.outside.requests new.stored new.applied t) (sym e) fact) (Mem-push_cases s c.outside.runs r m);
      index = λ k. index_by k (same_document k (document_of w.key)) refl;
      reports = λ p m. ⊎_elim
          (λ s. inl s)
          (λ s. inr (record {
            op = s.op;
            name = s.name;
            document = s.document;
            version = s.version;
            dealt = s.dealt;
            settled = s.settled;
            cause = cause-more (fewest g) c.outside (c.outside.runs ++ r ∷ []) new.stored new.applied (write_for s.op s.version) p.cause (λ x y. Mem-left x c.outside.runs (r ∷ []) y) s.cause;
          }))
          (f.reports p m);
      apart = f.apart;
      totals = f.totals;
      nothing_lost = λ tells place o s. ⊎_elim
          (λ h. inl h)
          (λ y. ⊎_elim
          (λ a. inr (inl (record { write = a.write; is_in = Mem-left a.write (c.outside.applied (document_of o.key)) (if same_document (document_of o.key) (document_of w.key) then w ∷ [] else []) a.is_in; version = a.version })))
          (λ p. inr (inr p)) y)
          (f.nothing_lost (tells_before g past c.outside.runs r tells) place o s);
    }

    applied_keeps : (q : Request) → slice_get c.outside.requests r.request ≡ Some q → slice_get q.writes r.place ≡ Some w → is_applied w r.outcome ≡ true → CoreFacts g past (with_outside c (with_run (with_applied c.outside w) r))
    unfolding new
    applied_keeps q s i a = apply_keeps (record {
      request = q;
      write = w;
      sent = s;
      stands = i;
      if_applied = λ e. its_own;
      if_conflict = λ e. absurd (no_conflict_here e);
      if_stated = λ e u stated. absurd (no_conflict_here e);
    })
      where
        no_conflict_here : r.outcome.status ≡ 409 → ⊥
        no_conflict_here e = success_no_conflict (kind_of w.action) (is_some r.outcome.error) (subst (λ n. is_success (kind_of w.action) n (is_some r.outcome.error) ≡ true) e a)

-- ---- by the outcome

abbrev When : Config → Past → Core → Ran → Write → Bool → Type 0
When g past c r w b = CoreFacts g past (with_outside c (if b then with_run (with_applied c.outside w) r else with_run c.outside r))

run_by : (g : Config) (past : Past) (c : Core) (f : CoreFacts g past c) (r : Ran) (q : Request) (w : Write) → slice_get c.outside.requests r.request ≡ Some q → slice_get q.writes r.place ≡ Some w
    → IsOutcomeOf (c.outside.stored (document_of w.key)) w r.outcome → CoreFacts g past (with_outside c (ran_of c.outside r (Some w)))
run_by g past c f r q w s i o = ⊎_elim
    (λ refused.
    let none = with_error w r.outcome refused.has_error in
    subst (When g past c r w) (sym none)
    (with_run_keeps g past c f r (record { request = q; write = w; sent = s; stands = i; if_applied = λ e. absurd (cc (e, none)); if_conflict = λ e. absurd (refused.no_conflict e); if_stated = λ e u stated. absurd (refused.no_conflict e) })))
    (λ rest. ⊎_elim
    (λ a. subst (When g past c r w) (sym a.1)
    (applied_keeps g past c f r w (sent_by c.outside.requests r.request q w s (at-Mem q.writes r.place w i)) a.0 q s i a.1))
    (λ a.
    let none = with_error w r.outcome a.1.has_error in
    subst (When g past c r w) (sym none)
    (with_run_keeps g past c f r (record { request = q; write = w; sent = s; stands = i; if_applied = λ e. absurd (cc (e, none)); if_conflict = λ e. not_above (c.outside.stored (document_of w.key)) w.version a.0; if_stated = λ e u stated. (f.index (document_of w.key)).from u (a.1.stated u stated) })))
    rest)
    o

pub run_keeps : (g : Config) (past : Past) (c : Core) (f : CoreFacts g past c) (r : Ran) → MayRun c.outside r → CoreFacts g past (step g (Runs r) c)
run_keeps g past c f r may =
    let q = found_at (slice_get c.outside.requests r.request) r.place may.write may.sent in
    subst (λ w. CoreFacts g past (with_outside c (ran_of c.outside r w))) (sym may.sent) (run_by g past c f r q.0 may.write q.1 q.2 may.outcome)
