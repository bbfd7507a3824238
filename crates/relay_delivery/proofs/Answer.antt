-- An answer settles a request of a lane.
use Rattle.std.proofs.Common.{◌<◌, None, ◌≡◌, ◌≢◌, ℕ, ◌+◌, ◌≤◌, List, ◌++◌, Option, Some, true, refl, sym, ap, ◌∙◌, subst, ⊎_elim, inl, inr, arith, Bool, false, length-append}
use Rattle.std.specs.Prelude.{◌⊎◌, ◌&&◌, not, slice_get, is_some}
use Rattle.relay_action.specs.Actions.{kind_of}
use Rattle.relay_action.specs.declared.write.Write.{Write}
use Rattle.relay_action.specs.declared.operation.Op.{Op}
use Rattle.relay_results.specs.declared.outcome.Outcome.{Outcome}
use Rattle.relay_results.specs.Words.{Mem, update, count, one_if}
use Rattle.relay_results.specs.Documents.{Document, document_of, write_for}
use Rattle.relay_results.specs.Verdicts.{may_be_own, is_success}
use Rattle.relay_results.specs.Outside.{Answer, Unanswered, Request, Ran, RunOutcome, stored_in, Outside, WasRun, IsHonest, MayAnswer, is_applied}
use Rattle.relay_results.specs.Fates.{Fate, Flies, Applied, Already, Retried, Halved, Reported, IsRetried, HasEntry, says_too_large}
use Rattle.relay_results.specs.declared.cause.Cause.{Cause}
use Rattle.relay_results.specs.Laws.{Says}
use Rattle.relay_results.specs.declared.cause.Cause.TheVariants as cause
use Rattle.relay_delivery.specs.Causes.{carries, is_try, CarriedAt, IsAnswered, IsTrueOf}
use Rattle.relay_results.proofs.Same.{same_write-self}
use Rattle.relay_delivery.specs.Machine.{Config, Core, Held, Place, Report, write_of, report_on, back_to_wait, with_cap, still_held, reports_from, writes_or, settle, fewest, tries_for, how_many, is_applied_fate, is_already_fate}
use Rattle.relay_results.proofs.Fates.{says_as, halved_retried, honest_entry}
use Rattle.relay_results.proofs.Lists.{equal, equal_or_not, at-Mem, Mem-cases, Mem-left, Mem-right, at-update-cases, at-update_same, at-update_other, true_or_false, count-update, count-update_at, count-append, count_some, some_same}
use Rattle.relay_delivery.proofs.Facts.{Past, IsKnown, TellsOwn, IsSent, HeldFact, RunFact, IndexFact, ReportFact, IsSomewhere, CoreFacts, is_report_as}
use Rattle.relay_delivery.proofs.Dealt.{write_once, of_held, with_answer, sent_answered, carries_at, carried_at}
use Rattle.relay_delivery.proofs.Fates.{fewest-least, turn, StaysAs, kept_as, kept_is, kept_version, kept-from, reported-from, goes_to, count-settled, totals-settled, rising-settled, IsAway, IsHere, away_or_here}

-- what a run of a write says
record RunSays (versions : ℕ → Type 0) (stored : Document → Option ℕ) (applied : Document → List Write) (w : Write) (o : RunOutcome) : Type 0 where
  if_applied : is_applied w o ≡ true → Mem w (applied (document_of w.key))
  if_conflict : o.status ≡ 409 → (u : ℕ) × (stored (document_of w.key) ≡ Some u) × (w.version ≤ u)
  if_stated : o.status ≡ 409 → (u : ℕ) → stored_in o.error ≡ Some u → IsKnown versions (applied (document_of w.key)) u

-- a stated version that may be the own one is
own_stated : (s : Option ℕ) (own u : ℕ) → s ≡ Some u → may_be_own s own ≡ true → u ≡ own
own_stated None own u e t = absurd (cc)
own_stated (Some v) own u e t = let d = equal v own t in let x : v ≡ u = cc in sym x ∙ d

module _ (g : Config) (past : Past) (c : Core) (f : CoreFacts g past c) (number : ℕ) (q : Request) (stands : slice_get c.outside.requests number ≡ Some q) (unanswered : q.answer ≡ Unanswered) (a : Answer)
    (answered : a ≡ Unanswered → ⊥) (honest : IsHonest c.outside.runs number q.writes a) (old : ℕ → Bool) where
  -- the tries of each operation, by its version
  abbrev allowed : ℕ → ℕ
  allowed = tries_for g old

  abbrev requests : List Request
  requests = c.outside.requests

  abbrev new : List Request
  new = update number (with_answer a) c.outside.requests

  abbrev later : Outside
  later = record { requests = update number (with_answer a) c.outside.requests; runs = c.outside.runs; stored = c.outside.stored; before = c.outside.before; applied = c.outside.applied }

  new_here : slice_get new number ≡ Some (with_answer a q)
  new_here = at-update_same number (with_answer a) c.outside.requests q stands

  -- another request stays, and this one has the answer
  new_cases : (m : ℕ) (p : Request) → slice_get new m ≡ Some p → ((m ≢ number) × (slice_get requests m ≡ Some p)) ⊎ ((m ≡ number) × (p ≡ with_answer a q))
  new_cases m p s = ⊎_elim
      (λ l. inl l)
      (λ r. let e : r.1.0 ≡ q = some_same r.1.0 q (sym r.1.1 ∙ stands) in inr (r.0, r.1.2 ∙ ap (with_answer a) e))
      (at-update-cases number (with_answer a) c.outside.requests m p s)

  -- one that was answered is another
  other_stays : (m : ℕ) (p : Request) → slice_get requests m ≡ Some p → (p.answer ≡ Unanswered → ⊥) → slice_get new m ≡ Some p
  other_stays m p s ne =
      let d : m ≢ number = λ e. ne (ap (λ (z : Request). z.answer) (some_same p q (sym s ∙ ap (slice_get requests) e ∙ stands)) ∙ unanswered) in
      at-update_other number (with_answer a) c.outside.requests m d ∙ s

  same-counts : (w : Write) → count (carries w) new ≡ count (carries w) requests
  same-counts w = count-update (carries w) number (with_answer a) c.outside.requests (λ p. refl)

  -- what the answered request carries it carried before
  carried_before : (w : Write) (m place : ℕ) (p : Request) → CarriedAt new w m place p → m ≡ number → p ≡ with_answer a q → CarriedAt requests w number place q
  carried_before w m place p k em ep = record {
    write = k.write;
    sent = stands;
    stands = subst (λ (z : Request). slice_get z.writes place ≡ Some k.write) ep k.stands;
    same = k.same;
  }

  no_answer : (place : ℕ) → IsRetried q.writes place q.answer → ⊥
  no_answer place r = subst (λ b. IsRetried q.writes place b) unanswered r

  -- ---- tries

  -- the answered request counts before if it carries the write, and afterwards if it was not too
  -- large
  tries-counted : (w : Write) → count (is_try w) new + one_if (carries w q && true) ≡ count (is_try w) requests + one_if (carries w q && not (says_too_large a))
  tries-counted w =
      let e = count-update_at (is_try w) number (with_answer a) c.outside.requests q stands in
      let before = ap (λ b. one_if (carries w q && not (says_too_large b))) unanswered in
      omega (arith, e, before)

  one_of_both : (b x : Bool) → (one_if (b && x) ≤ one_if (b && true)) × (one_if (b && true) ≤ one_if (b && x) + 1)
  one_of_both true true = (omega arith, omega arith)
  one_of_both true false = (omega arith, omega arith)
  one_of_both false x = (omega arith, omega arith)

  -- at most one try fewer
  tries-one_less : (w : Write) → count (is_try w) requests ≤ count (is_try w) new + 1
  tries-one_less w =
      let e = tries-counted w in
      let b = one_of_both (carries w q) (not (says_too_large a)) in
      let l = b.1 in omega (arith, e, l)

  -- and none if it was not too large, or does not carry the write
  tries-stay_small : (w : Write) → says_too_large a ≡ false → count (is_try w) new ≡ count (is_try w) requests
  tries-stay_small w small =
      let e = tries-counted w in
      let n = ap (λ b. one_if (carries w q && not b)) small in
      omega (arith, e, n)

  tries-stay_apart : (w : Write) → carries w q ≡ false → count (is_try w) new ≡ count (is_try w) requests
  tries-stay_apart w none =
      let e = tries-counted w in
      let n = ap (λ b. one_if (b && not (says_too_large a))) none in
      let m = ap (λ b. one_if (b && true)) none in
      omega (arith, e, n, m)

  -- it does not carry what flies elsewhere
  not_carried : (h : Held) → Mem h c.held → IsAway allowed number q.writes a h → carries (write_of h) q ≡ false
  not_carried h m w = ⊎_elim {C = carries (write_of h) q ≡ false}
      (λ t.
      let k = carried_at requests number q (write_of h) stands t in
      absurd (⊎_elim {C = ⊥} (λ z. no_answer k.0 z) (λ e. w.elsewhere k.0 e) ((f.held h m).retried number k.0 q k.1)))
      (λ e. e)
      (true_or_false (carries (write_of h) q))

  -- ---- held operations

  held-stays : (h : Held) → Mem h c.held → IsAway allowed number q.writes a h → HeldFact g c.taken new h
  held-stays h m w =
      let k = f.held h m in
      record {
        dealt = k.dealt;
        sends = same-counts (write_of h) ∙ k.sends;
        attempts = let e = tries-stay_apart (write_of h) (not_carried h m w) in let n = k.attempts in omega (arith, e, n);
        retried = λ i place p y. ⊎_elim
            (λ l. k.retried i place p (record { write = y.write; sent = l.1; stands = y.stands; same = y.same }))
            (λ r. ⊎_elim
            (λ z. absurd (no_answer place z))
            (λ e. absurd (w.elsewhere place e))
            (k.retried number place q (carried_before (write_of h) i place p y r.0 r.1)))
            (new_cases i p y.sent);
        flying = λ at e.
            let v = k.flying at e in
            let ne : at.request ≢ number = λ d. w.elsewhere at.place (e ∙ (λ i. Some (record { request = d i; place = at.place }))) in
            record { request = v.request; sent = at-update_other number (with_answer a) c.outside.requests at.request ne ∙ v.sent; stands = v.stands; unanswered = v.unanswered };
        last = λ x s doc. k.last x (sent_answered c.outside.requests number a x s) doc;
      }

  -- a request that carried it and does not have this answer was answered before
  others_retried : (h : Held) → Mem h c.held → (w : IsHere allowed number q.writes a h) → IsRetried q.writes w.place a → (i place : ℕ) (p : Request) → CarriedAt new (write_of h) i place p → IsRetried p.writes place p.answer
  others_retried h m w again i place p y = ⊎_elim
      (λ l. ⊎_elim
      (λ z. z)
      (λ e. absurd (l.0 (ap (λ (z : Place). z.request) (some_same (record { request = i; place = place }) (record { request = number; place = w.place }) (sym e ∙ w.flies)))))
      ((f.held h m).retried i place p (record { write = y.write; sent = l.1; stands = y.stands; same = y.same })))
      (λ r. ⊎_elim
      (λ z. absurd (no_answer place z))
      (λ e.
      let same : w.place ≡ place = ap (λ (z : Place). z.place) (some_same (record { request = number; place = w.place }) (record { request = number; place = place }) (sym w.flies ∙ e)) in
      subst (λ (z : Request). IsRetried z.writes place z.answer) (sym r.1) (subst (λ n. IsRetried q.writes n a) same again))
      ((f.held h m).retried number place q (carried_before (write_of h) i place p y r.0 r.1)))
      (new_cases i p y.sent)

  abbrev SaysOf : Held → ℕ → Fate → Type 0
  SaysOf h place t = Says (record { version = h.version; sends = h.sends; attempts = h.attempts; max = allowed h.version }) q.writes place (kind_of h.op.action) a t

  -- what its fate says
  says : (h : Held) → (w : IsHere allowed number q.writes a h) → (t : Fate) → turn allowed number q.writes a h ≡ t → SaysOf h w.place t
  says h w t e = says_as (record { version = h.version; sends = h.sends; attempts = h.attempts; max = allowed h.version }) q.writes w.place (kind_of h.op.action) a t (sym w.fate_is ∙ e)

  held-landed : (h : Held) → Mem h c.held → (w : IsHere allowed number q.writes a h) → turn allowed number q.writes a h ≡ Retried → HeldFact g c.taken new (back_to_wait h)
  held-landed h m w t =
      let k = f.held h m in
      record {
        dealt = k.dealt;
        sends = same-counts (write_of h) ∙ k.sends;
        attempts = let e = tries-stay_small (write_of h) (says h w Retried t).2 in let n = k.attempts in omega (arith, e, n);
        retried = λ i place p y. inl (others_retried h m w (says h w Retried t).1 i place p y);
        flying = λ at e. absurd (cc);
        last = λ x s doc. k.last x (sent_answered c.outside.requests number a x s) doc;
      }

  held-halved : (h : Held) → Mem h c.held → (w : IsHere allowed number q.writes a h) (cap : ℕ) → turn allowed number q.writes a h ≡ Halved cap → HeldFact g c.taken new (with_cap cap h)
  held-halved h m w cap t =
      let k = f.held h m in
      let s = says h w (Halved cap) t in
      record {
        dealt = k.dealt;
        sends = same-counts (write_of h) ∙ k.sends;
        attempts = let e = tries-one_less (write_of h) in let n = k.attempts in omega (arith, e, n);
        retried = λ i place p y. inl (others_retried h m w (halved_retried q.writes w.place a s.0.0 s.0.1 s.1) i place p y);
        flying = λ at e. absurd (cc);
        last = λ x s doc. k.last x (sent_answered c.outside.requests number a x s) doc;
      }

  -- what the run of an entry says of the operation that flies at its place
  entry_run : (h : Held) (w : IsHere allowed number q.writes a h) (o : Outcome) → HasEntry q.writes w.place a o → WasRun c.outside.runs number w.place o
  entry_run h w o e = honest_entry c.outside.runs number w.place q.writes a o honest e

  its_place : (h : Held) → Mem h c.held → (w : IsHere allowed number q.writes a h) → slice_get q.writes w.place ≡ Some (write_of h)
  its_place h m w =
      let v = (f.held h m).flying (record { request = number; place = w.place }) w.flies in
      let e : v.request ≡ q = some_same v.request q (sym v.sent ∙ stands) in
      subst (λ (z : Request). slice_get z.writes w.place ≡ Some (write_of h)) e v.stands

  its_run : (h : Held) → Mem h c.held → (w : IsHere allowed number q.writes a h) (o : Outcome) (e : HasEntry q.writes w.place a o) → RunSays past.versions c.outside.stored c.outside.applied (write_of h) (entry_run h w o e).run.outcome
  its_run h m w o e =
      let y = entry_run h w o e in
      let r = f.runs y.run y.among in
      let eq : r.request ≡ q = some_same r.request q (sym r.sent ∙ ap (slice_get requests) y.of_request ∙ stands) in
      let at : slice_get q.writes w.place ≡ Some r.write = subst (λ n. slice_get q.writes n ≡ Some r.write) y.of_place (subst (λ (z : Request). slice_get z.writes y.run.place ≡ Some r.write) eq r.stands) in
      let ew : r.write ≡ write_of h = some_same r.write (write_of h) (sym at ∙ its_place h m w) in
      subst (λ z. RunSays past.versions c.outside.stored c.outside.applied z y.run.outcome) ew (record { if_applied = r.if_applied; if_conflict = r.if_conflict; if_stated = r.if_stated })

  -- what is done was applied
  abbrev WasApplied : Held → Type 0
  WasApplied h = Mem (write_of h) (c.outside.applied (document_of h.op.key))

  applied_now : (h : Held) → Mem h c.held → IsHere allowed number q.writes a h → turn allowed number q.writes a h ≡ Applied → WasApplied h
  applied_now h m w t =
      let s = says h w Applied t in
      let y = entry_run h w s.0 s.1 in
      (its_run h m w s.0 s.1).if_applied ((λ i. is_success (kind_of h.op.action) (y.status i) (is_some (y.error i))) ∙ s.2)

  -- an applied write with its version is its own
  own_applied : (h : Held) → Mem h c.held → (z : Write) → Mem z (c.outside.applied (document_of h.op.key)) → z.version ≡ h.version → WasApplied h
  own_applied h m z mz v =
      let k = f.held h m in
      ⊎_elim
      (λ one.
      let same = write_once g c.taken z (write_of h) one (of_held g c.taken requests h k) v in
      subst (λ b. Mem b (c.outside.applied (document_of h.op.key))) same mz)
      (λ old. let b = f.past_below z old in let d = k.dealt.version in absurd (omega (arith, b, d, v)))
      (f.sent z ((f.index (document_of h.op.key)).sent z mz))

  -- if the versions from before are lower, one that is not below its own is that of an applied write
  before_if_low : ((u : ℕ) → past.versions u → u < g.first) → (h : Held) → Mem h c.held → (u : ℕ) → c.outside.stored (document_of h.op.key) ≡ Some u → h.version ≤ u → WasApplied h
  before_if_low low h m u stored le =
      let k = f.held h m in
      let x = f.index (document_of h.op.key) in
      ⊎_elim
      (λ old. let lt = low u old in let v = k.dealt.version in absurd (omega (arith, le, v, lt)))
      (λ z.
      let last = k.last z.0 (x.sent z.0 z.1) (x.document z.0 z.1) in
      own_applied h m z.0 z.1 (omega (arith, le, z.2, last)))
      (x.from u stored)

  -- if its own version is stated, it was stored, and is that of an applied write
  before_if_stated : ((u place : ℕ) → past.versions u → place < g.deals → u ≡ g.first + place → ⊥) → (h : Held) → Mem h c.held → IsKnown past.versions (c.outside.applied (document_of h.op.key)) h.version → WasApplied h
  before_if_stated foreign h m known =
      let d = (f.held h m).dealt in
      ⊎_elim
      (λ old. absurd (foreign h.version d.place old d.within d.version))
      (λ z. own_applied h m z.0 z.1 z.2)
      known

  applied_before : TellsOwn g past c.outside.runs → (h : Held) → Mem h c.held → IsHere allowed number q.writes a h → turn allowed number q.writes a h ≡ Already → WasApplied h
  applied_before tells h m w t =
      let s = (says h w Already t).1 in
      let y = entry_run h w s.0 s.1 in
      let r = its_run h m w s.0 s.1 in
      let conflict = y.status ∙ equal s.0.status 409 s.2 in
      ⊎_elim
      (λ low. let u = r.if_conflict conflict in before_if_low low h m u.0 u.1 u.2)
      (λ states.
      let u = states.1 y.run y.among conflict in
      let own : u.0 ≡ h.version = own_stated (stored_in s.0.error) h.version u.0 (sym (ap stored_in y.error) ∙ u.1) s.3 in
      before_if_stated states.0 h m (subst (λ v. IsKnown past.versions (c.outside.applied (document_of h.op.key)) v) own (r.if_stated conflict u.0 u.1)))
      tells

  -- one that does not fly here is neither
  pub ended : TellsOwn g past c.outside.runs → (h : Held) → Mem h c.held → (turn allowed number q.writes a h ≡ Applied) ⊎ (turn allowed number q.writes a h ≡ Already) → WasApplied h
  ended tells h m t = ⊎_elim
      (λ w. ⊎_elim (λ e. absurd (cc (e, w.stays))) (λ e. absurd (cc (e, w.stays))) t)
      (λ w. ⊎_elim (λ e. applied_now h m w e) (λ e. applied_before tells h m w e) t)
      (away_or_here allowed number q.writes a h)

  -- ---- causes

  carried_here : (h : Held) → Mem h c.held → (w : IsHere allowed number q.writes a h) → CarriedAt new (write_of h) number w.place (with_answer a q)
  carried_here h m w = record { write = write_of h; sent = new_here; stands = its_place h m w; same = same_write-self (write_of h) }

  answered_here : (h : Held) → Mem h c.held → (w : IsHere allowed number q.writes a h) (o : Outcome) → HasEntry q.writes w.place a o → IsAnswered later (write_of h) o
  answered_here h m w o e = record {
    number = number;
    place = w.place;
    request = with_answer a q;
    carried = carried_here h m w;
    says = e;
    ran = entry_run h w o e;
  }

  new_cause : (h : Held) → Mem h c.held → (w : IsHere allowed number q.writes a h) → (e : Cause) → SaysOf h w.place (Reported e) → IsTrueOf (fewest g) later (write_of h) e
  new_cause h m w (cause.Refused status kind reason) s = record {
    outcome = s.0;
    answered = answered_here h m w s.0 s.1;
    refused = s.2;
    status_is = s.3;
    kind_is = s.4;
    reason_is = s.5;
  }
  new_cause h m w (cause.Request status reason) s = record { number = number; place = w.place; request = with_answer a q; carried = carried_here h m w; given = s.0.0; answer = s.0.1; reason_is = s.0.2; final = s.1 }
  new_cause h m w (cause.Conflict stored reason) s =
      let some = count_some (carries (write_of h)) (with_answer a q) new (at-Mem new number (with_answer a q) new_here) (carries_at new number w.place (with_answer a q) (write_of h) (carried_here h m w)) in
      let k = (f.held h m).sends in
      let n = same-counts (write_of h) in
      record {
        outcome = s.0;
        answered = answered_here h m w s.0 s.1;
        conflict = s.2;
        other = ⊎_elim (λ few. inl (omega (arith, few, some, k, n))) (λ o. inr o) s.3;
        stored_is = s.4;
        reason_is = s.5;
      }
  new_cause h m w (cause.GaveUp n tried) s = record {
    exactly = same-counts (write_of h) ∙ (f.held h m).sends ∙ sym s.0;
    enough = let x = (f.held h m).attempts in let y = s.1 in let e = tries-stay_small (write_of h) s.3 in let l = fewest-least g old h.version in omega (arith, x, y, e, l);
    each = others_retried h m w s.2;
  }
  new_cause h m w cause.Spent s = s

  -- a cause that was true stays true
  answered-stays : (w : Write) (o : Outcome) → IsAnswered c.outside w o → IsAnswered later w o
  answered-stays w o x = record {
    number = x.number;
    place = x.place;
    request = x.request;
    carried = record { write = x.carried.write; sent = other_stays x.number x.request x.carried.sent (λ e. absurd (cc (e, x.says.answer))); stands = x.carried.stands; same = x.carried.same };
    says = x.says;
    ran = x.ran;
  }

  cause-stays : (max : ℕ) (w : Write) (e : Cause) → IsTrueOf max c.outside w e → IsTrueOf max later w e
  cause-stays max w (cause.Refused status kind reason) h = record { outcome = h.outcome; answered = answered-stays w h.outcome h.answered; refused = h.refused; status_is = h.status_is; kind_is = h.kind_is; reason_is = h.reason_is }
  cause-stays max w (cause.Request status reason) h = record {
    number = h.number;
    place = h.place;
    request = h.request;
    carried = record { write = h.carried.write; sent = other_stays h.number h.request h.carried.sent (λ e. absurd (cc (e, h.answer))); stands = h.carried.stands; same = h.carried.same };
    given = h.given;
    answer = h.answer;
    reason_is = h.reason_is;
    final = h.final;
  }
  cause-stays max w (cause.Conflict stored reason) h = record { outcome = h.outcome; answered = answered-stays w h.outcome h.answered; conflict = h.conflict; stored_is = h.stored_is; reason_is = h.reason_is; other = ⊎_elim (λ n. inl (same-counts w ∙ n)) (λ o. inr o) h.other }
  cause-stays max w (cause.GaveUp n tried) h = record {
    exactly = same-counts w ∙ h.exactly;
    enough =
        let none = ⊎_elim {C = carries w q ≡ false}
        (λ t. let k = carried_at requests number q w stands t in absurd (no_answer k.0 (h.each number k.0 q k.1)))
        (λ e. e)
        (true_or_false (carries w q)) in
        let e = tries-stay_apart w none in let n = h.enough in omega (arith, e, n);
    each = λ i place p y. ⊎_elim
        (λ l. h.each i place p (record { write = y.write; sent = l.1; stands = y.stands; same = y.same }))
        (λ r. absurd (no_answer place (h.each number place q (carried_before w i place p y r.0 r.1))))
        (new_cases i p y.sent);
  }
  cause-stays max w cause.Spent h = h

  -- ---- all together

  abbrev held_after : List Held
  held_after = still_held allowed number q.writes a c.held

  kept_of : (k : Held) → Mem k (still_held allowed number q.writes a c.held) → (h : Held) × Mem h c.held × StaysAs (turn allowed number q.writes a h) h k × (k.version ≡ h.version)
  kept_of k m =
      let h = kept-from allowed number q.writes a c.held k m in
      (h.0, h.1, h.2, kept_version (turn allowed number q.writes a h.0) h.0 k h.2)

  -- what stays held is not reported
  not_reported : (t : Fate) (h k : Held) (e : Cause) → StaysAs t h k → t ≡ Reported e → ⊥
  not_reported t h k e s r = ⊎_elim {C = ⊥} (λ y. let z = y.0 in cc (z, r)) (λ s. ⊎_elim {C = ⊥} (λ y. let z = y.0 in cc (z, r)) (λ y. let z = y.1 in cc (z, r)) s) s

  report-stays : (r : Report) → ReportFact g c.taken c.held c.outside r → ReportFact g c.taken (still_held allowed number q.writes a c.held) later r
  report-stays r x = ⊎_elim
      (λ s. inl s)
      (λ s. inr (record {
        op = s.op;
        name = s.name;
        document = s.document;
        version = s.version;
        dealt = s.dealt;
        settled = λ k m e. let h = kept_of k m in s.settled h.0 h.1 (sym h.3 ∙ e);
        cause = cause-stays (fewest g) (write_for s.op s.version) r.cause s.cause;
      }))
      x

  new_report : (h : Held) → Mem h c.held → (e : Cause) → turn allowed number q.writes a h ≡ Reported e → ReportFact g c.taken (still_held allowed number q.writes a c.held) later (report_on h.op e)
  new_report h m e t = ⊎_elim
      (λ w. absurd (cc (t, w.stays)))
      (λ w. inr (record {
        op = h.op;
        name = refl;
        document = refl;
        version = h.version;
        dealt = (f.held h m).dealt;
        settled = λ k mk v.
            let j = kept_of k mk in
            let same = f.alone j.0 h j.1 m (sym j.3 ∙ v) in
            let tj = ap (turn allowed number q.writes a) same ∙ t in
            not_reported (turn allowed number q.writes a j.0) j.0 k e j.2 tj;
        cause = new_cause h m w e (says h w (Reported e) t);
      }))
      (away_or_here allowed number q.writes a h)

  run-stays : (r : Ran) → RunFact past.versions requests c.outside.stored c.outside.applied r → RunFact past.versions new c.outside.stored c.outside.applied r
  run-stays r x = ⊎_elim
      (λ e.
      let same : x.request ≡ q = some_same x.request q (sym x.sent ∙ ap (slice_get requests) e ∙ stands) in
      record { request = with_answer a q; write = x.write; sent = subst (λ n. slice_get new n ≡ Some (with_answer a q)) (sym e) new_here; stands = subst (λ (z : Request). slice_get z.writes r.place ≡ Some x.write) same x.stands; if_applied = x.if_applied; if_conflict = x.if_conflict; if_stated = x.if_stated })
      (λ ne. record { request = x.request; write = x.write; sent = at-update_other number (with_answer a) c.outside.requests r.request ne ∙ x.sent; stands = x.stands; if_applied = x.if_applied; if_conflict = x.if_conflict; if_stated = x.if_stated })
      (equal_or_not r.request number)

  sent-stays : (w : Write) → IsSent requests w → IsSent new w
  sent-stays w s = ⊎_elim
      (λ e.
      let same : s.request ≡ q = some_same s.request q (sym s.sent ∙ ap (slice_get requests) e ∙ stands) in
      record { number = number; request = with_answer a q; sent = new_here; is_in = subst (λ (z : Request). Mem w z.writes) same s.is_in })
      (λ ne. record { number = s.number; request = s.request; sent = at-update_other number (with_answer a) c.outside.requests s.number ne ∙ s.sent; is_in = s.is_in })
      (equal_or_not s.number number)

  index-stays : (k : Document) → IndexFact past.versions requests (c.outside.stored k) (c.outside.applied k) k → IndexFact past.versions new (c.outside.stored k) (c.outside.applied k) k
  index-stays k h = record { sent = λ w m. sent-stays w (h.sent w m); document = h.document; rising = h.rising; above = h.above; from = h.from }

  abbrev settled_core : Core
  settled_core = record { taken = c.taken; held = still_held allowed number q.writes a c.held; reports = c.reports ++ reports_from allowed number q.writes a c.held; applied = c.applied + how_many is_applied_fate allowed number q.writes a c.held; already = c.already + how_many is_already_fate allowed number q.writes a c.held; outside = later }

  held_kept : (k : Held) → Mem k (still_held allowed number q.writes a c.held) → HeldFact g c.taken new k
  held_kept k m =
      let h = kept-from allowed number q.writes a c.held k m in
      ⊎_elim
      (λ y. ⊎_elim
      (λ w. subst (λ z. HeldFact g c.taken new z) (sym y.1) (held-stays h.0 h.1 w))
      (λ w. absurd (answered (says h.0 w Flies y.0)))
      (away_or_here allowed number q.writes a h.0))
      (λ s. ⊎_elim
      (λ y. ⊎_elim
      (λ w. absurd (cc (y.0, w.stays)))
      (λ w. subst (λ z. HeldFact g c.taken new z) (sym y.1) (held-landed h.0 h.1 w y.0))
      (away_or_here allowed number q.writes a h.0))
      (λ y. ⊎_elim
      (λ w. absurd (cc (y.1, w.stays)))
      (λ w. subst (λ z. HeldFact g c.taken new z) (sym y.2) (held-halved h.0 h.1 w y.0 y.1))
      (away_or_here allowed number q.writes a h.0))
      s)
      h.2

  alone_kept : (k l : Held) → Mem k (still_held allowed number q.writes a c.held) → Mem l (still_held allowed number q.writes a c.held) → k.version ≡ l.version → k ≡ l
  unfolding kept_of
  alone_kept k l mk ml e =
      let h = kept-from allowed number q.writes a c.held k mk in
      let j = kept-from allowed number q.writes a c.held l ml in
      let hk = kept_of k mk in
      let hl = kept_of l ml in
      let vh : k.version ≡ h.0.version = hk.3 in
      let vj : l.version ≡ j.0.version = hl.3 in
      let same : h.0 ≡ j.0 = f.alone h.0 j.0 h.1 j.1 (sym vh ∙ e ∙ vj) in
      kept_is (turn allowed number q.writes a h.0) h.0 k h.2 ∙ ap (λ (z : Held). kept_as (turn allowed number q.writes a z) z) same ∙ sym (kept_is (turn allowed number q.writes a j.0) j.0 l j.2)

  somewhere : TellsOwn g past c.outside.runs → (place : ℕ) (o : Op) → slice_get c.taken place ≡ Some o → IsSomewhere g c o place → IsSomewhere g settled_core o place
  somewhere tells place o s x = ⊎_elim
      (λ h.
      let d = (f.held h.held_op h.is_in).dealt in
      let at : d.place ≡ place = (let v = d.version in let u = h.version in omega (arith, v, u)) in
      let same : h.held_op.op ≡ o = some_same h.held_op.op o (sym d.stands ∙ ap (slice_get c.taken) at ∙ s) in
      ⊎_elim
      (λ y. inl (record { held_op = y.0; is_in = y.1; version = y.2 ∙ h.version }))
      (λ z. ⊎_elim
      (λ y. inr (inl (record { write = write_of h.held_op; is_in = subst (λ p. Mem (write_of h.held_op) (c.outside.applied (document_of p.key))) same (ended tells h.held_op h.is_in y); version = h.version })))
      (λ y. inr (inr (record { report = report_on h.held_op.op y.0; is_in = Mem-right (report_on h.held_op.op y.0) c.reports (reports_from allowed number q.writes a c.held) y.1; name = ap (λ p. (report_on p y.0).name) same })))
      z)
      (goes_to allowed number q.writes a c.held h.held_op h.is_in))
      (λ z. ⊎_elim
      (λ y. inr (inl y))
      (λ p. inr (inr (record { report = p.report; is_in = Mem-left p.report c.reports (reports_from allowed number q.writes a c.held) p.is_in; name = p.name })))
      z)
      x

  settled_keeps : CoreFacts g past settled_core
  settled_keeps = record {
    past_below = f.past_below;
    held = held_kept;
    alone = alone_kept;
    in_rise = rising-settled allowed number q.writes a c.held f.in_rise;
    sent = λ w s. f.sent w (sent_answered c.outside.requests number a w s);
    runs = λ r m. run-stays r (f.runs r m);
    index = λ k. index-stays k (f.index k);
    reports = λ r m. ⊎_elim
        (λ old. report-stays r (f.reports r old))
        (λ y.
        let h = reported-from allowed number q.writes a c.held r y in
        subst (λ z. ReportFact g c.taken (still_held allowed number q.writes a c.held) later z) (sym h.2.2) (new_report h.0 h.1 h.2.0 h.2.1))
        (Mem-cases r c.reports (reports_from allowed number q.writes a c.held) m);
    apart = λ n.
        let e = count-append (is_report_as n) c.reports (reports_from allowed number q.writes a c.held) in
        let s = count-settled allowed number q.writes a n c.held in
        let b = f.apart n in omega arith;
    totals =
        let t = f.totals in
        let e = totals-settled allowed number q.writes a c.held in
        let r = length-append c.reports (reports_from allowed number q.writes a c.held) in
        omega (arith, t, r, e);
    nothing_lost = λ tells place o s. somewhere tells place o s (f.nothing_lost tells place o s);
  }

pub no_unanswered : (runs : List Ran) (number : ℕ) (ws : List Write) (a : Answer) → IsHonest runs number ws a → a ≡ Unanswered → ⊥
no_unanswered runs number ws a h e = subst (λ b. IsHonest runs number ws b) e h

pub answer_keeps : (g : Config) (past : Past) (c : Core) (f : CoreFacts g past c) (number : ℕ) (a : Answer) (old : ℕ → Bool) → MayAnswer c.outside number a → CoreFacts g past (settle g number a old c)
answer_keeps g past c f number a old may =
    subst (λ p. CoreFacts g past (record {
      taken = c.taken;
      held = still_held (tries_for g old) number (writes_or p) a c.held;
      reports = c.reports ++ reports_from (tries_for g old) number (writes_or p) a c.held;
      applied = c.applied + how_many is_applied_fate (tries_for g old) number (writes_or p) a c.held;
      already = c.already + how_many is_already_fate (tries_for g old) number (writes_or p) a c.held;
      outside = record { requests = update number (with_answer a) c.outside.requests; runs = c.outside.runs; stored = c.outside.stored; before = c.outside.before; applied = c.outside.applied };
    })) (sym may.sent)
    (settled_keeps g past c f number may.request may.sent may.open_yet a (no_unanswered c.outside.runs number may.request.writes a may.honest) may.honest old)
