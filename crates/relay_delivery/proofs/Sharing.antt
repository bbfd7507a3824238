-- Each lane's requests and runs are those of all that it sent.
use Rattle.std.proofs.Common.{◌+◌, ◌≡◌, ℕ, zero, suc, ◌<◌, List, [], ◌∷◌, ◌++◌, length, Option, Some, Bool, true, false, ◌==◌, refl, sym, ap, ◌∙◌, subst, ⊎_elim, inl, inr, arith, length-append}
use Rattle.std.specs.Prelude.{slice_get, option_and_then, map, if◌then◌else◌}
use Rattle.relay_action.specs.declared.write.Write.{Write}
use Rattle.relay_action.specs.declared.operation.Op.{Op}
use Rattle.relay_results.specs.declared.outcome.Outcome.{Outcome}
use Rattle.relay_results.specs.Words.{Mem, update, count, one_if}
use Rattle.relay_results.specs.Documents.{Document, document_of, write_for}
use Rattle.relay_results.specs.Outside.{Answer, Unanswered, Request, writes_of, Ran, RunOutcome, Outside, is_applied, IsOutcomeOf, WasRun, EachWasRun, IsHonest, MayRun, MayAnswer, ran_of, with_run, with_applied, after}
use Rattle.relay_results.specs.Outside as outside
use Rattle.relay_results.specs.declared.cause.Cause.{Cause}
use Rattle.relay_results.specs.declared.cause.Cause.TheVariants as cause
use Rattle.relay_delivery.specs.Causes.{Terms, carries, is_try, CarriedAt, IsAnswered, IsTrueOf, IsTrueCause}
use Rattle.relay_results.proofs.Same.{same_write-true}
use Rattle.relay_results.proofs.Steps.{step_runs_item}
use Rattle.relay_delivery.specs.Machine.{Config, Core, Held, Takes, Sends, Runs, Answers, write_of, step, MaySend}
use Rattle.relay_delivery.specs.Lanes.{Lanes, Move, Puts, Closes, Fetches, Steps, after_fetch, move}
use Rattle.relay_delivery.specs.Together.{Origin, Together, Act, Plain, SendsFrom, RunsAt, AnswersAt, run_at, act, IsPlain, MayAct, IsFreshTogether, outside_of}
use Rattle.relay_delivery.specs.Incarnations.{HappensInLanes}
use Rattle.relay_results.proofs.Lists.{true_or_false, equal, equal_test, equal_or_not, at-left, at-last, at-cases, at-within, at-Mem, Mem-left, Mem-last, Mem-map, Mem-push_cases, at-update-cases, at-update_same, at-update_other, length-update, none_at, count-push, count-update_at, some_same, and_left}
use Rattle.relay_delivery.proofs.Facts.{Past, IsOfOne, IsSent}
use Rattle.relay_delivery.proofs.Dealt.{with_answer, carried_at, of_held, sent_by, sent_at}
use Rattle.relay_delivery.proofs.Run.{found_at}
use Rattle.relay_delivery.proofs.Queues.{LanesFacts, start_facts, move_keeps, was_accepted}

abbrev pub requests_at : Together → ℕ → List Request
requests_at s l = (s.lanes.lane l).outside.requests

abbrev pub runs_at : Together → ℕ → List Ran
runs_at s l = (s.lanes.lane l).outside.runs

pub record SameRequest (s : Together) (i : ℕ) (from : Origin) : Type 0 where
  pub request : Request
  pub here : slice_get s.sent i ≡ Some request
  pub there : slice_get (requests_at s from.lane) from.number ≡ Some request

pub record HasRun (s : Together) (l : ℕ) (r : Ran) : Type 0 where
  pub number : ℕ
  pub origin : slice_get s.origins number ≡ Some (record { lane = l; number = r.request })
  pub among : Mem (record { request = number; place = r.place; outcome = r.outcome }) s.runs

pub record IsBack (s : Together) (r : Ran) : Type 0 where
  pub from : Origin
  pub origin : slice_get s.origins r.request ≡ Some from
  pub among : Mem (record { request = from.number; place = r.place; outcome = r.outcome }) (runs_at s from.lane)

-- requests of this kind carry the write
abbrev pub AreAmong : Write → (Request → Bool) → Type 0
AreAmong x p = (q : Request) → p q ≡ true → carries x q ≡ true

pub record TogetherFacts (g : Config) (lane_of : Document → ℕ) (past : ℕ → Past) (s : Together) : Type 0 where
  pub lanes : LanesFacts g lane_of past s.lanes
  pub same : (i : ℕ) (from : Origin) → slice_get s.origins i ≡ Some from → SameRequest s i from
  pub each : (l n : ℕ) (q : Request) → slice_get (requests_at s l) n ≡ Some q → (i : ℕ) × (slice_get s.origins i ≡ Some (record { lane = l; number = n }))
  pub once : (i j : ℕ) (from : Origin) → slice_get s.origins i ≡ Some from → slice_get s.origins j ≡ Some from → i ≡ j
  pub as_long : length s.origins ≡ length s.sent
  pub ran : (l : ℕ) (r : Ran) → Mem r (runs_at s l) → HasRun s l r
  pub back : (r : Ran) → Mem r s.runs → IsBack s r
  -- of the requests that carry a write, there are as many of a kind among all as among those of its
  -- lane
  pub counted : (x : Write) (p : Request → Bool) → AreAmong x p → count p s.sent ≡ count p (requests_at s (lane_of (document_of x.key)))

-- what is in a request of a lane is of a document of that lane
module _ (g : Config) (lane_of : Document → ℕ) (past : ℕ → Past) (w : Lanes) (f : LanesFacts g lane_of past w) where
  pub of_lane : (l : ℕ) (x : Write) → IsOfOne g (w.lane l).taken x → lane_of (document_of x.key) ≡ l
  of_lane l x a =
      let o = was_accepted g lane_of past w f l a.op (at-Mem (w.lane l).taken a.dealt.place a.op a.dealt.stands) in
      ap (λ (z : Write). lane_of (document_of z.key)) a.write ∙ o.1

  -- and so is what a lane ever sent
  pub sent_lane : (l : ℕ) (x : Write) → IsSent (w.lane l).outside.requests x → lane_of (document_of x.key) ≡ l
  sent_lane l x s = ⊎_elim (λ one. of_lane l x one) (λ old. f.of_past l x old) ((f.lane l).sent x s)

-- ---- lanes that change neither requests nor runs

module _ (g : Config) (lane_of : Document → ℕ) (past : ℕ → Past) (s : Together) (f : TogetherFacts g lane_of past s) (w : Lanes) (facts : LanesFacts g lane_of past w)
    (requests : (l : ℕ) → (w.lane l).outside.requests ≡ (s.lanes.lane l).outside.requests) (runs : (l : ℕ) → (w.lane l).outside.runs ≡ (s.lanes.lane l).outside.runs) where
  plain_keeps : TogetherFacts g lane_of past (record { lanes = w; sent = s.sent; origins = s.origins; runs = s.runs })
  plain_keeps = record {
    lanes = facts;
    same = λ i from e. let p = f.same i from e in record { request = p.request; here = p.here; there = ap (λ qs. slice_get qs from.number) (requests from.lane) ∙ p.there };
    each = λ l n q e. f.each l n q (ap (λ qs. slice_get qs n) (sym (requests l)) ∙ e);
    once = f.once;
    as_long = f.as_long;
    ran = λ l r m. let p = f.ran l r (subst (λ rs. Mem r rs) (runs l) m) in record { number = p.number; origin = p.origin; among = p.among };
    back = λ r m. let p = f.back r m in record { from = p.from; origin = p.origin; among = subst (λ rs. Mem (record { request = p.from.number; place = r.place; outcome = r.outcome }) rs) (sym (runs p.from.lane)) p.among };
    counted = λ x p of. f.counted x p of ∙ ap (count p) (sym (requests (lane_of (document_of x.key))));
  }

lane_same : (w : Lanes) (l m : ℕ) (c : Core) (b : Bool) → (m == l) ≡ b → c.outside ≡ (w.lane l).outside → (if b then c else w.lane m).outside ≡ (w.lane m).outside
lane_same w l m c true e same = same ∙ ap (λ n. (w.lane n).outside) (sym (equal m l e))
lane_same w l m c false e same = refl

fetched_outside : (g : Config) (l : ℕ) (w : Lanes) (q : List Op) (m : ℕ) → ((after_fetch g l w q).lane m).outside ≡ (w.lane m).outside
fetched_outside g l w [] m = refl
fetched_outside g l w (o ∷ os) m = lane_same w l m (step g (Takes o) (w.lane l)) (m == l) refl refl

pub plain_outside : (g : Config) (lane_of : Document → ℕ) (m : Move) → IsPlain m → (w : Lanes) (l : ℕ) → ((move g lane_of m w).lane l).outside ≡ (w.lane l).outside
plain_outside g lane_of (Puts o) p w l = refl
plain_outside g lane_of (Closes q) p w l = refl
plain_outside g lane_of (Fetches n) p w l = fetched_outside g n w (w.queue n) l
plain_outside g lane_of (Steps n x) p w l = absurd p

-- ---- a lane sends

module _ (g : Config) (lane_of : Document → ℕ) (past : ℕ → Past) (s : Together) (f : TogetherFacts g lane_of past s) (l : ℕ) (chosen : List Held) (may : MaySend (s.lanes.lane l) chosen) where
  new : Request
  new = record { writes = map write_of chosen; answer = Unanswered }

  here : Origin
  here = record { lane = l; number = length (requests_at s l) }

  later : Together
  later = act g lane_of (SendsFrom l chosen) s

  lane_requests : (m : ℕ) (b : Bool) → (m == l) ≡ b → (if b then step g (Sends chosen) (s.lanes.lane l) else s.lanes.lane m).outside.requests ≡ (if b then requests_at s m ++ new ∷ [] else requests_at s m)
  unfolding new
  lane_requests m true e = ap (λ n. requests_at s n ++ record { writes = map write_of chosen; answer = Unanswered } ∷ []) (sym (equal m l e))
  lane_requests m false e = refl

  lane_runs : (m : ℕ) (b : Bool) → (m == l) ≡ b → (if b then step g (Sends chosen) (s.lanes.lane l) else s.lanes.lane m).outside.runs ≡ runs_at s m
  lane_runs m true e = ap (runs_at s) (sym (equal m l e))
  lane_runs m false e = refl

  old_there : (m n : ℕ) (q : Request) → slice_get (requests_at s m) n ≡ Some q → (b : Bool) → slice_get (if b then requests_at s m ++ new ∷ [] else requests_at s m) n ≡ Some q
  old_there m n q e true = at-left (requests_at s m) (new ∷ []) n q e
  old_there m n q e false = e

  requests_later : (m : ℕ) → requests_at later m ≡ (if m == l then requests_at s m ++ new ∷ [] else requests_at s m)
  unfolding later
  requests_later m = lane_requests m (m == l) refl

  send_same : (i : ℕ) (from : Origin) → slice_get (s.origins ++ here ∷ []) i ≡ Some from → SameRequest later i from
  unfolding later new here
  send_same i from e = ⊎_elim
      (λ old.
      let p = f.same i from old in
      record { request = p.request; here = at-left s.sent (new ∷ []) i p.request p.here; there = ap (λ qs. slice_get qs from.number) (requests_later from.lane) ∙ old_there from.lane from.number p.request p.there (from.lane == l) })
      (λ r.
      let at : i ≡ length s.sent = r.0 ∙ f.as_long in
      let own : slice_get (requests_at later l) (length (requests_at s l)) ≡ Some new =
      ap (λ qs. slice_get qs (length (requests_at s l))) (requests_later l ∙ ap (λ b. if b then requests_at s l ++ new ∷ [] else requests_at s l) (equal_test l l refl)) ∙ at-last (requests_at s l) new in
      subst (λ x. SameRequest later i x) (sym r.1) (record { request = new; here = ap (slice_get (s.sent ++ new ∷ [])) at ∙ at-last s.sent new; there = own }))
      (at-cases s.origins here i from e)

  each_by : (m n : ℕ) (q : Request) (b : Bool) → (m == l) ≡ b → slice_get (if b then requests_at s m ++ new ∷ [] else requests_at s m) n ≡ Some q → (i : ℕ) × (slice_get (s.origins ++ here ∷ []) i ≡ Some (record { lane = m; number = n }))
  unfolding here
  each_by m n q true e at = ⊎_elim
      (λ old. let i = f.each m n q old in (i.0, at-left s.origins (here ∷ []) i.0 (record { lane = m; number = n }) i.1))
      (λ r.
      let em = equal m l e in
      (length s.origins, at-last s.origins here ∙ (λ i. Some (record { lane = sym em i; number = (ap (λ k. length (requests_at s k)) (sym em) ∙ sym r.0) i }))))
      (at-cases (requests_at s m) new n q at)
  each_by m n q false e at = let i = f.each m n q at in (i.0, at-left s.origins (here ∷ []) i.0 (record { lane = m; number = n }) i.1)

  not_old : (i : ℕ) → slice_get s.origins i ≡ Some here → ⊥
  unfolding here
  not_old i e = let p = f.same i here e in let lt = at-within (requests_at s l) (length (requests_at s l)) p.request p.there in omega (arith, lt)

  send_once : (i j : ℕ) (from : Origin) → slice_get (s.origins ++ here ∷ []) i ≡ Some from → slice_get (s.origins ++ here ∷ []) j ≡ Some from → i ≡ j
  send_once i j from a b = ⊎_elim
      (λ x. ⊎_elim
      (λ y. f.once i j from x y)
      (λ y. absurd (not_old i (x ∙ ap Some y.1)))
      (at-cases s.origins here j from b))
      (λ x. ⊎_elim
      (λ y. absurd (not_old j (y ∙ ap Some x.1)))
      (λ y. x.0 ∙ sym y.0)
      (at-cases s.origins here j from b))
      (at-cases s.origins here i from a)

  -- the new request carries only documents of its lane
  carries_here : (x : Write) → carries x new ≡ true → lane_of (document_of x.key) ≡ l
  unfolding new
  carries_here x t =
      let k = carried_at (new ∷ []) 0 new x refl t in
      let y = Mem-map write_of k.1.write chosen (at-Mem (map write_of chosen) k.0 k.1.write k.1.stands) in
      let el = may.eligible y.0 y.1 in
      let a = of_held g (s.lanes.lane l).taken (requests_at s l) y.0 ((f.lanes.lane l).held y.0 el.is_held) in
      let o = of_lane g lane_of past s.lanes f.lanes l (write_of y.0) a in
      ap lane_of ((same_write-true x k.1.write k.1.same).document) ∙ ap (λ (z : Write). lane_of (document_of z.key)) y.2 ∙ o

  count_by : (x : Write) (p : Request → Bool) → AreAmong x p → (m : ℕ) (b : Bool) → lane_of (document_of x.key) ≡ m → (m == l) ≡ b → count p s.sent ≡ count p (requests_at s m) → count p (s.sent ++ new ∷ []) ≡ count p (if b then requests_at s m ++ new ∷ [] else requests_at s m)
  count_by x p of m true em e old = let a = count-push p s.sent new in let b = count-push p (requests_at s m) new in omega (arith, a, b, old)
  count_by x p of m false em e old =
      let none : p new ≡ false = ⊎_elim (λ t. let t' = equal_test m l (sym em ∙ carries_here x (of new t)) in absurd (cc (t', e))) (λ z. z) (true_or_false (p new)) in
      let a = count-push p s.sent new in
      let o = ap one_if none in omega (arith, a, o, old)

  send_keeps_all : LanesFacts g lane_of past (move g lane_of (Steps l (Sends chosen)) s.lanes) → TogetherFacts g lane_of past later
  unfolding later new here
  send_keeps_all facts = record {
    lanes = facts;
    same = send_same;
    each = λ m n q e. each_by m n q (m == l) refl (ap (λ qs. slice_get qs n) (sym (requests_later m)) ∙ e);
    once = send_once;
    as_long = let a = length-append s.origins (here ∷ []) in let b = length-append s.sent (new ∷ []) in let c = f.as_long in omega (arith, a, b, c);
    ran = λ m r k. let p = f.ran m r (subst (λ rs. Mem r rs) (lane_runs m (m == l) refl) k) in record { number = p.number; origin = at-left s.origins (here ∷ []) p.number (record { lane = m; number = r.request }) p.origin; among = p.among };
    back = λ r k. let p = f.back r k in record { from = p.from; origin = at-left s.origins (here ∷ []) r.request p.from p.origin; among = subst (λ rs. Mem (record { request = p.from.number; place = r.place; outcome = r.outcome }) rs) (sym (lane_runs p.from.lane (p.from.lane == l) refl)) p.among };
    counted = λ x p of. count_by x p of (lane_of (document_of x.key)) (lane_of (document_of x.key) == l) refl refl (f.counted x p of) ∙ ap (count p) (sym (requests_later (lane_of (document_of x.key))));
  }

-- ---- a request is answered

module _ (g : Config) (lane_of : Document → ℕ) (past : ℕ → Past) (s : Together) (f : TogetherFacts g lane_of past s) (i : ℕ) (a : Answer) (old : ℕ → Bool) (from : Origin) (origin : slice_get s.origins i ≡ Some from) where
  after_answer : Together
  after_answer = act g lane_of (AnswersAt i a old from) s

  answered_requests : (m : ℕ) (b : Bool) → (m == from.lane) ≡ b
      → (if b then step g (Answers from.number a old) (s.lanes.lane from.lane) else s.lanes.lane m).outside.requests ≡ (if b then update from.number (with_answer a) (requests_at s m) else requests_at s m)
  answered_requests m true e = ap (λ n. update from.number (with_answer a) (requests_at s n)) (sym (equal m from.lane e))
  answered_requests m false e = refl

  answered_runs : (m : ℕ) (b : Bool) → (m == from.lane) ≡ b → (if b then step g (Answers from.number a old) (s.lanes.lane from.lane) else s.lanes.lane m).outside.runs ≡ runs_at s m
  answered_runs m true e = ap (runs_at s) (sym (equal m from.lane e))
  answered_runs m false e = refl

  requests_answered : (m : ℕ) → requests_at after_answer m ≡ (if m == from.lane then update from.number (with_answer a) (requests_at s m) else requests_at s m)
  unfolding after_answer
  requests_answered m = answered_requests m (m == from.lane) refl

  other_there : (m n : ℕ) (q : Request) (b : Bool) → (m == from.lane) ≡ b → (m ≡ from.lane → n ≡ from.number → ⊥) → slice_get (requests_at s m) n ≡ Some q
      → slice_get (if b then update from.number (with_answer a) (requests_at s m) else requests_at s m) n ≡ Some q
  other_there m n q true e ne at = at-update_other from.number (with_answer a) (requests_at s m) n (λ d. ne (equal m from.lane e) d) ∙ at
  other_there m n q false e ne at = at

  answer_same : (j : ℕ) (o : Origin) → slice_get s.origins j ≡ Some o → SameRequest after_answer j o
  unfolding after_answer
  answer_same j o e =
      let p = f.same j o e in
      ⊎_elim
      (λ at.
      let eo : o ≡ from = some_same o from (sym e ∙ ap (slice_get s.origins) at ∙ origin) in
      let q = f.same i from origin in
      subst (λ x. SameRequest after_answer j x) (sym eo) (record {
        request = with_answer a q.request;
        here = ap (slice_get (update i (with_answer a) s.sent)) at ∙ at-update_same i (with_answer a) s.sent q.request q.here;
        there = ap (λ qs. slice_get qs from.number) (requests_answered from.lane ∙ ap (λ b. if b then update from.number (with_answer a) (requests_at s from.lane) else requests_at s from.lane) (equal_test from.lane from.lane refl))
            ∙ at-update_same from.number (with_answer a) (requests_at s from.lane) q.request q.there;
      }))
      (λ ne. record {
        request = p.request;
        here = at-update_other i (with_answer a) s.sent j ne ∙ p.here;
        there = ap (λ qs. slice_get qs o.number) (requests_answered o.lane)
            ∙ other_there o.lane o.number p.request (o.lane == from.lane) refl (λ el en. ne (f.once j i from (e ∙ (λ k. Some (record { lane = el k; number = en k }))) origin)) p.there;
      })
      (equal_or_not j i)

  answer_each : (m n : ℕ) (q : Request) (b : Bool) → (m == from.lane) ≡ b → slice_get (if b then update from.number (with_answer a) (requests_at s m) else requests_at s m) n ≡ Some q → (k : ℕ) × (slice_get s.origins k ≡ Some (record { lane = m; number = n }))
  answer_each m n q true e at = ⊎_elim
      (λ l. f.each m n q l.1)
      (λ r. f.each m n r.1.0 (ap (slice_get (requests_at s m)) r.0 ∙ r.1.1))
      (at-update-cases from.number (with_answer a) (requests_at s m) n q at)
  answer_each m n q false e at = f.each m n q at

  -- a request of the lane carries only documents of the lane
  carries_there : (q : Request) (x : Write) → slice_get (requests_at s from.lane) from.number ≡ Some q → carries x q ≡ true → lane_of (document_of x.key) ≡ from.lane
  carries_there q x e t =
      let k = carried_at (requests_at s from.lane) from.number q x e t in
      ap lane_of ((same_write-true x k.1.write k.1.same).document) ∙ sent_lane g lane_of past s.lanes f.lanes from.lane k.1.write (sent_at (requests_at s from.lane) from.number k.0 q x k.1)

  answer_count : (x : Write) (p : Request → Bool) → AreAmong x p → (m : ℕ) (b : Bool) → lane_of (document_of x.key) ≡ m → (m == from.lane) ≡ b → count p s.sent ≡ count p (requests_at s m) → count p (update i (with_answer a) s.sent) ≡ count p (if b then update from.number (with_answer a) (requests_at s m) else requests_at s m)
  answer_count x p of m true em e old =
      let q = f.same i from origin in
      let there = ap (λ n. slice_get (requests_at s n) from.number) (equal m from.lane e) ∙ q.there in
      let u = count-update_at p i (with_answer a) s.sent q.request q.here in
      let v = count-update_at p from.number (with_answer a) (requests_at s m) q.request there in
      omega (arith, u, v, old)
  answer_count x p of m false em e old =
      let q = f.same i from origin in
      let apart : carries x q.request ≡ true → ⊥ = λ t. let t' = equal_test m from.lane (sym em ∙ carries_there q.request x q.there t) in cc (t', e) in
      let before : p q.request ≡ false = ⊎_elim (λ t. absurd (apart (of q.request t))) (λ z. z) (true_or_false (p q.request)) in
      let now : p (with_answer a q.request) ≡ false = ⊎_elim (λ t. absurd (apart (of (with_answer a q.request) t))) (λ z. z) (true_or_false (p (with_answer a q.request))) in
      let u = count-update_at p i (with_answer a) s.sent q.request q.here in
      let b = ap one_if before in
      let n = ap one_if now in
      omega (arith, u, b, n, old)

  answer_keeps_all : LanesFacts g lane_of past (move g lane_of (Steps from.lane (Answers from.number a old)) s.lanes) → TogetherFacts g lane_of past after_answer
  unfolding after_answer
  answer_keeps_all facts = record {
    lanes = facts;
    same = answer_same;
    each = λ m n q e. answer_each m n q (m == from.lane) refl (ap (λ qs. slice_get qs n) (sym (requests_answered m)) ∙ e);
    once = f.once;
    as_long = f.as_long ∙ sym (length-update i (with_answer a) s.sent);
    ran = λ m r k. let p = f.ran m r (subst (λ rs. Mem r rs) (answered_runs m (m == from.lane) refl) k) in record { number = p.number; origin = p.origin; among = p.among };
    back = λ r k. let p = f.back r k in record { from = p.from; origin = p.origin; among = subst (λ rs. Mem (record { request = p.from.number; place = r.place; outcome = r.outcome }) rs) (sym (answered_runs p.from.lane (p.from.lane == from.lane) refl)) p.among };
    counted = λ x p of. answer_count x p of (lane_of (document_of x.key)) (lane_of (document_of x.key) == from.lane) refl refl (f.counted x p of) ∙ ap (count p) (sym (requests_answered (lane_of (document_of x.key))));
  }

-- ---- an item is run

logged : (o : Outside) (r : Ran) (w : Write) (b : Bool) → (if b then with_run (with_applied o w) r else with_run o r).runs ≡ o.runs ++ r ∷ []
logged o r w true = refl
logged o r w false = refl

run_logged : (o : Outside) (r : Ran) → MayRun o r → (after (outside.Runs r) o).runs ≡ o.runs ++ r ∷ []
run_logged o r may = ap (λ w. (ran_of o r w).runs) may.sent ∙ logged o r may.write (is_applied may.write r.outcome)

module _ (g : Config) (lane_of : Document → ℕ) (past : ℕ → Past) (s : Together) (f : TogetherFacts g lane_of past s) (i place : ℕ) (outcome : RunOutcome) (from : Origin) (origin : slice_get s.origins i ≡ Some from)
    (may : MayRun (s.lanes.lane from.lane).outside (run_at from.number place outcome)) where
  after_run : Together
  after_run = act g lane_of (RunsAt i place outcome from) s

  run_requests : (m : ℕ) (b : Bool) → (m == from.lane) ≡ b → (if b then step g (Runs (run_at from.number place outcome)) (s.lanes.lane from.lane) else s.lanes.lane m).outside.requests ≡ requests_at s m
  run_requests m true e =
      (step_runs_item (s.lanes.lane from.lane).outside (after (outside.Runs (run_at from.number place outcome)) (s.lanes.lane from.lane).outside) (record { run = run_at from.number place outcome; may = may; reached = refl })).requests
      ∙ ap (requests_at s) (sym (equal m from.lane e))
  run_requests m false e = refl

  requests_run : (m : ℕ) → requests_at after_run m ≡ requests_at s m
  unfolding after_run
  requests_run m = run_requests m (m == from.lane) refl

  run_ran : (m : ℕ) (r : Ran) (b : Bool) → (m == from.lane) ≡ b → Mem r (if b then step g (Runs (run_at from.number place outcome)) (s.lanes.lane from.lane) else s.lanes.lane m).outside.runs → HasRun after_run m r
  unfolding after_run
  run_ran m r true e k =
      let em = equal m from.lane e in
      ⊎_elim
      (λ old. let p = f.ran m r (subst (λ n. Mem r (runs_at s n)) (sym em) old) in record { number = p.number; origin = p.origin; among = Mem-left _ s.runs _ p.among })
      (λ d. subst (λ x. HasRun after_run m x) (sym d) (record { number = i; origin = origin ∙ (λ k. Some (record { lane = sym em k; number = from.number })); among = Mem-last s.runs (record { request = i; place = place; outcome = outcome }) }))
      (Mem-push_cases r (runs_at s from.lane) (run_at from.number place outcome) (subst (λ rs. Mem r rs) (run_logged (s.lanes.lane from.lane).outside (run_at from.number place outcome) may) k))
  run_ran m r false e k = let p = f.ran m r k in record { number = p.number; origin = p.origin; among = Mem-left _ s.runs _ p.among }

  -- what the lanes ran before is among their runs
  old_run : (m : ℕ) (r : Ran) (b : Bool) → (m == from.lane) ≡ b → Mem r (runs_at s m) → Mem r (if b then step g (Runs (run_at from.number place outcome)) (s.lanes.lane from.lane) else s.lanes.lane m).outside.runs
  old_run m r true e k =
      subst (λ rs. Mem r rs) (sym (run_logged (s.lanes.lane from.lane).outside (run_at from.number place outcome) may))
      (Mem-left r (runs_at s from.lane) (run_at from.number place outcome ∷ []) (subst (λ n. Mem r (runs_at s n)) (equal m from.lane e) k))
  old_run m r false e k = k

  new_run : (b : Bool) → (from.lane == from.lane) ≡ b → Mem (run_at from.number place outcome) (if b then step g (Runs (run_at from.number place outcome)) (s.lanes.lane from.lane) else s.lanes.lane from.lane).outside.runs
  new_run true e = subst (λ rs. Mem (run_at from.number place outcome) rs) (sym (run_logged (s.lanes.lane from.lane).outside (run_at from.number place outcome) may)) (Mem-last (runs_at s from.lane) (run_at from.number place outcome))
  new_run false e = let t = equal_test from.lane from.lane refl in absurd (cc (e, t))

  run_back : (r : Ran) → Mem r (s.runs ++ record { request = i; place = place; outcome = outcome } ∷ []) → IsBack after_run r
  unfolding after_run
  run_back r k = ⊎_elim
      (λ old. let p = f.back r old in record { from = p.from; origin = p.origin; among = old_run p.from.lane (record { request = p.from.number; place = r.place; outcome = r.outcome }) (p.from.lane == from.lane) refl p.among })
      (λ d. subst (λ x. IsBack after_run x) (sym d) (record { from = from; origin = origin; among = new_run (from.lane == from.lane) refl }))
      (Mem-push_cases r s.runs (record { request = i; place = place; outcome = outcome }) k)

  run_keeps_all : LanesFacts g lane_of past (move g lane_of (Steps from.lane (Runs (run_at from.number place outcome))) s.lanes) → TogetherFacts g lane_of past after_run
  unfolding after_run
  run_keeps_all facts = record {
    lanes = facts;
    same = λ j o e. let p = f.same j o e in record { request = p.request; here = p.here; there = ap (λ qs. slice_get qs o.number) (requests_run o.lane) ∙ p.there };
    each = λ m n q e. f.each m n q (ap (λ qs. slice_get qs n) (sym (requests_run m)) ∙ e);
    once = f.once;
    as_long = f.as_long;
    ran = λ m r k. run_ran m r (m == from.lane) refl k;
    back = run_back;
    counted = λ x p of. f.counted x p of ∙ ap (count p) (sym (requests_run (lane_of (document_of x.key))));
  }

-- ---- any act

pub act_keeps : (g : Config) (lane_of : Document → ℕ) (past : ℕ → Past) (s : Together) (f : TogetherFacts g lane_of past s) (x : Act) → MayAct g x s → TogetherFacts g lane_of past (act g lane_of x s)
unfolding later after_run after_answer
act_keeps g lane_of past s f (Plain m) may =
    let w = move g lane_of m s.lanes in
    plain_keeps g lane_of past s f w (move_keeps g lane_of past s.lanes f.lanes m may.1) (λ l. ap (λ (o : Outside). o.requests) (plain_outside g lane_of m may.0 s.lanes l)) (λ l. ap (λ (o : Outside). o.runs) (plain_outside g lane_of m may.0 s.lanes l))
act_keeps g lane_of past s f (SendsFrom l chosen) may = send_keeps_all g lane_of past s f l chosen may (move_keeps g lane_of past s.lanes f.lanes (Steps l (Sends chosen)) (tt, may))
act_keeps g lane_of past s f (RunsAt i place outcome from) may = run_keeps_all g lane_of past s f i place outcome from may.0 may.1 (move_keeps g lane_of past s.lanes f.lanes (Steps from.lane (Runs (run_at from.number place outcome))) (tt, may.1))
act_keeps g lane_of past s f (AnswersAt i a old from) may = answer_keeps_all g lane_of past s f i a old from may.0 (move_keeps g lane_of past s.lanes f.lanes (Steps from.lane (Answers from.number a old)) (tt, may.1))

pub start_shared : (g : Config) (lane_of : Document → ℕ) (past : ℕ → Past) → ((l : ℕ) (x : Write) → (past l).writes x → ⊥) → (stored : Document → Option ℕ) (s : Together)
    → IsFreshTogether stored s → ((l : ℕ) (k : Document) (u : ℕ) → stored k ≡ Some u → (past l).versions u) → TogetherFacts g lane_of past s
start_shared g lane_of past none stored s h from = record {
  lanes = start_facts g lane_of past none s.lanes h.lanes (λ l k u e. from l k u (sym (h.found l k) ∙ e));
  same = λ i o e. absurd (none_at s.origins i o h.origins e);
  each = λ l n q e. absurd (none_at (requests_at s l) n q ((h.lanes.lane l).opening.requests) e);
  once = λ i j o a b. absurd (none_at s.origins i o h.origins a);
  as_long = ap length h.origins ∙ sym (ap length h.sent);
  ran = λ l r m. absurd (subst (λ rs. Mem r rs) ((h.lanes.lane l).opening.runs) m);
  back = λ r m. absurd (subst (λ rs. Mem r rs) h.runs m);
  counted = λ x p of. ap (count p) h.sent ∙ sym (ap (count p) ((h.lanes.lane (lane_of (document_of x.key))).opening.requests));
}

-- ---- a cause that is true of a lane's requests is true of all

at_some : {A : Type 0} (xs : List A) (n : ℕ) → n < length xs → (x : A) × (slice_get xs n ≡ Some x)
at_some [] n lt = absurd (omega (arith, lt))
at_some (x ∷ xs) zero lt = (x, refl)
at_some (x ∷ xs) (suc n) lt = at_some xs n (omega (arith, lt))

module _ (g : Config) (lane_of : Document → ℕ) (past : ℕ → Past) (s : Together) (f : TogetherFacts g lane_of past s) (l : ℕ) where
  abbrev own : Outside
  own = (s.lanes.lane l).outside

  record IsLocal (w : Write) (place : ℕ) (q : Request) : Type 0 where
    number : ℕ
    carried : CarriedAt (requests_at s l) w number place q

  local : (w : Write) → lane_of (document_of w.key) ≡ l → (i place : ℕ) (q : Request) → CarriedAt s.sent w i place q → IsLocal w place q
  local w el i place q k =
      let lt = at-within s.sent i q k.sent in
      let o = at_some s.origins i (let e = f.as_long in omega (arith, lt, e)) in
      let p = f.same i o.0 o.1 in
      let eq : p.request ≡ q = some_same p.request q (sym p.here ∙ k.sent) in
      let there : slice_get (requests_at s o.0.lane) o.0.number ≡ Some q = p.there ∙ ap Some eq in
      let its = sent_lane g lane_of past s.lanes f.lanes o.0.lane k.write (sent_by (requests_at s o.0.lane) o.0.number q k.write there (at-Mem q.writes place k.write k.stands)) in
      let el' : o.0.lane ≡ l = sym its ∙ sym (ap lane_of ((same_write-true w k.write k.same).document)) ∙ el in
      record { number = o.0.number; carried = record { write = k.write; sent = subst (λ n. slice_get (requests_at s n) o.0.number ≡ Some q) el' there; stands = k.stands; same = k.same } }

  record IsGlobal (n : ℕ) (q : Request) : Type 0 where
    number : ℕ
    origin : slice_get s.origins number ≡ Some (record { lane = l; number = n })
    sent : slice_get s.sent number ≡ Some q

  global : (n : ℕ) (q : Request) → slice_get (requests_at s l) n ≡ Some q → IsGlobal n q
  global n q e =
      let i = f.each l n q e in
      let p = f.same i.0 (record { lane = l; number = n }) i.1 in
      record { number = i.0; origin = i.1; sent = p.here ∙ sym p.there ∙ e }

  answered_all : (w : Write) (o : Outcome) → IsAnswered own w o → IsAnswered (outside_of lane_of s) w o
  answered_all w o x =
      let i = global x.number x.request x.carried.sent in
      let r = f.ran l x.ran.run x.ran.among in
      let at : r.number ≡ i.number = f.once r.number i.number (record { lane = l; number = x.number }) (r.origin ∙ ap (λ n. Some (record { lane = l; number = n })) x.ran.of_request) i.origin in
      record {
        number = i.number;
        place = x.place;
        request = x.request;
        carried = record { write = x.carried.write; sent = i.sent; stands = x.carried.stands; same = x.carried.same };
        says = x.says;
        ran = record { run = record { request = r.number; place = x.ran.run.place; outcome = x.ran.run.outcome }; among = r.among; of_request = at; of_place = x.ran.of_place; status = x.ran.status; error = x.ran.error };
      }

  count_all : (w : Write) → lane_of (document_of w.key) ≡ l → count (carries w) s.sent ≡ count (carries w) (requests_at s l)
  count_all w el = f.counted w (carries w) (λ q t. t) ∙ ap (λ n. count (carries w) (requests_at s n)) el

  tries_all : (w : Write) → lane_of (document_of w.key) ≡ l → count (is_try w) s.sent ≡ count (is_try w) (requests_at s l)
  tries_all w el = f.counted w (is_try w) (λ q t. and_left _ _ t) ∙ ap (λ n. count (is_try w) (requests_at s n)) el

  cause_all : (max : ℕ) (w : Write) → lane_of (document_of w.key) ≡ l → (e : Cause) → IsTrueOf max own w e → IsTrueOf max (outside_of lane_of s) w e
  cause_all max w el (cause.Refused status kind reason) h = record { outcome = h.outcome; answered = answered_all w h.outcome h.answered; refused = h.refused; status_is = h.status_is; kind_is = h.kind_is; reason_is = h.reason_is }
  cause_all max w el (cause.Request status reason) h =
      let i = global h.number h.request h.carried.sent in
      record { number = i.number; place = h.place; request = h.request; carried = record { write = h.carried.write; sent = i.sent; stands = h.carried.stands; same = h.carried.same }; given = h.given; answer = h.answer; reason_is = h.reason_is; final = h.final }
  cause_all max w el (cause.Conflict stored reason) h = record { outcome = h.outcome; answered = answered_all w h.outcome h.answered; conflict = h.conflict; stored_is = h.stored_is; reason_is = h.reason_is; other = ⊎_elim (λ n. inl (count_all w el ∙ n)) (λ o. inr o) h.other }
  cause_all max w el (cause.GaveUp n tried) h = record {
    exactly = count_all w el ∙ h.exactly;
    enough = let e = tries_all w el in let n = h.enough in omega (arith, e, n);
    each = λ i place q k. let x = local w el i place q k in h.each x.number place q x.carried;
  }
  cause_all max w el cause.Spent h = h

  pub true_all : (t : Terms) (o : Op) → lane_of (document_of o.key) ≡ l → (d : Option ℕ) (e : Cause) → IsTrueCause t own o d e → IsTrueCause t (outside_of lane_of s) o d e
  true_all t o el d e h = ⊎_elim
      (λ x. inl (record { version = x.version; is_dealt = x.is_dealt; of_write = cause_all t.max (write_for o x.version) el e x.of_write }))
      (λ x. inr (record { cause_is = x.cause_is; never_sent = λ v y. count_all (write_for o v) el ∙ x.never_sent v y; over = x.over }))
      h

-- ---- what may happen outside all lanes may happen in the lane of its origin

module _ (g : Config) (lane_of : Document → ℕ) (past : ℕ → Past) (s : Together) (f : TogetherFacts g lane_of past s) where
  its_origin : (i : ℕ) (q : Request) → slice_get s.sent i ≡ Some q → (from : Origin) × (slice_get s.origins i ≡ Some from)
  its_origin i q e = let lt = at-within s.sent i q e in at_some s.origins i (let n = f.as_long in omega (arith, lt, n))

  may_run_there : (i place : ℕ) (outcome : RunOutcome) (from : Origin) → slice_get s.origins i ≡ Some from
      → MayRun (outside_of lane_of s) (record { request = i; place = place; outcome = outcome }) → MayAct g (RunsAt i place outcome from) s
  may_run_there i place outcome from origin may =
      let q = found_at (slice_get s.sent i) place may.write may.sent in
      let p = f.same i from origin in
      let eq : p.request ≡ q.0 = some_same p.request q.0 (sym p.here ∙ q.1) in
      let there : slice_get (requests_at s from.lane) from.number ≡ Some q.0 = p.there ∙ ap Some eq in
      let el = sent_lane g lane_of past s.lanes f.lanes from.lane may.write (sent_by (requests_at s from.lane) from.number q.0 may.write there (at-Mem q.0.writes place may.write q.2)) in (
        origin,
        record {
          write = may.write;
          sent = ap (λ x. option_and_then (λ z. slice_get (writes_of z) place) x) there ∙ q.2;
          outcome = subst (λ n. IsOutcomeOf ((s.lanes.lane n).outside.stored (document_of may.write.key)) may.write outcome) el may.outcome;
        },
      )

  run_there : (i place : ℕ) (from : Origin) (o : Outcome) → slice_get s.origins i ≡ Some from → WasRun s.runs i place o → WasRun (runs_at s from.lane) from.number place o
  run_there i place from o origin w =
      let b = f.back w.run w.among in
      let e : b.from ≡ from = some_same b.from from (sym b.origin ∙ ap (slice_get s.origins) w.of_request ∙ origin) in
      record {
        run = record { request = from.number; place = w.run.place; outcome = w.run.outcome };
        among = subst (λ (x : Origin). Mem (record { request = x.number; place = w.run.place; outcome = w.run.outcome }) (runs_at s x.lane)) e b.among;
        of_request = refl;
        of_place = w.of_place;
        status = w.status;
        error = w.error;
      }

  each_there : (i place : ℕ) (from : Origin) (os : List Outcome) → slice_get s.origins i ≡ Some from → EachWasRun s.runs i place os → EachWasRun (runs_at s from.lane) from.number place os
  each_there i place from [] origin w = tt
  each_there i place from (o ∷ os) origin w = (run_there i place from o origin w.0, each_there i (suc place) from os origin w.1)

  honest_there : (i : ℕ) (from : Origin) (ws : List Write) (a : Answer) → slice_get s.origins i ≡ Some from → IsHonest s.runs i ws a → IsHonest (runs_at s from.lane) from.number ws a
  honest_there i from ws Unanswered origin h = h
  honest_there i from ws (outside.Items os) origin h = λ m. each_there i 0 from os origin (h m)
  honest_there i from ws (outside.Whole status reason) origin h = h
  honest_there i from ws (outside.Lost why) origin h = h

  may_answer_there : (i : ℕ) (a : Answer) (old : ℕ → Bool) (from : Origin) → slice_get s.origins i ≡ Some from → MayAnswer (outside_of lane_of s) i a → MayAct g (AnswersAt i a old from) s
  may_answer_there i a old from origin may =
      let p = f.same i from origin in
      let eq : p.request ≡ may.request = some_same p.request may.request (sym p.here ∙ may.sent) in (
        origin,
        record { request = may.request; sent = p.there ∙ ap Some eq; open_yet = may.open_yet; honest = honest_there i from may.request.writes a origin may.honest },
      )

  pub happens_in_lanes : HappensInLanes g lane_of s
  happens_in_lanes = record { origin = its_origin; runs = may_run_there; answers = may_answer_there }
