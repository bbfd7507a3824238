-- What the calls of a lane note was answered so by each outside that explains these calls.
use Rattle.std.proofs.Common.{◌≡◌, ◌≢◌, ℕ, zero, suc, List, [], ◌∷◌, ◌++◌, Some, None, Bool, true, false, inl, inr, refl, sym, ap, ◌∙◌, subst, ⊎_elim, append-nil, append_assoc}
use Rattle.std.specs.Prelude.{◌⊎◌, ◌&&◌, is_some, option_map, slice_get, if◌then◌else◌}
use Rattle.relay_action.specs.Actions.{kind_of}
use Rattle.relay_action.specs.declared.action.ActionKind.{ActionKind}
use Rattle.relay_action.specs.declared.operation.Op.{Op}
use Rattle.relay_action.specs.declared.write.Write.{Write}
use Rattle.relay_results.specs.declared.outcome.Outcome.{Outcome}
use Rattle.relay_results.specs.Words.{Mem}
use Rattle.relay_results.specs.Numbers.{from_zero}
use Rattle.relay_results.specs.Documents.{name_of, write_for, is_delete}
use Rattle.relay_results.specs.Verdicts.{is_success, is_conflict}
use Rattle.relay_results.specs.Outside.{Answer, Unanswered, Request, Ran, Outside, IsHonest, MayRun, MayAnswer, after}
use Rattle.relay_results.specs.Outside as outside
use Rattle.relay_results.specs.Fates.{Fate, Flies, Applied, Already, Retried, Halved, Reported, Tries, HasEntry}
use Rattle.relay_results.proofs.Fates.{says_as, honest_entry}
use Rattle.relay_results.proofs.Lists.{Mem-left, Mem-one, Mem-cases, at-left, at-update_same, at-update_other, equal, some_same}
use Rattle.relay_results.proofs.Same.{same_write-self}
use Rattle.relay_results.proofs.Steps.{step_runs_item}
use Rattle.relay_delivery.specs.Causes.{IsAnswered}
use Rattle.relay_delivery.specs.Explained.{after_runs, AllMayRun, met, MayMeet, Explains}
use Rattle.relay_delivery.specs.Lane.{State, tries_in, held_of, writes_at, is_flying, FitsFrom}
use Rattle.relay_delivery.specs.Machine.{Config, Core, Held, CameAboutFrom, fate_of, write_of}
use Rattle.relay_delivery.specs.Reach.{Call, Takes, Ticks, Sends, Answers, call, MayCall, AllMayCall, taken_by, taken_in}
use Rattle.relay_delivery.proofs.Dealt.{with_answer}
use Rattle.relay_delivery.proofs.Facts.{Past, CoreFacts}
use Rattle.relay_delivery.proofs.Fates.{IsHere, away_or_here}
use Rattle.relay_delivery.proofs.Fitting.{take_from, clock_from, send_from, run_from, answer_from, flies_unanswered}
use Rattle.relay_core.specs.declared.success.Success.{Success}
use Rattle.relay_core.specs.Successes.{status_at, status_of, success_of, successes_from}
use Rattle.relay_threads.specs.Told.{IsOfTaken, noted_by, noted_in, status_told}

-- ---- an answer stays

answered_after : (r : Ran) (o : Outside) (w : Write) (e : Outcome) → MayRun o r → IsAnswered o w e → IsAnswered (after (outside.Runs r) o) w e
answered_after r o w e may x =
    let k = step_runs_item o (after (outside.Runs r) o) (record { run = r; may = may; reached = refl }) in
    record {
      number = x.number;
      place = x.place;
      request = x.request;
      carried = record { write = x.carried.write; sent = ap (λ qs. slice_get qs x.number) k.requests ∙ x.carried.sent; stands = x.carried.stands; same = x.carried.same };
      says = x.says;
      ran = record { run = x.ran.run; among = subst (Mem x.ran.run) (sym k.runs) (Mem-left x.ran.run o.runs (r ∷ []) x.ran.among); of_request = x.ran.of_request; of_place = x.ran.of_place; status = x.ran.status; error = x.ran.error };
    }

answered_runs : (rs : List Ran) (o : Outside) (w : Write) (e : Outcome) → AllMayRun rs o → IsAnswered o w e → IsAnswered (after_runs rs o) w e
answered_runs [] o w e may x = x
answered_runs (r ∷ rs) o w e may x = answered_runs rs (after (outside.Runs r) o) w e may.1 (answered_after r o w e may.0 x)

-- a request that has entries is not answered again
other_number : (o : Outside) (n m : ℕ) (q : Request) (a : Answer) (e : Outcome) (place : ℕ) → slice_get o.requests m ≡ Some q → HasEntry q.writes place q.answer e → MayAnswer o n a → m ≢ n
other_number o n m q a e place sent has may same =
    let is : may.request ≡ q = some_same may.request q (sym may.sent ∙ ap (slice_get o.requests) (sym same) ∙ sent) in
    let open_yet = ap (λ (z : Request). z.answer) (sym is) ∙ may.open_yet in
    absurd (cc (open_yet, has.answer))

answered_met : (c : Call) (o : Outside) (w : Write) (e : Outcome) → MayMeet c o → IsAnswered o w e → IsAnswered (met c o) w e
answered_met (Takes op bytes) o w e may x = x
answered_met (Ticks clock) o w e may x = x
answered_met (Sends chosen) o w e may x = record {
  number = x.number;
  place = x.place;
  request = x.request;
  carried = record { write = x.carried.write; sent = at-left o.requests _ x.number x.request x.carried.sent; stands = x.carried.stands; same = x.carried.same };
  says = x.says;
  ran = x.ran;
}
answered_met (Answers number a) o w e may x = record {
  number = x.number;
  place = x.place;
  request = x.request;
  carried = record {
    write = x.carried.write;
    sent = at-update_other (from_zero number) (λ q. record { writes = outside.writes_of q; answer = a }) o.requests x.number (other_number o (from_zero number) x.number x.request a e x.place x.carried.sent x.says may) ∙ x.carried.sent;
    stands = x.carried.stands;
    same = x.carried.same;
  };
  says = x.says;
  ran = x.ran;
}

answered_later : (cs : List Call) (o p : Outside) (w : Write) (e : Outcome) → Explains cs o p → IsAnswered o w e → IsAnswered p w e
answered_later [] o p w e x k = subst (λ z. IsAnswered z w e) (sym x.2) (answered_runs x.0 o w e x.1 k)
answered_later (c ∷ cs) o p w e x k = answered_later cs (met c (after_runs x.0 o)) p w e x.3 (answered_met c (after_runs x.0 o) w e x.2 (answered_runs x.0 o w e x.1 k))

-- ---- what is noted

-- a success is of an operation that was taken, and was answered so
pub record IsAnsweredAs (g : Config) (taken : List Op) (p : Outside) (x : Success) : Type 0 where
  pub of : IsOfTaken g taken x
  pub outcome : Outcome
  pub answered : IsAnswered p (write_for of.op x.version) outcome
  pub status : x.status ≡ status_told outcome.status

at_front : (xs ys : List Op) (place : ℕ) (o : Op) → slice_get xs place ≡ Some o → slice_get (xs ++ ys) place ≡ Some o
at_front [] ys place o e = absurd (cc)
at_front (x ∷ xs) ys zero o e = e
at_front (x ∷ xs) ys (suc n) o e = at_front xs ys n o e

-- it stays so, also when more is taken
later_as : (g : Config) (taken more : List Op) (cs : List Call) (o p : Outside) (x : Success) → Explains cs o p → IsAnsweredAs g taken o x → IsAnsweredAs g (taken ++ more) p x
later_as g taken more cs o p x explains k = record {
  of = record { op = k.of.op; place = k.of.place; was_taken = at_front taken more k.of.place k.of.op k.of.was_taken; name = k.of.name; version = k.of.version };
  outcome = k.outcome;
  answered = answered_later cs o p (write_for k.of.op x.version) k.outcome explains k.answered;
  status = k.status;
}

-- what is noted of one held operation: its request applied it, or an earlier one had
record IsNotedOf (allowed : ℕ → ℕ) (number : ℕ) (ws : List Write) (a : Answer) (x : Success) (h : Held) : Type 0 where
  name : x.name ≡ name_of h.op
  version : x.version ≡ h.version
  fate : ((fate_of allowed number ws a h h.flies ≡ Applied) × (x.status ≡ status_of ws a h.flies)) ⊎ ((fate_of allowed number ws a h h.flies ≡ Already) × (x.status ≡ None))

noted_of : (allowed : ℕ → ℕ) (number : ℕ) (ws : List Write) (a : Answer) (h : Held) (f : Fate) (x : Success) → fate_of allowed number ws a h h.flies ≡ f → Mem x (success_of f (status_of ws a h.flies) h) → IsNotedOf allowed number ws a x h
noted_of allowed number ws a h Flies x is m = elim m [ ]
noted_of allowed number ws a h Applied x is m =
    let e = Mem-one x (record { name = name_of h.op; version = h.version; status = status_of ws a h.flies }) m in
    record { name = ap (λ (z : Success). z.name) e; version = ap (λ (z : Success). z.version) e; fate = inl (is, ap (λ (z : Success). z.status) e) }
noted_of allowed number ws a h Already x is m =
    let e = Mem-one x (record { name = name_of h.op; version = h.version; status = None }) m in
    record { name = ap (λ (z : Success). z.name) e; version = ap (λ (z : Success). z.version) e; fate = inr (is, ap (λ (z : Success). z.status) e) }
noted_of allowed number ws a h Retried x is m = elim m [ ]
noted_of allowed number ws a h (Halved cap) x is m = elim m [ ]
noted_of allowed number ws a h (Reported cause) x is m = elim m [ ]

noted_among : (allowed : ℕ → ℕ) (number : ℕ) (ws : List Write) (a : Answer) (hs : List Held) (x : Success) → Mem x (successes_from allowed number ws a hs) → (h : Held) × Mem h hs × IsNotedOf allowed number ws a x h
noted_among allowed number ws a [] x m = elim m [ ]
noted_among allowed number ws a (h ∷ hs) x m = ⊎_elim
    (λ y. (h, inl refl, noted_of allowed number ws a h (fate_of allowed number ws a h h.flies) x refl y))
    (λ y. let r = noted_among allowed number ws a hs x y in (r.0, inr r.1, r.2))
    (Mem-cases x (success_of (fate_of allowed number ws a h h.flies) (status_of ws a h.flies) h) (successes_from allowed number ws a hs) m)

-- ---- the status

no_success : (kind : ActionKind) (e b : Bool) → is_delete kind ≡ b → is_success kind 409 e ≡ false
no_success kind true b is = refl
no_success kind false true is = ap (λ d. d && false) is
no_success kind false false is = ap (λ d. d && false) is

success_or_conflict : (kind : ActionKind) (status : ℕ) (e b : Bool) → is_conflict status ≡ b → is_success kind status e ≡ true → is_conflict status ≡ false
success_or_conflict kind status e false is s = is
success_or_conflict kind status e true is s =
    let at = ap (λ n. is_success kind n e) (equal status 409 is) in
    let no_one = no_success kind e (is_delete kind) refl in
    absurd (cc (s, at, no_one))

of_success : (kind : ActionKind) (status : ℕ) (e : Bool) → is_success kind status e ≡ true → Some status ≡ status_told status
of_success kind status e s = sym (ap (λ b. if b then None else Some status) (success_or_conflict kind status e (is_conflict status) refl s))

of_conflict : (status : ℕ) → is_conflict status ≡ true → None ≡ status_told status
of_conflict status c = sym (ap (λ b. if b then None else Some status) c)

-- the status of the entry at its place
entry_status : (ws : List Write) (place : ℕ) (a : Answer) (o : Outcome) → HasEntry ws place a o → status_at ws a place ≡ Some o.status
entry_status ws place a o e =
    ap (λ b. status_at ws b place) e.answer
    ∙ ap (λ b. if b then option_map (λ (z : Outcome). z.status) (slice_get e.entries place) else None) e.matching
    ∙ ap (option_map (λ (z : Outcome). z.status)) e.entry

-- ---- an answer

module _ (begin : Config → Core → Type 0) (past : Config → Past) (facts : (g : Config) (c : Core) → CameAboutFrom begin g c → CoreFacts g (past g) c) where
  answered_now : (s : State) (taken : List Op) (o : Outside) (number : ℕ) (a : Answer) → is_flying number s ≡ true → MayAnswer o (from_zero number) a → FitsFrom begin s taken o → (x : Success) → Mem x (noted_by (Answers number a) s) → IsAnsweredAs s.config taken (met (Answers number a) o) x
  answered_now s taken o number a flies may f x m =
      let g = s.config in
      let allowed = tries_in s in
      let n = from_zero number in
      let ws = writes_at n s.flying in
      let q : Request = record { writes = ws; answer = Unanswered } in
      let found = noted_among allowed n ws a (held_of s.held) x m in
      let h = found.0 in
      let c = f.core in
      let is_in : Mem h c.held = subst (Mem h) f.is_of.held found.1 in
      let fact = (facts g c f.came_about).held h is_in in
      let here : slice_get o.requests n ≡ Some q = ap (λ (z : Outside). slice_get z.requests n) (sym f.outside) ∙ flies_unanswered s c number flies f.is_of in
      let same : may.request ≡ q = some_same may.request q (sym may.sent ∙ here) in
      let honest : IsHonest o.runs n ws a = subst (λ (z : Request). IsHonest o.runs n z.writes a) same may.honest in
      let of : IsOfTaken g taken x = record { op = h.op; place = fact.dealt.place; was_taken = subst (λ ops. slice_get ops fact.dealt.place ≡ Some h.op) f.took fact.dealt.stands; name = found.2.name; version = found.2.version ∙ fact.dealt.version } in
      let answered : (w : IsHere allowed n ws a h) (e : Outcome) → HasEntry ws w.place a e → IsAnswered (met (Answers number a) o) (write_for h.op x.version) e = λ w e has.
      let flying = fact.flying (record { request = n; place = w.place }) w.flies in
      let its : flying.request ≡ q = some_same flying.request q (sym flying.sent ∙ ap (λ (z : Outside). slice_get z.requests n) f.outside ∙ here) in
      subst (λ v. IsAnswered (met (Answers number a) o) (write_for h.op v) e) (sym found.2.version) (record {
        number = n;
        place = w.place;
        request = with_answer a q;
        carried = record {
          write = write_of h;
          sent = at-update_same n (with_answer a) o.requests q here;
          stands = subst (λ (z : Request). slice_get z.writes w.place ≡ Some (write_of h)) its flying.stands;
          same = same_write-self (write_of h);
        };
        says = has;
        ran = honest_entry o.runs n w.place ws a e honest has;
      }) in
      let tries : Tries = record { version = h.version; sends = h.sends; attempts = h.attempts; max = allowed h.version } in
      ⊎_elim {C = IsAnsweredAs g taken (met (Answers number a) o) x}
      (λ y. ⊎_elim {C = IsAnsweredAs g taken (met (Answers number a) o) x}
      (λ w. let stays = w.stays in let e = y.0 in absurd (cc (e, stays)))
      (λ w.
      let says = says_as tries ws w.place (kind_of h.op.action) a Applied (sym w.fate_is ∙ y.0) in
      record {
        of = of;
        outcome = says.0;
        answered = answered w says.0 says.1;
        status = y.1 ∙ ap (status_of ws a) w.flies ∙ entry_status ws w.place a says.0 says.1 ∙ of_success (kind_of h.op.action) says.0.status (is_some says.0.error) says.2;
      })
      (away_or_here allowed n ws a h))
      (λ y. ⊎_elim {C = IsAnsweredAs g taken (met (Answers number a) o) x}
      (λ w. let stays = w.stays in let e = y.0 in absurd (cc (e, stays)))
      (λ w.
      let says = (says_as tries ws w.place (kind_of h.op.action) a Already (sym w.fate_is ∙ y.0)).1 in
      record {
        of = of;
        outcome = says.0;
        answered = answered w says.0 says.1;
        status = y.1 ∙ of_conflict says.0.status says.2;
      })
      (away_or_here allowed n ws a h))
      found.2.fate

  -- ---- calls one after another

  runs_fit : (rs : List Ran) (s : State) (taken : List Op) (o : Outside) → AllMayRun rs o → FitsFrom begin s taken o → FitsFrom begin s taken (after_runs rs o)
  runs_fit [] s taken o may f = f
  runs_fit (r ∷ rs) s taken o may f = runs_fit rs s taken (after (outside.Runs r) o) may.1 (run_from begin s r taken o may.0 f)

  call_fits : (c : Call) (s : State) (taken : List Op) (o : Outside) → MayCall c s → MayMeet c o → FitsFrom begin s taken o → FitsFrom begin (call c s) (taken ++ taken_by c) (met c o)
  call_fits (Takes op bytes) s taken o may meets f = take_from begin s op bytes taken o f
  call_fits (Ticks clock) s taken o may meets f = subst (λ ops. FitsFrom begin (call (Ticks clock) s) ops o) (sym (append-nil taken)) (clock_from begin s clock taken o f)
  call_fits (Sends chosen) s taken o may meets f =
      subst (λ ops. FitsFrom begin (call (Sends chosen) s) ops (met (Sends chosen) o)) (sym (append-nil taken))
      (send_from begin s chosen taken o may.0 may.1 f (facts s.config f.core f.came_about).in_rise)
  call_fits (Answers number a) s taken o may meets f =
      subst (λ ops. FitsFrom begin (call (Answers number a) s) ops (met (Answers number a) o)) (sym (append-nil taken)) (answer_from begin s number a taken o may.0 meets f)

  answered_by : (c : Call) (s : State) (taken : List Op) (o : Outside) → MayCall c s → MayMeet c o → FitsFrom begin s taken o → (x : Success) → Mem x (noted_by c s) → IsAnsweredAs s.config taken (met c o) x
  answered_by (Takes op bytes) s taken o may meets f x m = elim m [ ]
  answered_by (Ticks clock) s taken o may meets f x m = elim m [ ]
  answered_by (Sends chosen) s taken o may meets f x m = elim m [ ]
  answered_by (Answers number a) s taken o may meets f x m = answered_now s taken o number a may.0 meets f x m

  same_config : (c : Call) (s : State) → (call c s).config ≡ s.config
  same_config (Takes op bytes) s = refl
  same_config (Ticks clock) s = refl
  same_config (Sends chosen) s = refl
  same_config (Answers number a) s = refl

  pub answered_in : (cs : List Call) (s : State) (taken : List Op) (o p : Outside) → AllMayCall cs s → Explains cs o p → FitsFrom begin s taken o → (x : Success) → Mem x (noted_in cs s) → IsAnsweredAs s.config (taken ++ taken_in cs) p x
  answered_in [] s taken o p may e f x m = elim m [ ]
  answered_in (c ∷ cs) s taken o p may e f x m =
      let q = after_runs e.0 o in
      let f' = runs_fit e.0 s taken o e.1 f in
      ⊎_elim {C = IsAnsweredAs s.config (taken ++ (taken_by c ++ taken_in cs)) p x}
      (λ y. later_as s.config taken (taken_by c ++ taken_in cs) cs (met c q) p x e.3 (answered_by c s taken q may.0 e.2 f' x y))
      (λ y. subst (λ (z : Config × List Op). IsAnsweredAs z.0 z.1 p x) (λ i. (same_config c s i, append_assoc taken (taken_by c) (taken_in cs) i))
      (answered_in cs (call c s) (taken ++ taken_by c) (met c q) p may.1 e.3 (call_fits c s taken q may.0 e.2 f') x y))
      (Mem-cases x (noted_by c s) (noted_in cs (call c s)) m)
