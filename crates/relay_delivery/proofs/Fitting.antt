-- Each call of a lane is a step of its core.
use Rattle.std.proofs.Common.{◌≡◌, ◌≢◌, ℕ, ◌+◌, ◌-◌, ◌≤◌, List, [], ◌∷◌, ◌++◌, length, Option, Some, None, Bool, true, false, ◌==◌, refl, sym, ap, ◌∙◌, subst, ⊎_elim, inl, inr, arith, length-append}
use Rattle.std.specs.Prelude.{slice_get, nat_lt, nat_le, ◌&&◌, ◌||◌, map, if◌then◌else◌}
use Rattle.std.specs.List.{list_any}
use Rattle.std.proofs.lemmas.List.{map-append, length-map}
use Rattle.relay_results.specs.Numbers.{from_zero}
use borrow.Author.Tests.{ltb-false}
use Rattle.relay_action.specs.declared.write.Write.{Write}
use Rattle.relay_action.specs.declared.operation.Op.{Op}
use Rattle.relay_results.specs.Words.{Mem, IsSubsequence, AllDistinct}
use Rattle.relay_results.specs.Documents.{document_of, same_document, name_of}
use Rattle.relay_results.specs.Outside.{Answer, Unanswered, Request, Ran, Outside, IsOpening, IsHonest, MayRun, MayAnswer, after}
use Rattle.relay_results.specs.Outside as outside
use Rattle.relay_results.specs.Fates.{Fate, Flies, Applied, Already, Retried, Halved, Reported}
use Rattle.relay_results.proofs.Same.{same_document-self}
use Rattle.relay_results.proofs.Steps.{step_runs_item}
use Rattle.relay_delivery.specs.Machine.{Config, Core, Held, Place, Step, Takes, Sends, Runs, Answers, write_of, held_if, spent_if, after_launch, fate_of, kept_one, still_held, reports_from, how_many, is_applied_fate, is_already_fate, writes_or, step, KeepsCaps, IsEligible, MaySend, MayStep, IsNew, IsFresh, CameAboutFrom}
use Rattle.relay_delivery.specs.Lane.{tries_in, old_in, Entry, Flying, State, held_of, entry_if, taken_op, waits, is_candidate, candidates, launched_entry, writes_of_all, after_request_of, kept_entry, kept_entries, is_other, after_settling, IsOf, writes_at, is_flying, after_answer_to, FitsFrom, Fits, fresh_state, FreshFits, ClockFits, TakeFits, SendFits, RunFits, AnswerFits, EndedIsApplied, SoundWhereItFits, CompleteWhereItFits, TotalWhereItFits, WritesWhereItFits, EarliestWhereItFits, OneFliesWhereItFits, tries_of, SendTakesTry, AnswerGivesNoTry}
use Rattle.relay_delivery.specs.Delivery.{HasDistinctNames, applied_ops, IsSound, IsComplete, IsDealtWrite}
use Rattle.relay_delivery.specs.Bound.{tries_left}
use Rattle.relay_delivery.proofs.Bounded.{within_tries_left, left-kept, all_tries}
use Rattle.relay_delivery.proofs.Earliest.{earliest_flies, one_flies}
use Rattle.relay_results.proofs.Lists.{true_or_false, and_left, and_right, and_both, not_true, equal_test, some_same, any_false, at-left, at-last, at-update_other, Mem-cases, Mem-one, Mem-map, map-Mem, Mem-filter, sub_joined, filter_sub, Mem-sub, AllDistinct-sub, sub-map, length-update, equal}
use Rattle.relay_delivery.proofs.Facts.{Past, TellsOwn, AreRising, CoreFacts}
use Rattle.relay_delivery.proofs.Dealt.{with_answer}
use Rattle.relay_delivery.proofs.Keeps.{none_past, tells_none, facts_of}
use Rattle.relay_delivery.proofs.Answer.{ended, no_unanswered}
use Rattle.relay_delivery.proofs.Whole.{sound, complete, step_from, writes_are_dealt}

-- one more step
next : (begin : Config → Core → Type 0) (s s' : State) (taken taken' : List Op) (out out' : Outside) (f : FitsFrom begin s taken out) (st : Step) → s'.config ≡ s.config → MayStep st f.core
    → IsOf s' (step s.config st f.core) → (step s.config st f.core).taken ≡ taken' → (step s.config st f.core).outside ≡ out' → FitsFrom begin s' taken' out'
next begin s s' taken taken' out out' f st same may is took outside_is = record {
  core = step s.config st f.core;
  came_about = subst (λ g. CameAboutFrom begin g (step s.config st f.core)) (sym same) (step_from begin s.config f.core st f.came_about may);
  is_of = is;
  took = took;
  outside = outside_is;
}

-- ---- take

pub held_new : (b : Bool) (s : State) (o : Op) (bytes : ℕ) → held_of (entry_if b s o bytes) ≡ held_if b s.config s.taken o
held_new true s o bytes = refl
held_new false s o bytes = refl

pub take_is_of : (s : State) (c : Core) (o : Op) (bytes : ℕ) → IsOf s c → IsOf (taken_op s o bytes) (step s.config (Takes o) c)
take_is_of s c o bytes is = record {
  taken = ap (λ n. n + 1) is.taken ∙ sym (length-append c.taken (o ∷ []));
  held = map-append (λ (e : Entry). e.held) s.held (entry_if (nat_lt s.taken s.config.deals) s o bytes)
      ∙ ap (λ xs. held_of s.held ++ xs) (held_new (nat_lt s.taken s.config.deals) s o bytes)
      ∙ (λ i. is.held i ++ held_if (nat_lt (is.taken i) s.config.deals) s.config (is.taken i) o);
  reports = λ i. is.reports i ++ spent_if (nat_lt (is.taken i) s.config.deals) o;
  applied = is.applied;
  already = is.already;
  requests = is.requests;
  flying = is.flying;
}

pub take_from : (begin : Config → Core → Type 0) (s : State) (o : Op) (bytes : ℕ) (taken : List Op) (out : Outside) → FitsFrom begin s taken out → FitsFrom begin (taken_op s o bytes) (taken ++ o ∷ []) out
take_from begin s o bytes taken out f =
    next begin s (taken_op s o bytes) taken (taken ++ o ∷ []) out out f (Takes o) refl tt (take_is_of s f.core o bytes f.is_of) (ap (λ os. os ++ o ∷ []) f.took) f.outside

pub take_fits : TakeFits
take_fits s o bytes taken out f = take_from IsFresh s o bytes taken out f

-- ---- request

waits_none : (p : Option Place) → waits p ≡ true → p ≡ None
waits_none None t = refl
waits_none (Some f) t = absurd (cc)

distinct_versions : (hs : List Held) → AreRising hs → AllDistinct (map (λ (h : Held). h.version) hs)
distinct_versions [] r = tt
distinct_versions (h ∷ hs) r = (
  (λ m. let k = Mem-map (λ (x : Held). x.version) h.version hs m in let lt = r.0 k.0 k.1 in let e = k.2 in omega (arith, lt, e)),
  distinct_versions hs r.1,
)

module _ (s : State) (chosen : List Entry) (part : IsSubsequence chosen (candidates s)) where
  pub among : IsSubsequence (held_of chosen) (held_of s.held)
  among = sub-map (λ (e : Entry). e.held) chosen s.held (sub_joined chosen (candidates s) s.held part (filter_sub (is_candidate s) s.held))

  pub eligible_here : (h : Held) → Mem h (held_of chosen) → IsEligible (held_of s.held) h
  eligible_here h m =
      let e = Mem-map (λ (x : Entry). x.held) h chosen m in
      let t = (Mem-filter (is_candidate s) e.0 s.held (Mem-sub e.0 chosen (candidates s) part e.1)).1 in
      let w = and_left _ _ t in
      let n = not_true _ (and_right (nat_le e.0.due s.clock) _ (and_right (waits e.0.held.flies) _ t)) in
      record {
        is_held = Mem-sub h (held_of chosen) (held_of s.held) among m;
        waits = ap (λ (x : Held). x.flies) e.2 ∙ waits_none e.0.held.flies w;
        first = λ j mj doc.
            let no = any_false (λ (x : Held). same_document (document_of x.op.key) (document_of e.0.held.op.key) && nat_lt x.version e.0.held.version) j (held_of s.held) n mj in
            let doc' : document_of j.op.key ≡ document_of e.0.held.op.key = doc ∙ ap (λ (x : Held). document_of x.op.key) e.2 in
            let d : same_document (document_of j.op.key) (document_of e.0.held.op.key) ≡ true = ap (same_document (document_of j.op.key)) (sym doc') ∙ same_document-self (document_of j.op.key) in
            let v = ap (λ (x : Held). x.version) e.2 in
            ⊎_elim {C = h.version ≤ j.version}
            (λ lt. absurd (cc (and_both _ _ d lt, no)))
            (λ ge. let le = ltb-false _ _ ge in omega (arith, v, le))
            (true_or_false (nat_lt j.version e.0.held.version));
      }

  pub distinct_here : AreRising (held_of s.held) → AllDistinct (map (λ (h : Held). h.version) (held_of chosen))
  distinct_here rising = AllDistinct-sub (map (λ (h : Held). h.version) (held_of chosen)) (map (λ (h : Held). h.version) (held_of s.held)) (distinct_versions (held_of s.held) rising)
      (sub-map (λ (h : Held). h.version) (held_of chosen) (held_of s.held) among)

module _ (s : State) (c : Core) (chosen : List Entry) (part : IsSubsequence chosen (candidates s)) (within : KeepsCaps (held_of chosen)) (is : IsOf s c) where
  may_send_rising : AreRising c.held → MaySend c (held_of chosen)
  may_send_rising rising = record {
    eligible = λ h m. subst (λ hs. IsEligible hs h) is.held (eligible_here s chosen part h m);
    distinct = distinct_here s chosen part (subst (λ hs. AreRising hs) (sym is.held) rising);
    caps = within;
  }

pub may_send : (past : Past) (s : State) (c : Core) (chosen : List Entry) → IsSubsequence chosen (candidates s) → KeepsCaps (held_of chosen) → IsOf s c → CoreFacts s.config past c → MaySend c (held_of chosen)
may_send past s c chosen part within is facts = may_send_rising s c chosen part within is facts.in_rise

pub held_launched : (clock n : ℕ) (hs : List Held) (es : List Entry) → held_of (map (launched_entry clock n hs) es) ≡ map (after_launch n hs) (held_of es)
held_launched clock n hs [] = refl
held_launched clock n hs (e ∷ es) = ap (λ xs. after_launch n hs e.held ∷ xs) (held_launched clock n hs es)

pub send_is_of : (s : State) (c : Core) (chosen : List Entry) → IsOf s c → IsOf (after_request_of s chosen) (step s.config (Sends (held_of chosen)) c)
send_is_of s c chosen is =
    let new : Request = record { writes = writes_of_all chosen; answer = Unanswered } in
    record {
      taken = is.taken;
      held = held_launched s.clock s.requests (held_of chosen) s.held ∙ (λ i. map (after_launch (is.requests i) (held_of chosen)) (is.held i));
      reports = is.reports;
      applied = is.applied;
      already = is.already;
      requests = ap (λ n. n + 1) is.requests ∙ sym (length-append c.outside.requests (new ∷ []));
      flying = λ x m. ⊎_elim
          (λ old. at-left c.outside.requests (new ∷ []) x.request (record { writes = x.writes; answer = Unanswered }) (is.flying x old))
          (λ one.
          let e = Mem-one x (record { request = s.requests; writes = writes_of_all chosen }) one in
          let n : x.request ≡ length c.outside.requests = ap (λ (z : Flying). z.request) e ∙ is.requests in
          ap (slice_get (c.outside.requests ++ new ∷ [])) n
          ∙ at-last c.outside.requests new
          ∙ ap (λ (z : Flying). Some (record { writes = z.writes; answer = Unanswered })) (sym e))
          (Mem-cases x s.flying (record { request = s.requests; writes = writes_of_all chosen } ∷ []) m);
    }

pub send_from : (begin : Config → Core → Type 0) (s : State) (chosen : List Entry) (taken : List Op) (out : Outside) → IsSubsequence chosen (candidates s) → KeepsCaps (held_of chosen) → (f : FitsFrom begin s taken out)
    → AreRising f.core.held → FitsFrom begin (after_request_of s chosen) taken (after (outside.Sends (writes_of_all chosen)) out)
send_from begin s chosen taken out part within f rising =
    next begin s (after_request_of s chosen) taken taken out (after (outside.Sends (writes_of_all chosen)) out) f (Sends (held_of chosen)) refl
    (may_send_rising s f.core chosen part within f.is_of rising) (send_is_of s f.core chosen f.is_of) f.took
    (ap (after (outside.Sends (writes_of_all chosen))) f.outside)

pub send_fits : SendFits
send_fits s chosen taken out part within f = send_from IsFresh s chosen taken out part within f (facts_of s.config f.core f.came_about).in_rise

-- ---- runs

pub run_is_of : (s : State) (c : Core) (r : Ran) → MayRun c.outside r → IsOf s c → IsOf s (step s.config (Runs r) c)
run_is_of s c r may is =
    let same : (after (outside.Runs r) c.outside).requests ≡ c.outside.requests = (step_runs_item c.outside (after (outside.Runs r) c.outside) (record { run = r; may = may; reached = refl })).requests in
    record {
      taken = is.taken;
      held = is.held;
      reports = is.reports;
      applied = is.applied;
      already = is.already;
      requests = is.requests ∙ ap length (sym same);
      flying = λ x m. ap (λ rs. slice_get rs x.request) same ∙ is.flying x m;
    }

pub run_from : (begin : Config → Core → Type 0) (s : State) (r : Ran) (taken : List Op) (out : Outside) → MayRun out r → FitsFrom begin s taken out → FitsFrom begin s taken (after (outside.Runs r) out)
run_from begin s r taken out may f =
    let may' : MayRun f.core.outside r = subst (λ o. MayRun o r) (sym f.outside) may in
    next begin s s taken taken out (after (outside.Runs r) out) f (Runs r) refl may' (run_is_of s f.core r may' f.is_of) f.took (ap (after (outside.Runs r)) f.outside)

pub run_fits : RunFits
run_fits s r taken out may f = run_from IsFresh s r taken out may f

-- ---- reply, whole, lost

held_kept_one : (clock : ℕ) (t : Fate) (e : Entry) → held_of (kept_entry clock t e) ≡ kept_one t e.held
held_kept_one clock Flies e = refl
held_kept_one clock Applied e = refl
held_kept_one clock Already e = refl
held_kept_one clock Retried e = refl
held_kept_one clock (Halved cap) e = refl
held_kept_one clock (Reported cause) e = refl

pub held_kept : (allowed : ℕ → ℕ) (clock number : ℕ) (ws : List Write) (a : Answer) (es : List Entry) → held_of (kept_entries allowed clock number ws a es) ≡ still_held allowed number ws a (held_of es)
held_kept allowed clock number ws a [] = refl
held_kept allowed clock number ws a (e ∷ es) =
    map-append (λ (x : Entry). x.held) (kept_entry clock (fate_of allowed number ws a e.held e.held.flies) e) (kept_entries allowed clock number ws a es)
    ∙ (λ i. held_kept_one clock (fate_of allowed number ws a e.held e.held.flies) e i ++ held_kept allowed clock number ws a es i)

-- an answer to a request in flight, counted from 0, that carried these writes
settle_is_of : (s : State) (c : Core) (number : ℕ) (ws : List Write) (a : Answer) → Mem (record { request = number; writes = ws }) s.flying → IsOf s c → IsOf (after_settling s number ws a) (step s.config (Answers number a (old_in s)) c)
settle_is_of s c number ws a flies is =
    let here : ws ≡ writes_or (slice_get c.outside.requests number) = sym (ap writes_or (is.flying (record { request = number; writes = ws }) flies)) in
    record {
      taken = is.taken;
      held = held_kept (tries_in s) s.clock number ws a s.held ∙ (λ i. still_held (tries_in s) number (here i) a (is.held i));
      reports = λ i. is.reports i ++ reports_from (tries_in s) number (here i) a (is.held i);
      applied = λ i. is.applied i + how_many is_applied_fate (tries_in s) number (here i) a (is.held i);
      already = λ i. is.already i + how_many is_already_fate (tries_in s) number (here i) a (is.held i);
      requests = is.requests ∙ sym (length-update number (with_answer a) c.outside.requests);
      flying = λ x m.
          let y = Mem-filter (is_other number) x s.flying m in
          let ne : x.request ≢ number = λ e. cc (equal_test x.request number e, not_true (x.request == number) y.1) in
          at-update_other number (with_answer a) c.outside.requests x.request ne ∙ is.flying x y.0;
    }

-- what flies has its writes
flies_at : (xs : List Flying) (n : ℕ) → list_any (λ (x : Flying). x.request + 1 == n) xs ≡ true → Mem (record { request = n - 1; writes = writes_at (n - 1) xs }) xs
flies_at [] n t = absurd (cc)
flies_at (x ∷ xs) n t = ⊎_elim {C = Mem (record { request = n - 1; writes = writes_at (n - 1) (x ∷ xs) }) (x ∷ xs)}
    (λ u. inl (λ i. record { request = sym (equal x.request (n - 1) u) i; writes = (if u i then x.writes else writes_at (n - 1) xs) }))
    (λ u.
    let ne : (x.request + 1 == n) ≡ false = ⊎_elim {C = (x.request + 1 == n) ≡ false} (λ v. let q = equal (x.request + 1) n v in let k = equal_test x.request (n - 1) (omega (arith, q)) in absurd (cc)) (λ v. v) (true_or_false (x.request + 1 == n)) in
    let rest : list_any (λ (y : Flying). y.request + 1 == n) xs ≡ true = ap (λ b. b || list_any (λ (y : Flying). y.request + 1 == n) xs) (sym ne) ∙ t in
    inr (subst (λ ws. Mem (record { request = n - 1; writes = ws }) xs) (sym (ap (λ b. if b then x.writes else writes_at (n - 1) xs) u)) (flies_at xs n rest)))
    (true_or_false (x.request == n - 1))

-- a request in flight was not answered
pub flies_unanswered : (s : State) (c : Core) (number : ℕ) → is_flying number s ≡ true → IsOf s c
    → slice_get c.outside.requests (from_zero number) ≡ Some (record { writes = writes_at (from_zero number) s.flying; answer = Unanswered })
flies_unanswered s c number flies is = is.flying (record { request = from_zero number; writes = writes_at (from_zero number) s.flying }) (flies_at s.flying number flies)

pub answer_is_of : (s : State) (c : Core) (number : ℕ) (a : Answer) → is_flying number s ≡ true → IsOf s c → IsOf (after_answer_to s number a) (step s.config (Answers (from_zero number) a (old_in s)) c)
answer_is_of s c number a flies is = settle_is_of s c (from_zero number) (writes_at (from_zero number) s.flying) a (flies_at s.flying number flies) is

pub answer_from : (begin : Config → Core → Type 0) (s : State) (number : ℕ) (a : Answer) (taken : List Op) (out : Outside) → is_flying number s ≡ true → MayAnswer out (from_zero number) a → FitsFrom begin s taken out
    → FitsFrom begin (after_answer_to s number a) taken (after (outside.Answers (from_zero number) a) out)
answer_from begin s number a taken out flies may f =
    let may' : MayAnswer f.core.outside (from_zero number) a = subst (λ o. MayAnswer o (from_zero number) a) (sym f.outside) may in
    next begin s (after_answer_to s number a) taken taken out (after (outside.Answers (from_zero number) a) out) f (Answers (from_zero number) a (old_in s)) refl may'
    (answer_is_of s f.core number a flies f.is_of) f.took (ap (after (outside.Answers (from_zero number) a)) f.outside)

pub answer_fits : AnswerFits
answer_fits s number a taken out flies may f = answer_from IsFresh s number a taken out flies may f

pub ended_where : EndedIsApplied
ended_where s number a taken out flies may f h m t =
    let c = f.core in
    let n = from_zero number in
    let q : Request = record { writes = writes_at n s.flying; answer = Unanswered } in
    let here = flies_unanswered s c number flies f.is_of in
    let may' : MayAnswer c.outside n a = subst (λ o. MayAnswer o n a) (sym f.outside) may in
    let same : may'.request ≡ q = some_same may'.request q (sym may'.sent ∙ here) in
    let honest : IsHonest c.outside.runs n q.writes a = subst (λ (z : Request). IsHonest c.outside.runs n z.writes a) same may'.honest in
    subst (λ (o : Outside). Mem (write_of h) (o.applied (document_of h.op.key))) f.outside
    (ended s.config (none_past s.config) c (facts_of s.config c f.came_about) n q here refl a (no_unanswered c.outside.runs n q.writes a honest) honest (old_in s) (tells_none s.config c) h (subst (Mem h) f.is_of.held m) t)

-- ---- at the start, and what is promised

-- a lane that took nothing, beside an outside in which nothing was sent
abbrev pub new_core : Outside → Core
new_core out = record { taken = []; held = []; reports = []; applied = 0; already = 0; outside = out }

pub new_is_new : (out : Outside) → IsOpening out → IsNew (new_core out)
new_is_new out opening = record { taken = refl; held = refl; reports = refl; applied = refl; already = refl; opening = opening }

pub fresh_from : (begin : Config → Core → Type 0) (g : Config) (out : Outside) → IsOpening out → begin g (new_core out) → FitsFrom begin (fresh_state g) [] out
fresh_from begin g out opening fresh = record {
  core = new_core out;
  came_about = record { start = new_core out; fresh = fresh; steps = []; may = tt; reached = refl };
  is_of = record { taken = refl; held = refl; reports = refl; applied = refl; already = refl; requests = sym (ap length opening.requests); flying = λ x m. absurd m };
  took = refl;
  outside = refl;
}

pub fresh_fits : FreshFits
fresh_fits g out opening below = fresh_from IsFresh g out opening (record { new = new_is_new out opening; below = below })

pub clock_from : (begin : Config → Core → Type 0) (s : State) (clock : ℕ) (taken : List Op) (out : Outside) → FitsFrom begin s taken out → FitsFrom begin (record s { clock = clock }) taken out
clock_from begin s clock taken out f =
    let is = f.is_of in
    record {
      core = f.core;
      came_about = f.came_about;
      is_of = record { taken = is.taken; held = is.held; reports = is.reports; applied = is.applied; already = is.already; requests = is.requests; flying = is.flying };
      took = f.took;
      outside = f.outside;
    }

pub clock_fits : ClockFits
clock_fits s clock taken out f = clock_from IsFresh s clock taken out f

pub sound_from : (begin : Config → Core → Type 0) (past : Config → Past) → ((g : Config) (w : Write) → (past g).writes w → ⊥) → (s : State) (taken : List Op) (out : Outside) (f : FitsFrom begin s taken out)
    → CoreFacts s.config (past s.config) f.core → HasDistinctNames taken → IsSound s.config taken s.reports out (applied_ops s.config taken out)
sound_from begin past nothing s taken out f facts distinct =
    let c = f.core in
    let d = subst (λ os. AllDistinct (map name_of os)) (sym f.took) distinct in
    subst (λ os. IsSound s.config os s.reports out (applied_ops s.config os out)) f.took
    (subst (λ o. IsSound s.config c.taken s.reports o (applied_ops s.config c.taken o)) f.outside
    (subst (λ rs. IsSound s.config c.taken rs c.outside (applied_ops s.config c.taken c.outside)) (sym f.is_of.reports) (sound s.config (past s.config) (nothing s.config) c facts d)))

pub sound_where : SoundWhereItFits
sound_where s taken out f distinct = sound_from IsFresh none_past (λ g w m. m) s taken out f (facts_of s.config f.core f.came_about) distinct

pub complete_from : (begin : Config → Core → Type 0) (past : Config → Past) → ((g : Config) (w : Write) → (past g).writes w → ⊥) → (s : State) (taken : List Op) (out : Outside) (f : FitsFrom begin s taken out)
    → CoreFacts s.config (past s.config) f.core → TellsOwn s.config (past s.config) f.core.outside.runs → HasDistinctNames taken → s.held ≡ [] → IsComplete taken s.reports (applied_ops s.config taken out)
complete_from begin past nothing s taken out f facts tells distinct none =
    let c = f.core in
    let d = subst (λ os. AllDistinct (map name_of os)) (sym f.took) distinct in
    subst (λ os. IsComplete os s.reports (applied_ops s.config os out)) f.took
    (subst (λ o. IsComplete c.taken s.reports (applied_ops s.config c.taken o)) f.outside
    (subst (λ rs. IsComplete c.taken rs (applied_ops s.config c.taken c.outside)) (sym f.is_of.reports) (complete s.config (past s.config) (nothing s.config) c facts d tells (sym f.is_of.held ∙ ap held_of none))))

pub complete_where : CompleteWhereItFits
complete_where s taken out f distinct none = complete_from IsFresh none_past (λ g w m. m) s taken out f (facts_of s.config f.core f.came_about) (tells_none s.config f.core) distinct none

pub total_where : TotalWhereItFits
total_where s taken out f =
    let facts = facts_of s.config f.core f.came_about in
    let t = facts.totals in
    let h = length-map s.held (λ (e : Entry). e.held) in
    let hs = ap length f.is_of.held in
    let r = ap length f.is_of.reports in
    let a = f.is_of.applied in
    let b = f.is_of.already in
    let n = f.is_of.taken in (
      n ∙ ap length f.took,
      f.is_of.requests ∙ ap (λ (o : Outside). length o.requests) f.outside,
      omega (arith, t, h, hs, r, a, b, n),
    )

-- ---- what flies

pub writes_where : WritesWhereItFits
writes_where s taken out f q m w n =
    subst (λ os. IsDealtWrite s.config os w) f.took
    (writes_are_dealt s.config f.core f.came_about q (subst (λ (o : Outside). Mem q o.requests) (sym f.outside) m) w n)

entry_held : (s : State) (taken : List Op) (out : Outside) (f : Fits s taken out) (e : Entry) → Mem e s.held → Mem e.held f.core.held
entry_held s taken out f e m = subst (λ hs. Mem e.held hs) f.is_of.held (map-Mem (λ (x : Entry). x.held) e s.held m)

pub earliest_where : EarliestWhereItFits
earliest_where s taken out f e d p me md fe doc =
    earliest_flies s.config f.core f.came_about e.held d.held p (entry_held s taken out f e me) (entry_held s taken out f d md) fe doc

pub one_flies_where : OneFliesWhereItFits
one_flies_where s taken out f e d p q me md fe fd doc =
    one_flies s.config f.core f.came_about e.held d.held p q (entry_held s taken out f e me) (entry_held s taken out f d md) fe fd doc

-- ---- tries

some_chosen : (chosen : List Entry) → chosen ≢ [] → held_of chosen ≢ []
some_chosen [] some e = some refl
some_chosen (e ∷ es) some q = let n = ap length q in absurd (omega (arith, n))

pub send_takes_try : SendTakesTry
send_takes_try s chosen taken out some ne part within f =
    let is = f.is_of in
    let n = within_tries_left s.config f.core (Sends (held_of chosen) ∷ []) some f.came_about (may_send (none_past s.config) s f.core chosen part within is (facts_of s.config f.core f.came_about), tt) (some_chosen chosen ne, tt) in
    let longer = length-append f.core.outside.requests (record { writes = writes_of_all chosen; answer = Unanswered } ∷ []) in
    let new : List Request = record { writes = writes_of_all chosen; answer = Unanswered } ∷ [] in
    let one : length new ≡ 1 = refl in
    let now : tries_of (after_request_of s chosen) ≡ tries_left s.config.max (map (after_launch (length f.core.outside.requests) (held_of chosen)) f.core.held) =
    ap (tries_left s.config.max) (held_launched s.clock s.requests (held_of chosen) s.held ∙ (λ i. map (after_launch (is.requests i) (held_of chosen)) (is.held i))) in
    let before : tries_of s ≡ tries_left s.config.max f.core.held = ap (tries_left s.config.max) is.held in
    omega (arith, n, longer, one, now, before)

pub answer_gives_no_try : AnswerGivesNoTry
answer_gives_no_try s number a taken out some flies f =
    let c = f.core in
    let is = f.is_of in
    let ws = writes_at (from_zero number) s.flying in
    let e = ap (tries_left s.config.max) (held_kept (tries_in s) s.clock (from_zero number) ws a s.held ∙ ap (still_held (tries_in s) (from_zero number) ws a) is.held) in
    let q : Request = record { writes = ws; answer = Unanswered } in
    let le = left-kept s.config (old_in s) c.outside.requests (from_zero number) q (flies_unanswered s c number flies is) a c.held (all_tries s.config c some f.came_about) in
    let before = ap (tries_left s.config.max) is.held in
    omega (arith, e, le, before)
