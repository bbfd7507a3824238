-- The outside of all lanes comes from an opening by events that may happen: each act is one, or
-- none.
use Rattle.std.proofs.Common.{◌≡◌, ℕ, suc, List, [], ◌∷◌, ◌++◌, Option, Some, Bool, true, false, ◌==◌, refl, sym, ap, ◌∙◌, subst, append-nil}
use Rattle.std.specs.Prelude.{slice_get, option_and_then, map, if◌then◌else◌}
use Rattle.relay_action.specs.declared.write.Write.{Write}
use Rattle.relay_results.specs.declared.outcome.Outcome.{Outcome}
use Rattle.relay_results.specs.Documents.{Document, document_of, same_document}
use Rattle.relay_results.specs.Outside.{Answer, Unanswered, writes_of, write_at, Ran, RunOutcome, Outside, Event, is_applied, IsOutcomeOf, WasRun, EachWasRun, IsHonest, MayHappen, ran_of, with_run, with_applied, after, Continues}
use Rattle.relay_results.specs.Outside as outside
use Rattle.relay_results.proofs.Lists.{equal, equal_test, at-Mem, some_same}
use Rattle.relay_results.proofs.Same.{same_document-true}
use Rattle.relay_delivery.specs.Machine.{Config, Core, Held, Sends, Runs, Answers, write_of, step}
use Rattle.relay_delivery.specs.Lanes.{Move}
use Rattle.relay_delivery.specs.Together.{Origin, Together, Act, Plain, SendsFrom, RunsAt, AnswersAt, run_at, act, IsPlain, MayAct, outside_of}
use Rattle.relay_delivery.proofs.Dealt.{sent_by}
use Rattle.relay_delivery.proofs.Run.{found_at}
use Rattle.relay_delivery.proofs.Sharing.{TogetherFacts, sent_lane, plain_outside}
use Rattle.relay_delivery.proofs.Facts.{Past}

-- one event that leads to what is there now
by_event : (old new : Outside) (e : Event) → MayHappen e old → new ≡ after e old → Continues old new
by_event old new e may reached = record { events = e ∷ []; may = (may, tt); reached = reached }

module _ (g : Config) (lane_of : Document → ℕ) (past : ℕ → Past) (s : Together) (f : TogetherFacts g lane_of past s) where
  abbrev shown : ℕ → Outside
  shown l = (s.lanes.lane l).outside

  -- ---- puts, closes and takes do not change the outside

  plain_continues : (m : Move) → IsPlain m → Continues (outside_of lane_of s) (outside_of lane_of (act g lane_of (Plain m) s))
  plain_continues m p =
      let same = plain_outside g lane_of m p s.lanes in
      record {
        events = [];
        may = tt;
        reached = λ i. record {
          requests = s.sent;
          runs = s.runs;
          stored = λ k. (same (lane_of k) i).stored k;
          before = λ k. (same (lane_of k) i).before k;
          applied = λ k. (same (lane_of k) i).applied k;
        };
      }

  -- ---- a lane's core is replaced by one that shows the same of each document

  module _ (l : ℕ) (c : Core) (stored : c.outside.stored ≡ (shown l).stored) (before : c.outside.before ≡ (shown l).before) (applied : c.outside.applied ≡ (shown l).applied) where
    pub stored_by : (m : ℕ) (b : Bool) → (m == l) ≡ b → (if b then c else s.lanes.lane m).outside.stored ≡ (shown m).stored
    stored_by m true e = stored ∙ ap (λ n. (s.lanes.lane n).outside.stored) (sym (equal m l e))
    stored_by m false e = refl

    pub before_by : (m : ℕ) (b : Bool) → (m == l) ≡ b → (if b then c else s.lanes.lane m).outside.before ≡ (shown m).before
    before_by m true e = before ∙ ap (λ n. (s.lanes.lane n).outside.before) (sym (equal m l e))
    before_by m false e = refl

    pub applied_by : (m : ℕ) (b : Bool) → (m == l) ≡ b → (if b then c else s.lanes.lane m).outside.applied ≡ (shown m).applied
    applied_by m true e = applied ∙ ap (λ n. (s.lanes.lane n).outside.applied) (sym (equal m l e))
    applied_by m false e = refl

  send_continues : (l : ℕ) (chosen : List Held) → Continues (outside_of lane_of s) (outside_of lane_of (act g lane_of (SendsFrom l chosen) s))
  send_continues l chosen =
      let c = step g (Sends chosen) (s.lanes.lane l) in
      by_event (outside_of lane_of s) (outside_of lane_of (act g lane_of (SendsFrom l chosen) s)) (outside.Sends (map write_of chosen)) tt
      (λ i. record {
        requests = s.sent ++ record { writes = map write_of chosen; answer = Unanswered } ∷ [];
        runs = s.runs;
        stored = λ k. stored_by l c refl refl refl (lane_of k) (lane_of k == l) refl i k;
        before = λ k. before_by l c refl refl refl (lane_of k) (lane_of k == l) refl i k;
        applied = λ k. applied_by l c refl refl refl (lane_of k) (lane_of k == l) refl i k;
      })

  -- ---- an answer that is honest in its lane is honest among all

  run_here : (i place : ℕ) (from : Origin) (o : Outcome) → slice_get s.origins i ≡ Some from → WasRun (shown from.lane).runs from.number place o → WasRun s.runs i place o
  run_here i place from o origin w =
      let h = f.ran from.lane w.run w.among in
      let at : h.number ≡ i = f.once h.number i from (h.origin ∙ (λ j. Some (record { lane = from.lane; number = w.of_request j }))) origin in
      record {
        run = run_at h.number w.run.place w.run.outcome;
        among = h.among;
        of_request = at;
        of_place = w.of_place;
        status = w.status;
        error = w.error;
      }

  each_here : (i place : ℕ) (from : Origin) (os : List Outcome) → slice_get s.origins i ≡ Some from → EachWasRun (shown from.lane).runs from.number place os → EachWasRun s.runs i place os
  each_here i place from [] origin w = tt
  each_here i place from (o ∷ os) origin w = (run_here i place from o origin w.0, each_here i (suc place) from os origin w.1)

  honest_here : (i : ℕ) (from : Origin) (ws : List Write) (a : Answer) → slice_get s.origins i ≡ Some from → IsHonest (shown from.lane).runs from.number ws a → IsHonest s.runs i ws a
  honest_here i from ws outside.Unanswered origin h = h
  honest_here i from ws (outside.Items os) origin h = λ m. each_here i 0 from os origin (h m)
  honest_here i from ws (outside.Whole status reason) origin h = h
  honest_here i from ws (outside.Lost why) origin h = h

  answer_continues : (i : ℕ) (a : Answer) (old : ℕ → Bool) (from : Origin) → MayAct g (AnswersAt i a old from) s → Continues (outside_of lane_of s) (outside_of lane_of (act g lane_of (AnswersAt i a old from) s))
  answer_continues i a old from may =
      let c = step g (Answers from.number a old) (s.lanes.lane from.lane) in
      let p = f.same i from may.0 in
      let same : p.request ≡ may.1.request = some_same p.request may.1.request (sym p.there ∙ may.1.sent) in
      by_event (outside_of lane_of s) (outside_of lane_of (act g lane_of (AnswersAt i a old from) s)) (outside.Answers i a)
      (record { request = may.1.request; sent = p.here ∙ ap Some same; open_yet = may.1.open_yet; honest = honest_here i from may.1.request.writes a may.0 may.1.honest })
      (λ j. record {
        requests = (act g lane_of (AnswersAt i a old from) s).sent;
        runs = s.runs;
        stored = λ k. stored_by from.lane c refl refl refl (lane_of k) (lane_of k == from.lane) refl j k;
        before = λ k. before_by from.lane c refl refl refl (lane_of k) (lane_of k == from.lane) refl j k;
        applied = λ k. applied_by from.lane c refl refl refl (lane_of k) (lane_of k == from.lane) refl j k;
      })

  -- ---- a run

  module _ (i place : ℕ) (o : RunOutcome) (from : Origin) (may : MayAct g (RunsAt i place o from) s) where
    abbrev w : Write
    w = may.1.write

    abbrev lane_run : Ran
    lane_run = run_at from.number place o

    abbrev ran_core : Core
    ran_core = step g (Runs lane_run) (s.lanes.lane from.lane)

    its_lane : lane_of (document_of w.key) ≡ from.lane
    its_lane =
        let q = found_at (slice_get (shown from.lane).requests from.number) place w may.1.sent in
        sent_lane g lane_of past s.lanes f.lanes from.lane w (sent_by (shown from.lane).requests from.number q.0 w q.1 (at-Mem q.0.writes place w q.2))

    its_item : write_at s.sent i place ≡ Some w
    its_item =
        let p = f.same i from may.0 in
        ap (λ q. option_and_then (λ z. slice_get (writes_of z) place) q) (p.here ∙ sym p.there) ∙ may.1.sent

    not_here : (k : Document) → (lane_of k == from.lane) ≡ false → same_document k (document_of w.key) ≡ true → ⊥
    not_here k other t =
        let same = same_document-true k (document_of w.key) t in
        let at = equal_test (lane_of k) from.lane (ap lane_of same ∙ its_lane) in cc (at, other)

    -- by whether the write was applied and whether it is of the document
    abbrev Stored : Bool → Bool → Option ℕ → Option ℕ
    Stored a same old = if a then (if same then Some w.version else old) else old

    abbrev Listed : Bool → Bool → List Write → List Write
    Listed a same old = if a then old ++ (if same then w ∷ [] else []) else old

    is_later : ran_core.outside ≡ ran_of (shown from.lane) lane_run (Some w)
    is_later = ap (ran_of (shown from.lane) lane_run) may.1.sent

    its_stored : (x : Outside) (r : Ran) (k : Document) (a : Bool) → (if a then with_run (with_applied x w) r else with_run x r).stored k ≡ Stored a (same_document k (document_of w.key)) (x.stored k)
    its_stored x r k true = refl
    its_stored x r k false = refl

    its_applied : (x : Outside) (r : Ran) (k : Document) (a : Bool) → (if a then with_run (with_applied x w) r else with_run x r).applied k ≡ Listed a (same_document k (document_of w.key)) (x.applied k)
    its_applied x r k true = refl
    its_applied x r k false = refl

    its_before : (x : Outside) (r : Ran) (k : Document) (a : Bool) → (if a then with_run (with_applied x w) r else with_run x r).before k ≡ x.before k
    its_before x r k true = refl
    its_before x r k false = refl

    other_stored : (a same : Bool) (old : Option ℕ) → (same ≡ true → ⊥) → old ≡ Stored a same old
    other_stored true true old ne = absurd (ne refl)
    other_stored true false old ne = refl
    other_stored false same old ne = refl

    other_listed : (a same : Bool) (old : List Write) → (same ≡ true → ⊥) → old ≡ Listed a same old
    other_listed true true old ne = absurd (ne refl)
    other_listed true false old ne = sym (append-nil old)
    other_listed false same old ne = refl

    abbrev was : Bool
    was = is_applied w o

    stored_at : (k : Document) (b : Bool) → (lane_of k == from.lane) ≡ b → (if b then ran_core else s.lanes.lane (lane_of k)).outside.stored k ≡ Stored was (same_document k (document_of w.key)) ((shown (lane_of k)).stored k)
    stored_at k true e =
        ap (λ (x : Outside). x.stored k) is_later ∙ its_stored (shown from.lane) lane_run k was
        ∙ ap (λ n. Stored was (same_document k (document_of w.key)) ((s.lanes.lane n).outside.stored k)) (sym (equal (lane_of k) from.lane e))
    stored_at k false e = other_stored was (same_document k (document_of w.key)) ((shown (lane_of k)).stored k) (not_here k e)

    applied_at : (k : Document) (b : Bool) → (lane_of k == from.lane) ≡ b → (if b then ran_core else s.lanes.lane (lane_of k)).outside.applied k ≡ Listed was (same_document k (document_of w.key)) ((shown (lane_of k)).applied k)
    applied_at k true e =
        ap (λ (x : Outside). x.applied k) is_later ∙ its_applied (shown from.lane) lane_run k was
        ∙ ap (λ n. Listed was (same_document k (document_of w.key)) ((s.lanes.lane n).outside.applied k)) (sym (equal (lane_of k) from.lane e))
    applied_at k false e = other_listed was (same_document k (document_of w.key)) ((shown (lane_of k)).applied k) (not_here k e)

    before_at : (k : Document) (b : Bool) → (lane_of k == from.lane) ≡ b → (if b then ran_core else s.lanes.lane (lane_of k)).outside.before k ≡ (shown (lane_of k)).before k
    before_at k true e =
        ap (λ (x : Outside). x.before k) is_later ∙ its_before (shown from.lane) lane_run k was
        ∙ ap (λ n. (s.lanes.lane n).outside.before k) (sym (equal (lane_of k) from.lane e))
    before_at k false e = refl

    -- the one outside after the run, by whether the write was applied
    abbrev now : Bool → Outside
    now a = record {
      requests = s.sent;
      runs = s.runs ++ run_at i place o ∷ [];
      stored = λ k. Stored a (same_document k (document_of w.key)) ((shown (lane_of k)).stored k);
      before = λ k. (shown (lane_of k)).before k;
      applied = λ k. Listed a (same_document k (document_of w.key)) ((shown (lane_of k)).applied k);
    }

    now_is : (a : Bool) → now a ≡ (if a then with_run (with_applied (outside_of lane_of s) w) (run_at i place o) else with_run (outside_of lane_of s) (run_at i place o))
    now_is true = refl
    now_is false = refl

    its_outcome : IsOutcomeOf ((shown (lane_of (document_of w.key))).stored (document_of w.key)) w o
    its_outcome = subst (λ n. IsOutcomeOf ((s.lanes.lane n).outside.stored (document_of w.key)) w o) (sym its_lane) may.1.outcome

    run_continues : Continues (outside_of lane_of s) (outside_of lane_of (act g lane_of (RunsAt i place o from) s))
    run_continues =
        by_event (outside_of lane_of s) (outside_of lane_of (act g lane_of (RunsAt i place o from) s)) (outside.Runs (run_at i place o))
        (record { write = w; sent = its_item; outcome = its_outcome })
        ((λ j. record {
          requests = s.sent;
          runs = s.runs ++ run_at i place o ∷ [];
          stored = λ k. stored_at k (lane_of k == from.lane) refl j;
          before = λ k. before_at k (lane_of k == from.lane) refl j;
          applied = λ k. applied_at k (lane_of k == from.lane) refl j;
        })
        ∙ now_is was
        ∙ ap (ran_of (outside_of lane_of s) (run_at i place o)) (sym its_item))

-- ---- any act

pub act_continues : (g : Config) (lane_of : Document → ℕ) (past : ℕ → Past) (s : Together) (f : TogetherFacts g lane_of past s) (x : Act) → MayAct g x s → Continues (outside_of lane_of s) (outside_of lane_of (act g lane_of x s))
act_continues g lane_of past s f (Plain m) may = plain_continues g lane_of past s f m may.0
act_continues g lane_of past s f (SendsFrom l chosen) may = send_continues g lane_of past s f l chosen
act_continues g lane_of past s f (RunsAt i place o from) may = run_continues g lane_of past s f i place o from may
act_continues g lane_of past s f (AnswersAt i a old from) may = answer_continues g lane_of past s f i a old from may
