-- Requests that an index serves, as runs of the outside.
use Rattle.std.proofs.Common.{◌≡◌, ℕ, suc, zero, ◌+◌, ◌<◌, ◌≤◌, List, [], ◌∷◌, ◌++◌, length, take, Some, Bool, true, false, Result, Ok, Err, refl, sym, ap, ◌∙◌, subst, arith, inl, inr, ⊎_elim}
use Rattle.std.proofs.Math.Seq.{take-length}
use Rattle.std.specs.Prelude.{◌⊎◌, ◌≢◌, slice_get, option_and_then}
use Rattle.relay_action.specs.declared.write.Write.{Write}
use Rattle.relay_ndjson.specs.Bodies.{AreDealt, IsBulk}
use Rattle.relay_ndjson.specs.Bulk.{text_of}
use Rattle.relay_ndjson.proofs.OneBody.{one_bulk, no_fault_in_bulk}
use Rattle.relay_ndjson.proofs.Written.{bulk_text_is_bulk}
use Rattle.relay_results.specs.declared.done.ItemDone.{ItemDone}
use Rattle.relay_results.specs.declared.outcome.Outcome.{Outcome}
use Rattle.relay_results.specs.Done.{outcome_of, outcomes_of}
use Rattle.relay_results.specs.Words.{Mem}
use Rattle.relay_results.specs.Documents.{document_of}
use Rattle.relay_results.specs.Outside.{Request, writes_of, IsOutcomeOf, Ran, Outside, Event, Runs, MayRun, WasRun, EachWasRun, write_at, ran_of, after, after_all, AllMayHappen}
use Rattle.relay_results.proofs.Lists.{Mem-left, Mem-last}
use Rattle.relay_results.proofs.Steps.{step_runs_item}
use Rattle.relay_index.specs.States.{State, stored_version}
use Rattle.relay_index.specs.Runs.{Shows, outcome_of_run}
use Rattle.relay_index.specs.Plans.{choice_at, takes, after_item}
use Rattle.relay_index.specs.Serving.{Server, Answer, under, too_large_text, RunsAll, RunsFirst, Replies, Answers, StopsAfter}
use Rattle.relay_index.proofs.Ran.{run_is_of_outside}
use Rattle.relay_index.proofs.Repeated.{scripts_may}
use Rattle.relay_lane.specs.Wires.{AreRuns, RunsOn}
use Rattle.relay_http.specs.WrittenAnswer.{IsAnswerStatus}
use Rattle.relay_loop.specs.Loops.{Stops, IsServed}

-- ---- runs one after another

after_both : (es fs : List Event) (s : Outside) → after_all (es ++ fs) s ≡ after_all fs (after_all es s)
after_both [] fs s = refl
after_both (e ∷ es) fs s = after_both es fs (after e s)

may_both : (es fs : List Event) (s : Outside) → AllMayHappen es s → AllMayHappen fs (after_all es s) → AllMayHappen (es ++ fs) s
may_both [] fs s m n = n
may_both (e ∷ es) fs s m n = (m.0, may_both es fs (after e s) m.1 n)

runs_both : (es fs : List Event) → AreRuns es → AreRuns fs → AreRuns (es ++ fs)
runs_both [] fs a b = b
runs_both (e ∷ es) fs a b = (a.0, runs_both es fs a.1 b)

runs_on : (o p q : Outside) → RunsOn o p → RunsOn p q → RunsOn o q
runs_on o p q a b = record {
  events = a.events ++ b.events;
  runs = runs_both a.events b.events a.runs b.runs;
  may = may_both a.events b.events o a.may (subst (AllMayHappen b.events) a.reached b.may);
  reached = b.reached ∙ ap (after_all b.events) a.reached ∙ sym (after_both a.events b.events o);
}

pub no_runs : (o : Outside) → RunsOn o o
no_runs o = record { events = []; runs = tt; may = tt; reached = refl }

was_still : (rs ss : List Ran) (n place : ℕ) (o : Outcome) → ((r : Ran) → Mem r rs → Mem r ss) → WasRun rs n place o → WasRun ss n place o
was_still rs ss n place o keeps w = record { run = w.run; among = keeps w.run w.among; of_request = w.of_request; of_place = w.of_place; status = w.status; error = w.error }

-- ---- the items of a request

-- These items of a request were run, from this place on: the outside shows the index then, nothing was sent or answered,
-- no run is forgotten, and each outcome is one of a run.
pub record RanItems (number place : ℕ) (s : State) (o : Outside) (found : List Outcome) : Type 0 where
  pub after : Outside
  pub runs : RunsOn o after
  pub shows : Shows after s
  pub same : after.requests ≡ o.requests
  pub keeps : (r : Ran) → Mem r o.runs → Mem r after.runs
  pub each : EachWasRun after.runs number place found

-- these writes are in a request from this place on
abbrev pub AreSent : ℕ → ℕ → List Write → Outside → Type 0
AreSent number place ws o = (i : ℕ) (w : Write) → slice_get ws i ≡ Some w → write_at o.requests number (place + i) ≡ Some w

ran_none : (n place : ℕ) (s : State) (o : Outside) → Shows o s → RanItems n place s o []
ran_none n place s o shows = record { after = o; runs = no_runs o; shows = shows; same = refl; keeps = λ r m. m; each = tt }

ran_item : (n place : ℕ) (s t : State) (o : Outside) (w : Write) (d : ItemDone) → write_at o.requests n place ≡ Some w
    → IsOutcomeOf (stored_version s (document_of w.key)) w (outcome_of_run d)
    → ((q : Outside) (r : Ran) → Shows q s → r.outcome ≡ outcome_of_run d → Shows (ran_of q r (Some w)) t)
    → Shows o s → RanItems n place t o (outcome_of d ∷ [])
ran_item n place s t o w d at may step shows =
    let r : Ran = record { request = n; place = place; outcome = outcome_of_run d } in
    let m : MayRun o r = record { write = w; sent = at; outcome = subst (λ v. IsOutcomeOf v w (outcome_of_run d)) (sym (shows.versions (document_of w.key))) may } in
    let p = after (Runs r) o in
    let i = step_runs_item o p (record { run = r; may = m; reached = refl }) in
    let among : Mem r p.runs = subst (Mem r) (sym i.runs) (Mem-last o.runs r) in
    record {
      after = p;
      runs = record { events = Runs r ∷ []; runs = (tt, tt); may = (m, tt); reached = refl };
      shows = subst (λ x. Shows (ran_of o r x) t) (sym at) (step o r shows refl);
      same = i.requests;
      keeps = λ x y. subst (Mem x) (sym i.runs) (Mem-left x o.runs (r ∷ []) y);
      each = (record { run = r; among = among; of_request = refl; of_place = refl; status = refl; error = refl }, tt);
    }

sent_next : (n place : ℕ) (w : Write) (ws : List Write) (o p : Outside) → p.requests ≡ o.requests → AreSent n place (w ∷ ws) o → AreSent n (suc place) ws p
sent_next n place w ws o p same at = λ i v here.
    let there = at (suc i) v here in
    let next : place + suc i ≡ suc place + i = omega arith in
    subst (λ rs. write_at rs n (suc place + i) ≡ Some v) (sym same) (subst (λ k. write_at o.requests n k ≡ Some v) next there)

ran_then : (n place : ℕ) (s t : State) (o : Outside) (x : Outcome) (found : List Outcome) → (a : RanItems n place s o (x ∷ [])) → RanItems n (suc place) t a.after found → RanItems n place t o (x ∷ found)
ran_then n place s t o x found a b = record {
  after = b.after;
  runs = runs_on o a.after b.after a.runs b.runs;
  shows = b.shows;
  same = b.same ∙ a.same;
  keeps = λ r m. b.keeps r (a.keeps r m);
  each = (was_still a.after.runs b.after.runs n place x b.keeps a.each.0, b.each);
}

-- the writes that are run one after another are run as the items of a request at their places
pub ran_all : (ws : List Write) (old new : Server) (items : List ItemDone) (n place : ℕ) (o : Outside) → AreSent n place ws o → Shows o old.index → RunsAll old ws items new → RanItems n place new.index o (outcomes_of items)
ran_all [] old new items n place o at shows r =
    subst (λ ds. RanItems n place new.index o (outcomes_of ds)) (sym r.0) (ran_none n place new.index o (subst (λ (x : Server). Shows o x.index) (sym r.1) shows))
ran_all (w ∷ ws) old new items n place o at shows r =
    let run = run_is_of_outside old.index r.2 w (choice_at old.script) r.0 (scripts_may old.script) r.3 in
    let here : write_at o.requests n place ≡ Some w = (let zero_more : place + 0 ≡ place = omega arith in subst (λ k. write_at o.requests n k ≡ Some w) zero_more (at 0 w refl)) in
    let a = ran_item n place old.index r.2 o w r.0 here run.outcome run.shows shows in
    let b = ran_all ws (under r.2 (after_item old.script)) new r.1 n (suc place) a.after (sent_next n place w ws o a.after a.same at) a.shows r.4 in
    subst (λ ds. RanItems n place new.index o (outcomes_of ds)) (sym r.5) (ran_then n place r.2 new.index o (outcome_of r.0) (outcomes_of r.1) a b)

-- ---- a request

-- the request was sent with these writes
abbrev pub IsSentWith : ℕ → List Write → Outside → Type 0
IsSentWith n ws o = (q : Request) × (slice_get o.requests n ≡ Some q) × (q.writes ≡ ws)

are_sent : (n : ℕ) (ws : List Write) (o : Outside) → IsSentWith n ws o → AreSent n 0 ws o
are_sent n ws o sent = λ i w here.
    let at : slice_get (writes_of sent.0) i ≡ Some w = subst (λ vs. slice_get vs i ≡ Some w) (sym sent.2) here in
    let same : i ≡ 0 + i = omega arith in
    subst (λ k. write_at o.requests n k ≡ Some w) same (ap (λ x. option_and_then (λ (r : Request). slice_get (writes_of r) i) x) sent.1 ∙ at)

in_front : {A : Type 0} (xs : List A) (k i : ℕ) (x : A) → slice_get (take k xs) i ≡ Some x → slice_get xs i ≡ Some x
in_front xs zero i x e = absurd (cc)
in_front [] (suc k) i x e = e
in_front (y ∷ ys) (suc k) zero x e = e
in_front (y ∷ ys) (suc k) (suc i) x e = in_front ys k i x e

pub ran_request : (n : ℕ) (ws : List Write) (old new : Server) (items : List ItemDone) (o : Outside) → IsSentWith n ws o → Shows o old.index → RunsAll old ws items new → RanItems n 0 new.index o (outcomes_of items)
ran_request n ws old new items o sent shows r = ran_all ws old new items n 0 o (are_sent n ws o sent) shows r

pub ran_front : (n : ℕ) (ws : List Write) (old new : Server) (o : Outside) → IsSentWith n ws o → Shows o old.index → (s : Stops ws old new) → RanItems n 0 new.index o (outcomes_of s.1.items)
ran_front n ws old new o sent shows s =
    ran_all (take s.0 ws) old new s.1.items n 0 o (λ i w here. are_sent n ws o sent i w (in_front ws s.0 i w here)) shows s.1.runs

-- ---- what the index's end serves

pub serves_all : (ws : List Write) (body : List ℕ) (old new : Server) (a : Answer) → AreDealt ws → body ≡ text_of ws → Answers body old a new → IsServed ws old new a.status a.text
serves_all ws body old new a dealt is answers =
    let bulk : IsBulk body ws = subst (λ b. IsBulk b ws) (sym is) (bulk_text_is_bulk ws dealt) in
    ⊎_elim {C = IsServed ws old new a.status a.text}
    (λ s. inl (record { success = s.success; replies = subst (λ vs. Replies old vs a.text new) (one_bulk body s.writes ws s.reads bulk) s.replies }))
    (λ z. ⊎_elim {C = IsServed ws old new a.status a.text}
    (λ r. absurd (no_fault_in_bulk body ws r.line r.kind bulk r.breaks))
    (λ r. inr (record { over = subst (λ b. takes old.script (length b) ≡ false) is r.over; failure = r.too_large.failure; says = r.too_large.text_of; stays = r.stays }))
    z)
    answers

-- either status of an answer is one that an answer may have
pub answer_status : (body : List ℕ) (old new : Server) (a : Answer) → Answers body old a new → IsAnswerStatus a.status
answer_status body old new a answers =
    let good : IsAnswerStatus 200 = (omega arith, omega arith, λ e. omega arith, λ e. omega arith) in
    let bad : IsAnswerStatus 400 = (omega arith, omega arith, λ e. omega arith, λ e. omega arith) in
    let large : IsAnswerStatus 413 = (omega arith, omega arith, λ e. omega arith, λ e. omega arith) in
    ⊎_elim {C = IsAnswerStatus a.status} (λ s. subst IsAnswerStatus (sym s.success) good)
    (λ z. ⊎_elim {C = IsAnswerStatus a.status} (λ r. subst IsAnswerStatus (sym r.failure) bad) (λ r. subst IsAnswerStatus (sym r.too_large.failure) large) z)
    answers

pub stops : (ran : ℕ) (ws : List Write) (body : List ℕ) (old new : Server) → AreDealt ws → body ≡ text_of ws → StopsAfter ran body old new → Stops ws old new
stops ran ws body old new dealt is after =
    let bulk : IsBulk body ws = subst (λ b. IsBulk b ws) (sym is) (bulk_text_is_bulk ws dealt) in
    ⊎_elim {C = Stops ws old new}
    (λ none. (0, record { within = omega arith; items = []; runs = (refl, none.stays) }))
    (λ some. (ran, subst (λ vs. RunsFirst ran old vs new) (one_bulk body some.writes ws some.reads bulk) some.first))
    after

pub stops_none : (ws : List Write) (old : Server) → Stops ws old old
stops_none ws old = (0, record { within = omega arith; items = []; runs = (refl, refl) })

pub stops_after_all : (ws : List Write) (old new : Server) (text : List ℕ) → Replies old ws text new → Stops ws old new
stops_after_all ws old new text r =
    (length ws, record { within = omega arith; items = r.items; runs = subst (λ vs. RunsAll old vs r.items new) (sym (take-length ws)) r.runs })

-- nothing was run of it
pub stops_unread : (ws : List Write) (old new : Server) → new ≡ old → Stops ws old new
stops_unread ws old new stays = (0, record { within = omega arith; items = []; runs = (refl, stays) })
