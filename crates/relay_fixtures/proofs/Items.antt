-- Items of requests that an index runs.
use Rattle.std.proofs.Common.{◌≡◌, ℕ, suc, ◌+◌, List, [], ◌∷◌, ◌++◌, length, Some, refl, sym, ap, ◌∙◌, subst, arith}
use Rattle.std.specs.Prelude.{slice_get, option_and_then, Result, Ok, Err, IfOk}
use Rattle.relay_action.specs.declared.write.Write.{Write}
use Rattle.relay_index.specs.States.{State}
use Rattle.relay_index.specs.Runs.{Shows, outcome_of_run}
use Rattle.relay_results.specs.declared.done.ItemDone.{ItemDone}
use Rattle.relay_results.specs.declared.outcome.Outcome.{Outcome}
use Rattle.relay_results.specs.Done.{outcome_of}
use Rattle.relay_results.specs.Words.{Mem}
use Rattle.relay_results.specs.Documents.{document_of}
use Rattle.relay_results.specs.Outside.{Request, writes_of, RunOutcome, IsOutcomeOf, Ran, Outside, Event, Runs, MayRun, WasRun, EachWasRun, write_at, ran_of, after, after_all, AllMayHappen}
use Rattle.relay_results.proofs.Lists.{Mem-left, Mem-last}
use Rattle.relay_results.proofs.Steps.{step_runs_item}
use Rattle.relay_lane.specs.Wires.{AreRuns, RunsOn}
use Rattle.relay_fixtures.specs.Runs.{IsSent, RanSome, entry_of}

pub no_runs : (o : Outside) → RunsOn o o
no_runs o = record { events = []; runs = tt; may = tt; reached = refl }

-- ---- runs one after another

after_both : (es fs : List Event) (s : Outside) → after_all (es ++ fs) s ≡ after_all fs (after_all es s)
after_both [] fs s = refl
after_both (e ∷ es) fs s = after_both es fs (after e s)

may_both : (es fs : List Event) (s : Outside) → AllMayHappen es s → AllMayHappen fs (after_all es s) → AllMayHappen (es ++ fs) s
may_both [] fs s m n = n
may_both (e ∷ es) fs s m n = (m.0, may_both es fs (after e s) m.1 n)

runs_both : (es fs : List Event) → AreRuns es → AreRuns fs → AreRuns (es ++ fs)
runs_both [] fs a b = b
runs_both (e ∷ es) fs a b = (a.0, runs_both es fs a.1 b)

runs_on : (o p q : Outside) → RunsOn o p → RunsOn p q → RunsOn o q
runs_on o p q a b = record {
  events = a.events ++ b.events;
  runs = runs_both a.events b.events a.runs b.runs;
  may = may_both a.events b.events o a.may (subst (AllMayHappen b.events) a.reached b.may);
  reached = b.reached ∙ ap (after_all b.events) a.reached ∙ sym (after_both a.events b.events o);
}

was_still : (rs ss : List Ran) (n place : ℕ) (o : Outcome) → ((r : Ran) → Mem r rs → Mem r ss) → WasRun rs n place o → WasRun ss n place o
was_still rs ss n place o keeps w = record { run = w.run; among = keeps w.run w.among; of_request = w.of_request; of_place = w.of_place; status = w.status; error = w.error }

each_still : (rs ss : List Ran) (n place : ℕ) (os : List Outcome) → ((r : Ran) → Mem r rs → Mem r ss) → EachWasRun rs n place os → EachWasRun ss n place os
each_still rs ss n place [] keeps w = tt
each_still rs ss n place (o ∷ os) keeps w = (was_still rs ss n place o keeps w.0, each_still rs ss n (suc place) os keeps w.1)

each_both : (rs : List Ran) (n place : ℕ) (os found : List Outcome) → EachWasRun rs n place os → EachWasRun rs n (place + length os) found → EachWasRun rs n place (os ++ found)
each_both rs n place [] found a b = subst (λ k. EachWasRun rs n k found) (omega arith) b
each_both rs n place (o ∷ os) found a b = (a.0, each_both rs n (suc place) os found a.1 (subst (λ k. EachWasRun rs n k found) (omega arith) b))

-- ---- one item

pub ran_none : (n place : ℕ) (s t : State) (o : Outside) → t ≡ s → Shows o s → RanSome n place t o []
ran_none n place s t o e shows = record { after = o; runs = no_runs o; shows = subst (Shows o) (sym e) shows; same = refl; keeps = λ r m. m; each = tt }

pub ran_item : (n place : ℕ) (s t : State) (o : Outside) (w : Write) (done : RunOutcome) → write_at o.requests n place ≡ Some w
    → IsOutcomeOf (o.stored (document_of w.key)) w done
    → Shows (ran_of o (record { request = n; place = place; outcome = done }) (Some w)) t
    → (found : List Outcome) → ((rs : List Ran) → Mem (record { request = n; place = place; outcome = done }) rs → EachWasRun rs n place found)
    → RanSome n place t o found
ran_item n place s t o w done at may shows found each =
    let r : Ran = record { request = n; place = place; outcome = done } in
    let m : MayRun o r = record { write = w; sent = at; outcome = may } in
    let p = after (Runs r) o in
    let i = step_runs_item o p (record { run = r; may = m; reached = refl }) in
    record {
      after = p;
      runs = record { events = Runs r ∷ []; runs = (tt, tt); may = (m, tt); reached = refl };
      shows = subst (λ x. Shows (ran_of o r x) t) (sym at) shows;
      same = i.requests;
      keeps = λ x y. subst (Mem x) (sym i.runs) (Mem-left x o.runs (r ∷ []) y);
      each = each p.runs (subst (Mem r) (sym i.runs) (Mem-last o.runs r));
    }

pub one_entry : {E : Type 0} (rs : List Ran) (n place : ℕ) (d : ItemDone) (r : Result Outcome E) → Mem (record { request = n; place = place; outcome = outcome_of_run d }) rs → IfOk r (λ x. x ≡ outcome_of d) → EachWasRun rs n place (entry_of r)
one_entry rs n place d (Ok x) m e = (
  record {
    run = record { request = n; place = place; outcome = outcome_of_run d };
    among = m;
    of_request = refl;
    of_place = refl;
    status = sym (ap (λ (y : Outcome). y.status) e);
    error = sym (ap (λ (y : Outcome). y.error) e);
  },
  tt,
)
one_entry rs n place d (Err e) m h = tt

-- ---- the items of a request

at_place : (q : Outside) (n place : ℕ) (ws : List Write) (w : Write) → IsSent n ws q → slice_get ws place ≡ Some w → write_at q.requests n place ≡ Some w
at_place q n place ws w sent at = ap (λ x. option_and_then (λ (r : Request). slice_get (writes_of r) place) x) sent ∙ at

pub ran_more : (o : Outside) (n : ℕ) (ws : List Write) (w : Write) (s t : State) (os found : List Outcome) → IsSent n ws o → slice_get ws (length os) ≡ Some w → RanSome n 0 s o os
    → ((q : Outside) (m place : ℕ) → Shows q s → write_at q.requests m place ≡ Some w → RanSome m place t q found)
    → RanSome n 0 t o (os ++ found)
ran_more o n ws w s t os found sent at a step =
    let there : IsSent n ws a.after = ap (λ rs. slice_get rs n) a.same ∙ sent in
    let b = step a.after n (length os) a.shows (at_place a.after n (length os) ws w there at) in
    record {
      after = b.after;
      runs = runs_on o a.after b.after a.runs b.runs;
      shows = b.shows;
      same = b.same ∙ a.same;
      keeps = λ r m. b.keeps r (a.keeps r m);
      each = each_both b.after.runs n 0 os found (each_still a.after.runs b.after.runs n 0 os b.keeps a.each) (subst (λ k. EachWasRun b.after.runs n k found) (omega arith) b.each);
    }

pub ran_less : (o : Outside) (n : ℕ) (s : State) (os : List Outcome) → RanSome n 0 s o os → RanSome n 0 s o []
ran_less o n s os a = record { after = a.after; runs = a.runs; shows = a.shows; same = a.same; keeps = a.keeps; each = tt }
