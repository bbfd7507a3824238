-- What a lane and an outside have in common stays so over requests.
use Rattle.std.proofs.Common.{◌≡◌, ℕ, ◌+◌, List, [], ◌∷◌, ◌++◌, Some, Bool, true, IsTrue, refl, sym, ap, ◌∙◌, subst}
use Rattle.relay_action.specs.declared.operation.Op.{Op}
use Rattle.relay_action.specs.declared.write.Write.{Write}
use Rattle.relay_batch.specs.declared.item.BatchItem.{BatchItem}
use Rattle.relay_results.specs.Numbers.{from_zero}
use Rattle.relay_results.specs.Outside.{Answer, Lost, Ran, Outside, Event, Sends, Runs, Answers, MayHappen, MayAnswer, Continues, after, after_all, AllMayHappen}
use Rattle.relay_results.proofs.Steps.{continues_itself, continues_on, event_continues}
use Rattle.relay_delivery.specs.Lane.{Entry, writes_of_all}
use Rattle.relay_delivery.specs.Reach.{Call}
use Rattle.relay_delivery.specs.Reach as core
use Rattle.relay_delivery.specs.Explained.{after_runs, AllMayRun, met, MayMeet, Explains}
use Rattle.relay_delivery.proofs.Counts.{counts_where}
use Rattle.relay_delivery.proofs.Fitting.{clock_fits, sound_where, complete_where, total_where}
use Rattle.relay_core.specs.State.{State, next_batch, next_entries, after_answer_to, is_flying, IsLane}
use Rattle.relay_core.specs.Ties.{Fits}
use Rattle.relay_core.proofs.Tying.{request_fits, run_fits, answer_fits}
use Rattle.relay_lane.proofs.Out.{request_flies}
use Rattle.relay_results.specs.declared.cause.Loss.{Loss}
use Rattle.relay_lane.specs.Wires.{IsRun, AreRuns, RunsOn, SendsOn, AnswersOn, ExchangesOn, IsNext, Shows, ShowsNext}
use Rattle.relay_lane.specs.Turns.{Pauses, after_send, after_ticks, after_fail}
use Rattle.relay_lane.specs.Turns as turns
use Rattle.relay_lane.specs.Calls.{called_by}
use Rattle.relay_lane.specs.Delivers.{IsDelivered, GoesOn, LeadsOn}

-- ---- what is promised of each lane and outside that fit

pub delivered : (s : State) (taken : List Op) (o : Outside) → Fits s taken o → IsDelivered s taken o
delivered s taken o f =
    let counts = counts_where s.core taken o f in
    record {
      sound = sound_where s.core taken o f;
      complete = λ none distinct. complete_where s.core taken o f distinct none;
      applied = counts.0;
      already = counts.1;
    }

pub goes_on : {S : Type 0} (fits : S → Outside → Type 0) (w : S) (s : State) (taken : List Op) (calls : List Call) (o p : Outside) → fits w p → Continues o p → Explains calls o p → Fits s taken p → GoesOn fits w s taken calls o
goes_on fits w s taken calls o p fitting continues explains f = record { outside = p; fitting = fitting; continues = continues; explains = explains; lane = f; delivered = delivered s taken p f }

-- ---- what explains calls one after another

after_runs_on : (qs rs : List Ran) (o : Outside) → after_runs (qs ++ rs) o ≡ after_runs rs (after_runs qs o)
after_runs_on [] rs o = refl
after_runs_on (q ∷ qs) rs o = after_runs_on qs rs (after (Runs q) o)

may_run_on : (qs rs : List Ran) (o : Outside) → AllMayRun qs o → AllMayRun rs (after_runs qs o) → AllMayRun (qs ++ rs) o
may_run_on [] rs o a b = b
may_run_on (q ∷ qs) rs o a b = (a.0, may_run_on qs rs (after (Runs q) o) a.1 b)

-- what was run before the first of these calls
explains_after : (qs : List Ran) (cs : List Call) (o p : Outside) → AllMayRun qs o → Explains cs (after_runs qs o) p → Explains cs o p
explains_after qs [] o p may x = (qs ++ x.0, may_run_on qs x.0 o may x.1, x.2 ∙ sym (after_runs_on qs x.0 o))
explains_after qs (c ∷ cs) o p may x =
    let same = after_runs_on qs x.0 o in (
      qs ++ x.0,
      may_run_on qs x.0 o may x.1,
      subst (MayMeet c) (sym same) x.2,
      subst (λ z. Explains cs (met c z) p) (sym same) x.3,
    )

pub explains_on : (cs ds : List Call) (o p q : Outside) → Explains cs o p → Explains ds p q → Explains (cs ++ ds) o q
explains_on [] ds o p q a b = explains_after a.0 ds o q a.1 (subst (λ z. Explains ds z q) a.2 b)
explains_on (c ∷ cs) ds o p q a b = (a.0, a.1, a.2, explains_on cs ds (met c (after_runs a.0 o)) p q a.3 b)

pub explains_none : (o : Outside) → Explains [] o o
explains_none o = ([], tt, refl)

-- ---- nothing changed, and one after another

pub leads_itself : {S : Type 0} (d : Bool) (fits : S → Outside → Type 0) (v w : S) (s t : State) → w ≡ v → t ≡ s → LeadsOn d fits v w s t []
leads_itself d fits v w s t same_wire same d_true taken o f l =
    goes_on fits w t taken [] o o (subst (λ x. fits x o) (sym same_wire) f) (continues_itself o) (explains_none o) (subst (λ x. Fits x taken o) (sym same) l)

pub leads_on : {S : Type 0} (d e : Bool) (fits : S → Outside → Type 0) (u v w : S) (r s t : State) (cs ds : List Call) → e ≡ d → LeadsOn d fits u v r s cs → LeadsOn e fits v w s t ds → LeadsOn d fits u w r t (cs ++ ds)
leads_on d e fits u v w r s t cs ds same a b d_true taken o f l =
    let x = a d_true taken o f l in
    let y = b (subst IsTrue (sym same) d_true) taken x.outside x.fitting x.lane in
    record {
      outside = y.outside;
      fitting = y.fitting;
      continues = continues_on o x.outside y.outside x.continues y.continues;
      explains = explains_on cs ds o x.outside y.outside x.explains y.explains;
      lane = y.lane;
      delivered = y.delivered;
    }

-- ---- ticks

pub ticks_fit : (n : ℕ) (s : State) (taken : List Op) (o : Outside) → Fits s taken o → Fits (after_ticks n s) taken o
ticks_fit n s taken o l = clock_fits s.core (s.core.clock + n) taken o l

pub leads_ticks : {S : Type 0} (d : Bool) (fits : S → Outside → Type 0) (w : S) (s t : State) (n : ℕ) → t ≡ after_ticks n s → LeadsOn d fits w w s t (called_by (Pauses n) s)
leads_ticks d fits w s t n e d_true taken o f l =
    goes_on fits w t taken (called_by (Pauses n) s) o o f (continues_itself o) ([], tt, tt, ([], tt, refl)) (subst (λ x. Fits x taken o) (sym e) (ticks_fit n s taken o l))

-- ---- one request

run_one : (e : Event) (s : State) (taken : List Op) (o : Outside) → IsRun e → MayHappen e o → Fits s taken o → Fits s taken (after e o)
run_one (Sends ws) s taken o r may f = absurd r
run_one (Runs x) s taken o r may f = run_fits s x taken o may f
run_one (Answers n a) s taken o r may f = absurd r

runs_fit : (es : List Event) (s : State) (taken : List Op) (o : Outside) → AreRuns es → AllMayHappen es o → Fits s taken o → Fits s taken (after_all es o)
runs_fit [] s taken o r may f = f
runs_fit (e ∷ es) s taken o r may f = runs_fit es s taken (after e o) r.1 may.1 (run_one e s taken o r.0 may.0 f)

runs_on : (s : State) (taken : List Op) (o p : Outside) → RunsOn o p → Fits s taken o → Fits s taken p
runs_on s taken o p r f = subst (Fits s taken) (sym r.reached) (runs_fit r.events s taken o r.runs r.may f)

-- the runs alone
only_runs : (es : List Event) (o : Outside) → AreRuns es → AllMayHappen es o → (rs : List Ran) × AllMayRun rs o × (after_all es o ≡ after_runs rs o)
only_runs [] o r may = ([], tt, refl)
only_runs (Sends ws ∷ es) o r may = absurd r.0
only_runs (Runs x ∷ es) o r may = let k = only_runs es (after (Runs x) o) r.1 may.1 in (x ∷ k.0, (may.0, k.1), k.2)
only_runs (Answers n a ∷ es) o r may = absurd r.0

runs_explain : (o p : Outside) → RunsOn o p → Explains [] o p
runs_explain o p r = let k = only_runs r.events o r.runs r.may in (k.0, k.1, r.reached ∙ k.2)

runs_continue : (o p : Outside) → RunsOn o p → Continues o p
runs_continue o p r = record { events = r.events; may = r.may; reached = r.reached }

sends_continue : (ws : List Write) (o p : Outside) → SendsOn ws o p → Continues o p
sends_continue ws o p s = continues_on o (after (Sends ws) o) p (event_continues (Sends ws) o tt) (runs_continue (after (Sends ws) o) p s.runs)

answers_continue : (number : ℕ) (a : Answer) (o p : Outside) → AnswersOn number a o p → Continues o p
answers_continue number a o p r =
    subst (Continues o) (sym r.reached)
    (continues_on o r.before (after (Answers (from_zero number) a) r.before) (runs_continue o r.before r.runs) (event_continues (Answers (from_zero number) a) r.before r.may))

pub exchange_continues : (number : ℕ) (ws : List Write) (a : Answer) (o p : Outside) → ExchangesOn number ws a o p → Continues o p
exchange_continues number ws a o p x =
    continues_on o x.between p (sends_continue ws o x.between x.sends) (answers_continue number a x.between p x.answers)

-- a request that was sent, and the clock that was set then
sends_explain : (chosen : List Entry) (clock : ℕ) (o p : Outside) → SendsOn (writes_of_all chosen) o p → Explains (core.Sends chosen ∷ core.Ticks clock ∷ []) o p
sends_explain chosen clock o p x = ([], tt, tt, ([], tt, tt, runs_explain (after (Sends (writes_of_all chosen)) o) p x.runs))

-- an answer
answers_explain : (number : ℕ) (a : Answer) (o p : Outside) → AnswersOn number a o p → Explains (core.Answers number a ∷ []) o p
answers_explain number a o p x =
    let k = only_runs x.runs.events o x.runs.runs x.runs.may in
    let same : x.before ≡ after_runs k.0 o = x.runs.reached ∙ k.2 in (
      k.0,
      k.1,
      subst (λ z. MayAnswer z (from_zero number) a) same x.may,
      ([], tt, x.reached ∙ ap (λ z. after (Answers (from_zero number) a) z) same),
    )

-- and the clock that was set before it
answers_explain_later : (clock number : ℕ) (a : Answer) (o p : Outside) → AnswersOn number a o p → Explains (core.Ticks clock ∷ core.Answers number a ∷ []) o p
answers_explain_later clock number a o p x = ([], tt, tt, answers_explain number a o p x)

-- the request of a lane is the next one outside
pub number_is_next : (s : State) (taken : List Op) (o : Outside) → IsLane s → Fits s taken o → IsNext s.flights.next o
number_is_next s taken o l f = l.next ∙ ap (λ n. n + 1) (total_where s.core taken o f).1

module _ {S : Type 0} (d : Bool) (fits : S → Outside → Type 0) (v w : S) (s : State) (l : IsLane s) (items : List BatchItem) (some : next_batch s ≡ Some items) (ws : List Write) (are : ws ≡ writes_of_all (next_entries s)) where
  -- a request that was sent
  pub leads_send : (n : ℕ) → ShowsNext d fits v w s.flights.next (SendsOn ws) → LeadsOn d fits v w s (after_ticks n (after_send s)) (called_by (turns.Sends n) s)
  leads_send n shows d_true taken o f fit =
      let x = shows d_true o f (number_is_next s taken o l fit) in
      let e = subst (λ us. SendsOn us o x.0) are x.2 in
      goes_on fits w (after_ticks n (after_send s)) taken (called_by (turns.Sends n) s) o x.0 x.1 (sends_continue (writes_of_all (next_entries s)) o x.0 e)
      (sends_explain (next_entries s) (s.core.clock + n) o x.0 e)
      (ticks_fit n (after_send s) taken x.0 (runs_on (after_send s) taken (after (Sends (writes_of_all (next_entries s))) o) x.0 e.runs (request_fits s items taken o some fit)))

  -- ... and one that could not be sent
  pub leads_fail : (why : Loss) (n : ℕ) → ShowsNext d fits v w s.flights.next (ExchangesOn s.flights.next ws (Lost why)) → LeadsOn d fits v w s (after_fail why n s) (called_by (turns.Fails why n) s)
  leads_fail why n shows d_true taken o f fit =
      let x = shows d_true o f (number_is_next s taken o l fit) in
      let e = subst (λ us. ExchangesOn s.flights.next us (Lost why) o x.0) are x.2 in
      let us = writes_of_all (next_entries s) in
      let sent = runs_on (after_send s) taken (after (Sends us) o) e.between e.sends.runs (request_fits s items taken o some fit) in
      let ran = ticks_fit n (after_send s) taken e.answers.before (runs_on (after_send s) taken e.between e.answers.before e.answers.runs sent) in
      goes_on fits w (after_fail why n s) taken (called_by (turns.Fails why n) s) o x.0 x.1 (exchange_continues s.flights.next us (Lost why) o x.0 e)
      (explains_on (core.Sends (next_entries s) ∷ core.Ticks (s.core.clock + n) ∷ []) (core.Answers s.flights.next (Lost why) ∷ []) o e.between x.0 (sends_explain (next_entries s) (s.core.clock + n) o e.between e.sends) (answers_explain s.flights.next (Lost why) e.between x.0 e.answers))
      (subst (Fits (after_fail why n s) taken) (sym e.answers.reached) (answer_fits (after_ticks n (after_send s)) s.flights.next (Lost why) taken e.answers.before (request_flies s l items some) e.answers.may ran))

-- the answer to a request, after ticks
pub leads_answer : {S : Type 0} (d : Bool) (fits : S → Outside → Type 0) (v w : S) (s : State) (n number : ℕ) (a : Answer) → is_flying number s ≡ true → Shows d fits v w (AnswersOn number a)
    → LeadsOn d fits v w s (after_answer_to (after_ticks n s) number a) (core.Ticks (s.core.clock + n) ∷ core.Answers number a ∷ [])
leads_answer d fits v w s n number a flies shows d_true taken o f fit =
    let x = shows d_true o f in
    let t = after_ticks n s in
    let ran = runs_on t taken o x.2.before x.2.runs (ticks_fit n s taken o fit) in
    goes_on fits w (after_answer_to t number a) taken (core.Ticks (s.core.clock + n) ∷ core.Answers number a ∷ []) o x.0 x.1 (answers_continue number a o x.0 x.2)
    (answers_explain_later (s.core.clock + n) number a o x.0 x.2)
    (subst (Fits (after_answer_to t number a) taken) (sym x.2.reached) (answer_fits t number a taken x.2.before flies x.2.may ran))
