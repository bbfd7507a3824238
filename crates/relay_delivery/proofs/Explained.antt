-- A lane fits each outside that explains its calls.
use Rattle.std.proofs.Common.{◌≡◌, List, [], ◌∷◌, ◌++◌, refl, sym, subst, append_assoc, append-nil}
use Rattle.relay_action.specs.declared.operation.Op.{Op}
use Rattle.relay_results.specs.Outside.{Ran, Outside, IsOpening, MayRun, after}
use Rattle.relay_results.specs.Outside as outside
use Rattle.relay_delivery.specs.Machine.{Config, Core, IsFresh, CameAboutFrom}
use Rattle.relay_delivery.specs.Lane.{State, FitsFrom, fresh_state}
use Rattle.relay_delivery.specs.Reach.{Call, Takes, Ticks, Sends, Answers, call, calls_of, MayCall, AllMayCall, taken_by, taken_in, Reached}
use Rattle.relay_delivery.specs.Explained.{after_runs, AllMayRun, met, MayMeet, Explains, ExplainedFits, ExplainedIsSound, ExplainedIsComplete}
use Rattle.relay_delivery.proofs.Facts.{AreRising}
use Rattle.relay_delivery.proofs.Keeps.{facts_of}
use Rattle.relay_delivery.proofs.Fitting.{take_from, clock_from, send_from, run_from, answer_from, new_core, new_is_new, fresh_from, sound_where, complete_where}

-- fits of this kind go on along the calls, if what is held rises in version
module _ (begin : Config → Core → Type 0) (rising : (g : Config) (c : Core) → CameAboutFrom begin g c → AreRising c.held) where
  runs_fit : (rs : List Ran) (s : State) (taken : List Op) (o : Outside) → AllMayRun rs o → FitsFrom begin s taken o → FitsFrom begin s taken (after_runs rs o)
  runs_fit [] s taken o may f = f
  runs_fit (r ∷ rs) s taken o may f = runs_fit rs s taken (after (outside.Runs r) o) may.1 (run_from begin s r taken o may.0 f)

  call_fits : (c : Call) (s : State) (taken : List Op) (o : Outside) → MayCall c s → MayMeet c o → FitsFrom begin s taken o → FitsFrom begin (call c s) (taken ++ taken_by c) (met c o)
  call_fits (Takes op bytes) s taken o may meets f = take_from begin s op bytes taken o f
  call_fits (Ticks clock) s taken o may meets f = subst (λ ops. FitsFrom begin (call (Ticks clock) s) ops o) (sym (append-nil taken)) (clock_from begin s clock taken o f)
  call_fits (Sends chosen) s taken o may meets f =
      subst (λ ops. FitsFrom begin (call (Sends chosen) s) ops (met (Sends chosen) o)) (sym (append-nil taken))
      (send_from begin s chosen taken o may.0 may.1 f (rising s.config f.core f.came_about))
  call_fits (Answers number a) s taken o may meets f =
      subst (λ ops. FitsFrom begin (call (Answers number a) s) ops (met (Answers number a) o)) (sym (append-nil taken)) (answer_from begin s number a taken o may.0 meets f)

  calls_fit : (cs : List Call) (s : State) (taken : List Op) (o p : Outside) → AllMayCall cs s → Explains cs o p → FitsFrom begin s taken o → FitsFrom begin (calls_of cs s) (taken ++ taken_in cs) p
  calls_fit [] s taken o p may x f =
      subst (λ ops. FitsFrom begin s ops p) (sym (append-nil taken)) (subst (FitsFrom begin s taken) (sym x.2) (runs_fit x.0 s taken o x.1 f))
  calls_fit (c ∷ cs) s taken o p may x f =
      let q = after_runs x.0 o in
      let here = call_fits c s taken q may.0 x.2 (runs_fit x.0 s taken o x.1 f) in
      subst (λ ops. FitsFrom begin (calls_of cs (call c s)) ops p) (append_assoc taken (taken_by c) (taken_in cs)) (calls_fit cs (call c s) (taken ++ taken_by c) (met c q) p may.1 x.3 here)

  pub explained_from : (s : State) (taken : List Op) (r : Reached s taken) (o p : Outside) → IsOpening o → begin s.config (new_core o) → Explains r.calls o p → FitsFrom begin s taken p
  explained_from s taken r o p opening fresh x =
      let f = calls_fit r.calls (fresh_state s.config) [] o p r.may x (fresh_from begin s.config o opening fresh) in
      subst (λ ops. FitsFrom begin s ops p) r.took (subst (λ (t : State). FitsFrom begin t (taken_in r.calls) p) r.reached f)

-- ---- if the stored versions are below those that the lane assigns

pub explained_fits : ExplainedFits
explained_fits s taken r o p begins x =
    explained_from IsFresh (λ g c came. (facts_of g c came).in_rise) s taken r o p begins.opening (record { new = new_is_new o begins.opening; below = begins.below }) x

pub explained_sound : ExplainedIsSound
explained_sound s taken r o p begins x names = sound_where s taken p (explained_fits s taken r o p begins x) names

pub explained_complete : ExplainedIsComplete
explained_complete s taken r o p begins x names none = complete_where s taken p (explained_fits s taken r o p begins x) names none
