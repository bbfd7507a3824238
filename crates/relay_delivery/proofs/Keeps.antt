-- Each step keeps what holds, from a fresh lane on.
use Rattle.std.proofs.Common.{◌≡◌, ◌+◌, ◌<◌, ℕ, List, [], ◌∷◌, Some, refl, sym, ap, subst, ⊎_elim, inl, inr, arith, length}
use Rattle.relay_results.specs.Words.{Mem, count}
use Rattle.relay_action.specs.declared.operation.Op.{Op}
use Rattle.relay_delivery.specs.Machine.{Config, Core, Held, Report, Step, Takes, Sends, Runs, Answers, step, steps_of, MayStep, AllMayStep, IsNew, IsFresh, CameAbout}
use Rattle.relay_results.specs.Documents.{Document}
use Rattle.relay_results.specs.Outside.{Ran, after}
use Rattle.relay_results.specs.Outside as outside
use Rattle.relay_results.proofs.Steps.{step_runs_item}
use Rattle.relay_results.proofs.Lists.{none_in, none_at, Mem-left}
use Rattle.relay_action.specs.declared.write.Write.{Write}
use Rattle.relay_delivery.proofs.Facts.{Past, TellsOwn, IsOfOne, IsSent, IsRising, AreRising, CoreFacts, is_held_as, is_report_as}
use Rattle.relay_delivery.proofs.Take.{take_keeps}
use Rattle.relay_delivery.proofs.Send.{send_keeps}
use Rattle.relay_delivery.proofs.Run.{run_keeps}
use Rattle.relay_delivery.proofs.Answer.{answer_keeps}

-- if no request is of the past, and the versions from before are below the first one assigned
abbrev pub none_past : Config → Past
none_past g = record { writes = λ w. ⊥; versions = λ u. u < g.first }

pub tells_none : (g : Config) (c : Core) → TellsOwn g (none_past g) c.outside.runs
tells_none g c = inl (λ u lt. lt)

pub fresh_facts : (g : Config) (past : Past) → ((w : Write) → past.writes w → ⊥) → (c : Core) → IsNew c
    → ((k : Document) (u : ℕ) → c.outside.stored k ≡ Some u → past.versions u) → CoreFacts g past c
fresh_facts g past none c s from = record {
  past_below = λ w m. absurd (none w m);
  held = λ h m. absurd (none_in c.held h s.held m);
  alone = λ h j m mj e. absurd (none_in c.held h s.held m);
  in_rise = subst (λ hs. AreRising hs) (sym s.held) tt;
  sent = λ w y. absurd (none_at c.outside.requests y.number y.request s.opening.requests y.sent);
  runs = λ r m. absurd (none_in c.outside.runs r s.opening.runs m);
  index = λ k. record {
    sent = λ w m. absurd (none_in (c.outside.applied k) w (s.opening.applied k) m);
    document = λ w m. absurd (none_in (c.outside.applied k) w (s.opening.applied k) m);
    rising = subst (λ xs. IsRising xs) (sym (s.opening.applied k)) tt;
    above = λ w m. absurd (none_in (c.outside.applied k) w (s.opening.applied k) m);
    from = λ u e. inl (from k u e);
  };
  reports = λ r m. absurd (none_in c.reports r s.reports m);
  apart = λ n.
      let a = ap (count (is_held_as n)) s.held in
      let b = ap (count (is_report_as n)) s.reports in omega arith;
  totals =
      let h = ap length s.held in
      let r = ap length s.reports in
      let t = ap length s.taken in
      let a = s.applied in
      let b = s.already in
      let z : length {A = Op} [] ≡ 0 = refl in
      let z' : length {A = Held} [] ≡ 0 = refl in
      let z'' : length {A = Report} [] ≡ 0 = refl in
      omega (arith, h, r, t, a, b, z, z', z'');
  nothing_lost = λ tells place o y. absurd (none_at c.taken place o s.taken y);
}

pub fresh_none : (g : Config) (c : Core) → IsFresh g c → CoreFacts g (none_past g) c
fresh_none g c s = fresh_facts g (none_past g) (λ w m. m) c s.new s.below

pub step_keeps : (g : Config) (past : Past) (c : Core) (f : CoreFacts g past c) (s : Step) → MayStep s c → CoreFacts g past (step g s c)
step_keeps g past c f (Takes o) may = take_keeps g past c f o
step_keeps g past c f (Sends chosen) may = send_keeps g past c f chosen may
step_keeps g past c f (Runs r) may = run_keeps g past c f r may
step_keeps g past c f (Answers number a old) may = answer_keeps g past c f number a old may

pub steps_keep : (g : Config) (past : Past) (ss : List Step) (c : Core) → CoreFacts g past c → AllMayStep g ss c → CoreFacts g past (steps_of g ss c)
steps_keep g past [] c f may = f
steps_keep g past (s ∷ ss) c f may = steps_keep g past ss (step g s c) (step_keeps g past c f s may.0) may.1

-- what came about has them
pub facts_of : (g : Config) (c : Core) → CameAbout g c → CoreFacts g (none_past g) c
facts_of g c r =
    subst (λ d. CoreFacts g (none_past g) d) r.reached
    (steps_keep g (none_past g) r.steps r.start (fresh_none g r.start r.fresh) r.may)

-- then each write that was sent is of an operation that was taken
pub own_sent : (g : Config) (past : Past) → ((w : Write) → past.writes w → ⊥) → (c : Core) (f : CoreFacts g past c) (w : Write) → IsSent c.outside.requests w → IsOfOne g c.taken w
own_sent g past none c f w s = ⊎_elim (λ one. one) (λ old. absurd (none w old)) (f.sent w s)
