-- What holds at every moment says that all is accounted for.
use Rattle.std.proofs.Common.{◌≡◌, ℕ, List, [], ◌∷◌, ◌++◌, Some, refl, sym, ap, ◌∙◌, subst, ⊎_elim, inl, inr, arith}
use Rattle.std.specs.Prelude.{◌⊎◌, slice_get, map}
use Rattle.relay_action.specs.declared.write.Write.{Write}
use Rattle.relay_action.specs.declared.operation.Op.{Op}
use Rattle.relay_results.specs.Words.{Mem, AllDistinct, IsSubsequence}
use Rattle.relay_results.specs.Documents.{Document, document_of, name_of, write_for}
use Rattle.relay_results.specs.Outside.{Outside, Continues}
use Rattle.relay_results.specs.Outside as outside
use Rattle.relay_delivery.specs.Attribution.{IsAttribution, IsInProducerOrder, is_from}
use Rattle.relay_delivery.specs.Machine.{Config, Core, Report, Takes, Sends, Runs, Answers, Step, step, steps_of, MayStep, AllMayStep, write_of, IsFresh, CameAboutFrom}
use Rattle.relay_delivery.specs.Delivery.{taken_of, applied_ops, IsTrueReport, IsSound, IsComplete, SoundAlways, CompleteAtTheEnd, TotalAlways, WritesAreDealt, ContinuesAlways, FreshCameAbout, StepCameAbout}
use Rattle.relay_results.proofs.Lists.{equal_test, at-Mem, at-within, Mem-at, map-Mem, filter-Mem, some_same, sub-filter, sub-map, Mem-sub, AllDistinct-sub}
use Rattle.relay_delivery.proofs.Facts.{Past, TellsOwn, IsDealt, IsOfOne, SpentFact, CauseFact, CoreFacts}
use Rattle.relay_delivery.proofs.Ordered.{ops-in_order, ops-same, op-of, of-op}
use Rattle.relay_delivery.proofs.Versions.{version_in, version_of, is_assignment, none_over, version_there}
use Rattle.relay_delivery.proofs.Names.{taken_once, reported_once}
use Rattle.relay_delivery.proofs.Keeps.{none_past, tells_none, facts_of, own_sent}

-- an operation that was taken was applied
pub record IsAppliedAs (g : Config) (c : Core) (o : Op) : Type 0 where
  pub write : Write
  pub is_in : Mem write (c.outside.applied (document_of o.key))
  pub one : IsOfOne g c.taken write
  pub op : one.op ≡ o

-- ---- whatever the past

module _ (g : Config) (past : Past) (c : Core) (f : CoreFacts g past c) (distinct : AllDistinct (map name_of c.taken)) where
  dealt_version : (o : Op) (v : ℕ) → IsDealt g c.taken o v → version_in g.first g.deals c.taken o ≡ Some v
  dealt_version o v d = version_of c.taken g.first g.deals d.place o distinct d.stands d.within ∙ ap Some (sym d.version)

  true_spent : (r : Report) → SpentFact g c.taken r → IsTrueReport g c.taken c.outside (version_in g.first g.deals c.taken) r
  true_spent r s = record {
    op = s.op;
    was_taken = at-Mem c.taken s.place s.op s.stands;
    name = s.name;
    document = s.document;
    cause = inr (record {
      cause_is = s.cause;
      never_sent = λ v e. absurd (none_over g.first g.deals c.taken s.op s.place v distinct s.stands s.past e);
      over = let w = at-within c.taken s.place s.op s.stands in let p = s.past in omega (arith, w, p);
    });
  }

  true_cause : (r : Report) → CauseFact g c.taken c.held c.outside r → IsTrueReport g c.taken c.outside (version_in g.first g.deals c.taken) r
  true_cause r s = record {
    op = s.op;
    was_taken = at-Mem c.taken s.dealt.place s.op s.dealt.stands;
    name = s.name;
    document = s.document;
    cause = inl (record { version = s.version; is_dealt = dealt_version s.op s.version s.dealt; of_write = s.cause });
  }

  pub reports_true : (r : Report) → Mem r c.reports → IsTrueReport g c.taken c.outside (version_in g.first g.deals c.taken) r
  reports_true r m = ⊎_elim (λ s. true_spent r s) (λ s. true_cause r s) (f.reports r m)

  pub reports_once : AllDistinct (map (λ (r : Report). r.name) c.reports)
  reports_once = reported_once c.reports (λ n. let a = f.apart n in let b = taken_once c.taken distinct n in omega (arith, a, b))

  -- if nothing is held, each operation that was taken was applied or is reported
  pub accounted : TellsOwn g past c.outside.runs → c.held ≡ [] → (o : Op) → Mem o c.taken → IsAppliedAs g c o ⊎ Mem (name_of o) (map (λ (r : Report). r.name) c.reports)
  accounted tells none o m =
      let at = Mem-at o c.taken m in
      ⊎_elim
      (λ h. absurd (subst (λ hs. Mem h.held_op hs) none h.is_in))
      (λ z. ⊎_elim
      (λ y.
      let a : IsOfOne g c.taken y.write = ⊎_elim (λ one. one) (λ old. let lt = f.past_below y.write old in let u = y.version in absurd (omega (arith, lt, u))) (f.sent y.write ((f.index (document_of o.key)).sent y.write y.is_in)) in
      let place : a.dealt.place ≡ at.0 = (let v = a.dealt.version in let u = y.version in omega (arith, v, u)) in
      let same : a.op ≡ o = some_same a.op o (sym a.dealt.stands ∙ ap (slice_get c.taken) place ∙ at.1) in
      inl (record { write = y.write; is_in = y.is_in; one = a; op = same }))
      (λ p. inr (subst (λ n. Mem n (map (λ (r : Report). r.name) c.reports)) p.name (map-Mem (λ (r : Report). r.name) p.report c.reports p.is_in)))
      z)
      (f.nothing_lost tells at.0 o at.1)

-- ---- if nothing is of the past

module _ (g : Config) (past : Past) (nothing : (w : Write) → past.writes w → ⊥) (c : Core) (f : CoreFacts g past c) (distinct : AllDistinct (map name_of c.taken)) where
  of_one : (k : Document) (w : Write) → Mem w (c.outside.applied k) → IsOfOne g c.taken w
  of_one k w m = own_sent g past nothing c f w ((f.index k).sent w m)

  ops_sub : (k : Document) → IsSubsequence (applied_ops g c.taken c.outside k) c.taken
  ops_sub k = ops-in_order g c.taken (c.outside.applied k) (f.index k).rising (of_one k)

  attribution : (k : Document) → IsAttribution (taken_of c.taken) k (c.outside.applied k) (applied_ops g c.taken c.outside k)
  attribution k = record {
    actions = ops-same g c.taken (c.outside.applied k) (of_one k);
    distinct = AllDistinct-sub (map name_of (applied_ops g c.taken c.outside k)) (map name_of c.taken) distinct (sub-map name_of (applied_ops g c.taken c.outside k) c.taken (ops_sub k));
    accepted_each = λ o m. (o.producer, filter-Mem (is_from o.producer) o c.taken (Mem-sub o (applied_ops g c.taken c.outside k) c.taken (ops_sub k) m) (equal_test o.producer o.producer refl));
    of_document = λ o m.
        let w = op-of g c.taken (c.outside.applied k) (of_one k) o m in
        ap (λ (x : Op). document_of x.key) w.2.1 ∙ sym (ap (λ (x : Write). document_of x.key) w.2.0.write) ∙ (f.index k).document w.0 w.1;
  }

  in_order : (k : Document) → IsInProducerOrder (taken_of c.taken) (applied_ops g c.taken c.outside k)
  in_order k p = sub-filter (is_from p) (applied_ops g c.taken c.outside k) c.taken (ops_sub k)

  pub sound : IsSound g c.taken c.reports c.outside (applied_ops g c.taken c.outside)
  sound = record {
    attribution = attribution;
    in_order = in_order;
    versions = version_in g.first g.deals c.taken;
    assignment = is_assignment g.first g.deals c.taken;
    assigned = λ place o at. version_there g.first g.deals c.taken place o distinct at;
    true_reports = reports_true g past c f distinct;
    once = reports_once g past c f distinct;
  }

  pub complete : TellsOwn g past c.outside.runs → c.held ≡ [] → IsComplete c.taken c.reports (applied_ops g c.taken c.outside)
  complete tells none o m = ⊎_elim
      (λ y. inl (subst (λ p. Mem p (applied_ops g c.taken c.outside (document_of o.key))) y.op (of-op g c.taken (c.outside.applied (document_of o.key)) y.write y.is_in y.one)))
      (λ p. inr p)
      (accounted g past c f distinct tells none o m)

pub sound_always : SoundAlways
sound_always g c r distinct = sound g (none_past g) (λ w m. m) c (facts_of g c r) distinct

pub complete_at_the_end : CompleteAtTheEnd
complete_at_the_end g c r distinct none = complete g (none_past g) (λ w m. m) c (facts_of g c r) distinct (tells_none g c) none

pub total_always : TotalAlways
total_always g c r = (facts_of g c r).totals

pub writes_are_dealt : WritesAreDealt
writes_are_dealt g c r q m w n =
    let at = Mem-at q c.outside.requests m in
    let one = own_sent g (none_past g) (λ x y. y) c (facts_of g c r) w (record { number = at.0; request = q; sent = at.1; is_in = n }) in
    record {
      op = one.op;
      place = one.dealt.place;
      was_taken = one.dealt.stands;
      within = one.dealt.within;
      write = one.write ∙ ap (write_for one.op) one.dealt.version;
    }

-- ---- what comes about

pub fresh_came_about : FreshCameAbout
fresh_came_about g c fresh = record { start = c; fresh = fresh; steps = []; may = tt; reached = refl }

steps_more : (g : Config) (ss : List Step) (s : Step) (c : Core) → steps_of g (ss ++ s ∷ []) c ≡ step g s (steps_of g ss c)
steps_more g [] s c = refl
steps_more g (x ∷ ss) s c = steps_more g ss s (step g x c)

may_more : (g : Config) (ss : List Step) (s : Step) (c : Core) → AllMayStep g ss c → MayStep s (steps_of g ss c) → AllMayStep g (ss ++ s ∷ []) c
may_more g [] s c all may = (may, tt)
may_more g (x ∷ ss) s c all may = (all.0, may_more g ss s (step g x c) all.1 may)

pub step_from : (begin : Config → Core → Type 0) (g : Config) (c : Core) (s : Step) → CameAboutFrom begin g c → MayStep s c → CameAboutFrom begin g (step g s c)
step_from begin g c s r may = record {
  start = r.start;
  fresh = r.fresh;
  steps = r.steps ++ s ∷ [];
  may = may_more g r.steps s r.start r.may (subst (λ d. MayStep s d) (sym r.reached) may);
  reached = steps_more g r.steps s r.start ∙ ap (step g s) r.reached;
}

pub step_came_about : StepCameAbout
step_came_about g c s r may = step_from IsFresh g c s r may

-- ---- the events of steps

steps_continue : (g : Config) (ss : List Step) (c : Core) → AllMayStep g ss c → Continues c.outside (steps_of g ss c).outside
steps_continue g [] c may = record { events = []; may = tt; reached = refl }
steps_continue g (Takes o ∷ ss) c may = steps_continue g ss (step g (Takes o) c) may.1
steps_continue g (Sends chosen ∷ ss) c may = let r = steps_continue g ss (step g (Sends chosen) c) may.1 in record { events = outside.Sends (map write_of chosen) ∷ r.events; may = (tt, r.may); reached = r.reached }
steps_continue g (Runs x ∷ ss) c may = let r = steps_continue g ss (step g (Runs x) c) may.1 in record { events = outside.Runs x ∷ r.events; may = (may.0, r.may); reached = r.reached }
steps_continue g (Answers number a old ∷ ss) c may = let r = steps_continue g ss (step g (Answers number a old) c) may.1 in record { events = outside.Answers number a ∷ r.events; may = (may.0, r.may); reached = r.reached }

pub continues_always : ContinuesAlways
continues_always g c r = (r.start.outside, r.fresh.new.opening, subst (λ d. Continues r.start.outside d.outside) r.reached (steps_continue g r.steps r.start r.may))
