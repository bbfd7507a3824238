-- What a step of the outside does, and events one after another.
use Rattle.std.proofs.Common.{◌≡◌, ◌⊎◌, ◌∙◌, List, [], ◌∷◌, ◌++◌, ℕ, Option, Some, Bool, true, false, refl, ap, sym, subst, inl, inr, append-nil}
use Rattle.relay_action.specs.declared.write.Write.{Write}
use Rattle.relay_results.specs.Documents.{Document, document_of, same_document}
use Rattle.relay_results.specs.Outside.{Ran, RunOutcome, Outside, IsOutcomeOf, is_above, is_applied, ran_of, write_at, Event, after, after_all, AllMayHappen}
use Rattle.relay_results.specs.Laws.{GrowsBy, StaysAt, RunsItem, StepRunsItem, ContinuesItself, ContinuesOn, EventContinues}
use Rattle.relay_results.proofs.Lists.{apart_tests}
use Rattle.relay_results.proofs.Same.{same_document-true, same_document-self}
use Rattle.relay_results.proofs.Excluded.{with_error}

-- an outcome of a run that applied its write says that the version was above
above_of : (stored : Option ℕ) (w : Write) (o : RunOutcome) → IsOutcomeOf stored w o → is_applied w o ≡ true → is_above stored w.version ≡ true
above_of stored w o run a =
    elim run [
      | inl refused ↦ absurd (apart_tests (sym (with_error w o refused.has_error) ∙ a))
      | inr rest ↦ elim rest [
        | inl applied ↦ applied.0
        | inr conflict ↦ absurd (apart_tests (sym (with_error w o conflict.1.has_error) ∙ a))
      ]
    ]

-- what a run does to a document, by whether it applied the write and whether the write is of this document
grown : (old : Outside) (r : Ran) (w : Write) (k : Document) → is_applied w r.outcome ≡ true → same_document k (document_of w.key) ≡ true → IsOutcomeOf (old.stored (document_of w.key)) w r.outcome
    → GrowsBy old (ran_of old r (Some w)) k w
grown old r w k e d run =
    let place : k ≡ document_of w.key = same_document-true k (document_of w.key) d in
    rw e (record {
      applied = rw d refl;
      of_document = sym place;
      above = subst (λ j. is_above (old.stored j) w.version ≡ true) (sym place) (above_of (old.stored (document_of w.key)) w r.outcome run e);
      stored = rw d refl;
    })

at_document : (old : Outside) (r : Ran) (w : Write) (k : Document) (a same : Bool) → is_applied w r.outcome ≡ a → same_document k (document_of w.key) ≡ same
    → IsOutcomeOf (old.stored (document_of w.key)) w r.outcome
    → StaysAt old (ran_of old r (Some w)) k ⊎ ((is_applied w r.outcome ≡ true) × GrowsBy old (ran_of old r (Some w)) k w)
at_document old r w k false same e d run = inl (rw e (record { applied = refl; stored = refl }))
at_document old r w k true false e d run = inl (rw e (record { applied = rw d (append-nil (old.applied k)); stored = rw d refl }))
at_document old r w k true true e d run = inr (e, grown old r w k e d run)

-- what it leaves of the rest
record Keeps (old new : Outside) (r : Ran) : Type 0 where
  requests : new.requests ≡ old.requests
  runs : new.runs ≡ old.runs ++ r ∷ []
  before : new.before ≡ old.before

keeps : (old : Outside) (r : Ran) (w : Write) (a : Bool) → is_applied w r.outcome ≡ a → Keeps old (ran_of old r (Some w)) r
keeps old r w true e = rw e (record { requests = refl; runs = refl; before = refl })
keeps old r w false e = rw e (record { requests = refl; runs = refl; before = refl })

runs_from : (old new : Outside) (r : Ran) (w : Write) → new ≡ ran_of old r (Some w) → write_at old.requests r.request r.place ≡ Some w → IsOutcomeOf (old.stored (document_of w.key)) w r.outcome → RunsItem old new r w
runs_from old new r w e sent run =
    let kept = keeps old r w (is_applied w r.outcome) refl in
    record {
      item = sent;
      requests = ap (λ (s : Outside). s.requests) e ∙ kept.requests;
      runs = ap (λ (s : Outside). s.runs) e ∙ kept.runs;
      before = ap (λ (s : Outside). s.before) e ∙ kept.before;
      documents = λ k. subst (λ s. StaysAt old s k ⊎ ((is_applied w r.outcome ≡ true) × GrowsBy old s k w)) (sym e)
          (at_document old r w k (is_applied w r.outcome) (same_document k (document_of w.key)) refl refl run);
      grows = λ a. subst (λ s. GrowsBy old s (document_of w.key) w) (sym e) (grown old r w (document_of w.key) a (same_document-self (document_of w.key)) run);
    }

pub step_runs_item : StepRunsItem
step_runs_item old new s = runs_from old new s.run s.may.write (s.reached ∙ ap (ran_of old s.run) s.may.sent) s.may.sent s.may.outcome

-- ---- events one after another

after_both : (es fs : List Event) (s : Outside) → after_all (es ++ fs) s ≡ after_all fs (after_all es s)
after_both [] fs s = refl
after_both (e ∷ es) fs s = after_both es fs (after e s)

may_both : (es fs : List Event) (s : Outside) → AllMayHappen es s → AllMayHappen fs (after_all es s) → AllMayHappen (es ++ fs) s
may_both [] fs s m n = n
may_both (e ∷ es) fs s m n = (m.0, may_both es fs (after e s) m.1 n)

pub continues_itself : ContinuesItself
continues_itself s = record { events = []; may = tt; reached = refl }

pub event_continues : EventContinues
event_continues e s may = record { events = e ∷ []; may = (may, tt); reached = refl }

pub continues_on : ContinuesOn
continues_on a b c m n = record {
  events = m.events ++ n.events;
  may = may_both m.events n.events a m.may (subst (λ s. AllMayHappen n.events s) m.reached n.may);
  reached = n.reached ∙ ap (after_all n.events) m.reached ∙ sym (after_both m.events n.events a);
}
