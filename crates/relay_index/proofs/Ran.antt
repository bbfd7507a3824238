-- What a run of a write leaves, and that it is a run of the outside.
use Rattle.std.proofs.Common.{ℕ, List, Option, None, option_map, inl, inr, ◌≡◌, ◌∙◌, [], ◌∷◌, ◌++◌, Some, Bool, true, false, refl, ap, sym, append-nil, append_assoc, if◌then◌else◌}
use Rattle.std.specs.Prelude.{is_some, codes}
use Rattle.relay_action.specs.Actions.{kind_of}
use Rattle.relay_action.specs.declared.action.ActionKind.{ActionKind}
use Rattle.relay_action.specs.declared.action.ActionKind.TheVariants as kind
use Rattle.relay_action.specs.declared.write.Write.{Write}
use Rattle.relay_results.specs.Documents.{Document, document_of, same_document}
use Rattle.relay_results.specs.declared.done.VersionConflict.{VersionConflict}
use Rattle.relay_results.specs.Done.{failure, error_by}
use Rattle.relay_results.specs.Verdicts.{is_success}
use Rattle.relay_results.specs.Outside.{stored_in, Outside, Ran, IsOutcomeOf, is_applied, ran_of}
use Rattle.relay_index.specs.declared.choice.Choice.{Choice}
use Rattle.relay_index.specs.declared.choice.Choice.TheVariants.{Run, Refuse}
use Rattle.relay_index.specs.States.{State, applied_writes, stored_version, last_of, is_live}
use Rattle.relay_index.specs.Runs.{stated, is_newer, is_run, applied_result, status_of, done_of, outcome_of_run, Effect, Shows}
use Rattle.relay_index.specs.Choices.{MayChoose}
use Rattle.relay_index.specs.Laws.{RunIsOfOutside}
use Rattle.relay_index.specs.Lists.{after_run}
use Rattle.relay_index.proofs.Appended.{applied-with_write, stored-appended}

-- ---- the effect

pub Effect-after_run : (s : State) (w : Write) (choice : Choice) → Effect s w choice (after_run s w choice)
Effect-after_run s w choice = by (is_run s w choice) refl
  where
    by : (b : Bool) → is_run s w choice ≡ b → Effect s w choice (after_run s w choice)
    by true e = record { lists = λ k. rw e (applied-with_write s.documents w k); count = rw e refl; states = rw e refl }
    by false e = record { lists = λ k. rw e (sym (append-nil _)); count = rw e refl; states = rw e refl }

-- ---- the outcome

-- a run that did something says so
success_of : (id : List ℕ) (c : Option VersionConflict) (k : ActionKind) (live : Bool)
    → is_success k (status_of (applied_result k live)) (is_some (option_map (error_by id c) (failure (applied_result k live)))) ≡ true
success_of id c kind.Index true = refl
success_of id c kind.Index false = refl
success_of id c kind.Delete true = refl
success_of id c kind.Delete false = refl

-- the outcome says that the write was applied exactly if it was
pub is_applied-done_of : (s : State) (w : Write) (choice : Choice) → is_applied w (outcome_of_run (done_of s w choice)) ≡ is_run s w choice
is_applied-done_of s w (Refuse status) = refl
is_applied-done_of s w Run = by (is_newer s w) refl
  where
    by : (b : Bool) → is_newer s w ≡ b → is_applied w (outcome_of_run (done_of s w Run)) ≡ is_newer s w
    by true e = rw e (success_of w.key.id None (kind_of w.action) (is_live s (document_of w.key)))
    by false e = rw e refl

-- ---- as the outside

pub Shows-after_run : (s : State) (w : Write) (choice : Choice) (o : Outside) (r : Ran) → Shows o s → r.outcome ≡ outcome_of_run (done_of s w choice)
    → Shows (ran_of o r (Some w)) (after_run s w choice)
Shows-after_run s w choice o r shows is = by (is_run s w choice) refl
  where
    same : is_applied w r.outcome ≡ is_run s w choice
    same = ap (is_applied w) is ∙ is_applied-done_of s w choice

    by : (b : Bool) → is_run s w choice ≡ b → Shows (ran_of o r (Some w)) (after_run s w choice)
    by true e = rw (same, e) (record {
      versions = λ k. sym (stored-appended s w k ∙ ap (λ v. if same_document k (document_of w.key) then Some w.version else v) (sym (shows.versions k)));
      lists = λ k. sym (append_assoc (o.before k) (o.applied k) _) ∙ ap (λ l. l ++ (if same_document k (document_of w.key) then w ∷ [] else [])) (shows.lists k) ∙ sym (applied-with_write s.documents w k);
    })
    by false e = rw (same, e) (record { versions = shows.versions; lists = shows.lists })

-- ---- as a run of the outside

-- a version that is stated is the stored one
stated_is : (s : State) (w : Write) (version : ℕ) → stored_in (Some (error_by w.key.id (stated s w) (codes "version_conflict_engine_exception"))) ≡ Some version → stored_version s (document_of w.key) ≡ Some version
stated_is s w version = by s.states (stored_version s (document_of w.key))
  where
    by : (b : Bool) (stored : Option ℕ)
        → stored_in (Some (error_by w.key.id (if b then option_map (λ (v : ℕ). record { stored = v; provided = w.version }) stored else None) (codes "version_conflict_engine_exception"))) ≡ Some version
        → stored ≡ Some version
    by true None e = cc
    by true (Some v) e = e
    by false stored e = cc

-- the outcome is one that the stored version leaves the write
pub IsOutcomeOf-done_of : (s : State) (w : Write) (choice : Choice) → MayChoose choice → IsOutcomeOf (stored_version s (document_of w.key)) w (outcome_of_run (done_of s w choice))
IsOutcomeOf-done_of s w (Refuse status) may = inl (record { least = may.least; most = may.most; no_conflict = may.no_conflict; has_error = refl })
IsOutcomeOf-done_of s w Run may = by (is_newer s w) refl
  where
    by : (b : Bool) → is_newer s w ≡ b → IsOutcomeOf (stored_version s (document_of w.key)) w (outcome_of_run (done_of s w Run))
    by true e = inr (inl (e, is_applied-done_of s w Run ∙ e))
    by false e = inr (inr (e, record { status = rw e refl; has_error = rw e refl; stated = rw e (λ version h. stated_is s w version h) }))

-- an outside shows each of two indexes with the same lists
Shows-alike : (o : Outside) (s t : State) → ((k : Document) → applied_writes t k ≡ applied_writes s k) → Shows o s → Shows o t
Shows-alike o s t same shows = record {
  versions = λ k. shows.versions k ∙ ap (λ ws. option_map (λ (v : Write). v.version) (last_of ws)) (sym (same k));
  lists = λ k. shows.lists k ∙ sym (same k);
}

pub run_is_of_outside : RunIsOfOutside
run_is_of_outside old new w choice item may run = record {
  outcome = rw run.item_of (IsOutcomeOf-done_of old w choice may);
  shows = λ o r shows is.
      Shows-alike (ran_of o r (Some w)) (after_run old w choice) new
      (λ k. run.effect.lists k ∙ sym ((Effect-after_run old w choice).lists k))
      (Shows-after_run old w choice o r shows (is ∙ ap outcome_of_run run.item_of));
}
