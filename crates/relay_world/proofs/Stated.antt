-- What an event keeps of how the index states versions: that it does, and that each conflict of a run states one.
use Rattle.std.proofs.Common.{◌≡◌, ℕ, ◌-◌, List, [], ◌∷◌, ◌++◌, Option, Some, None, Bool, true, false, ◌==◌, refl, sym, ap, ◌∙◌, subst, ⊎_elim, arith}
use Rattle.std.specs.Prelude.{slice_get, option_and_then, option_map, codes, ◌&&◌, if◌then◌else◌}
use Rattle.relay_action.specs.Actions.{kind_of}
use Rattle.relay_action.specs.declared.action.ActionKind.{ActionKind}
use Rattle.relay_action.specs.declared.action.ActionKind.TheVariants as kind
use Rattle.relay_action.specs.declared.write.Write.{Write}
use Rattle.relay_results.specs.declared.done.DoneResult.TheVariants as done
use Rattle.relay_results.specs.declared.done.VersionConflict.{VersionConflict}
use Rattle.relay_results.specs.Documents.{document_of}
use Rattle.relay_results.specs.Done.{failure, error_by}
use Rattle.relay_results.specs.Outside.{RunOutcome, stored_in, is_above}
use Rattle.relay_results.specs.Words.{Mem, update}
use Rattle.relay_results.proofs.Lists.{Mem-cases}
use Rattle.relay_index.specs.declared.choice.Choice.{Choice}
use Rattle.relay_index.specs.declared.choice.Choice.TheVariants as choice
use Rattle.relay_index.specs.Choices.{MayChoose}
use Rattle.relay_index.specs.States as index
use Rattle.relay_index.specs.Runs.{applied_result, status_of, is_newer, stated, done_of, outcome_of_run}
use Rattle.relay_world.specs.State.{Item, Sent, World}
use Rattle.relay_world.specs.Headline.{runs_of, StatesVersions}
use Rattle.relay_world.specs.Changes.{with_outcome}
use Rattle.relay_world.proofs.Logged.{ran_at}

-- ---- a conflict with an index that states versions states one

no_conflict : (k : ActionKind) (live : Bool) → status_of (applied_result k live) ≡ 409 → ⊥
no_conflict kind.Index true e = let n : 200 ≡ 409 = e in omega (arith, n)
no_conflict kind.Index false e = let n : 201 ≡ 409 = e in omega (arith, n)
no_conflict kind.Delete true e = let n : 200 ≡ 409 = e in omega (arith, n)
no_conflict kind.Delete false e = let n : 404 ≡ 409 = e in omega (arith, n)

stored_if_not_above : (stored : Option ℕ) (v : ℕ) → is_above stored v ≡ false → (u : ℕ) × (stored ≡ Some u)
stored_if_not_above None v e = absurd (cc)
stored_if_not_above (Some u) v e = (u, refl)

pub states_one : (i : index.State) (w : Write) (c : Choice) → MayChoose c → i.states ≡ true → (outcome_of_run (done_of i w c)).status ≡ 409
    → (version : ℕ) × (stored_in (outcome_of_run (done_of i w c)).error ≡ Some version)
states_one i w (choice.Refuse status) may on e = absurd (may.no_conflict e)
states_one i w choice.Run may on e = by (is_newer i w) refl e
  where
    by : (b : Bool) → is_newer i w ≡ b → (outcome_of_run (done_of i w choice.Run)).status ≡ 409 → (version : ℕ) × (stored_in (outcome_of_run (done_of i w choice.Run)).error ≡ Some version)
    by true e conflict =
        absurd (no_conflict (kind_of w.action) (index.is_live i (document_of w.key))
        (ap (λ b. status_of (if b then applied_result (kind_of w.action) (index.is_live i (document_of w.key)) else done.Conflict)) (sym e) ∙ conflict))
    by false e conflict =
        let u = stored_if_not_above (index.stored_version i (document_of w.key)) w.version e in
        let says : stated i w ≡ Some (record { stored = u.0; provided = w.version }) =
        λ j. if on j then option_map (λ (stored : ℕ). record { stored = stored; provided = w.version }) (u.1 j) else None in (
          u.0,
          ap (λ b. stored_in (option_map (error_by w.key.id (if b then None else stated i w)) (failure (if b then applied_result (kind_of w.action) (index.is_live i (document_of w.key)) else done.Conflict)))) e
              ∙ ap (λ t. stored_in (Some (error_by w.key.id t (codes "version_conflict_engine_exception")))) says,
        )

-- ---- the runs of a world, by its requests

abbrev pub runs_in : List Sent → ℕ → ℕ → List RunOutcome
runs_in ss request place = runs_of (option_and_then (λ (s : Sent). slice_get s.items place) (slice_get ss request))

abbrev pub AreStated : (ℕ → ℕ → List RunOutcome) → Type 0
AreStated runs = (request place : ℕ) (o : RunOutcome) → Mem o (runs request place) → o.status ≡ 409 → (version : ℕ) × (stored_in o.error ≡ Some version)

pub stated_same : (old new : ℕ → ℕ → List RunOutcome) → ((request place : ℕ) → new request place ≡ old request place) → AreStated old → AreStated new
stated_same old new same all request place o m = all request place o (subst (λ os. Mem o os) (same request place) m)

-- one more run of an item, whose outcome states a version if it is a conflict
pub stated_more : (ss : List Sent) (k n : ℕ) (s : Sent) (i : Item) (o : RunOutcome) → slice_get ss k ≡ Some s → slice_get s.items n ≡ Some i
    → (o.status ≡ 409 → (version : ℕ) × (stored_in o.error ≡ Some version)) → AreStated (runs_in ss)
    → AreStated (runs_in (update k (λ (z : Sent). record z { items = update n (with_outcome o) z.items }) ss))
stated_more ss k n s i o here item says all request place p m conflict = ⊎_elim
    (λ old. all request place p old conflict)
    (λ new. by ((k == request) && (n == place)) new)
    (Mem-cases p (runs_in ss request place) (if (k == request) && (n == place) then o ∷ [] else []) (subst (λ os. Mem p os) (ran_at ss k n s i o here item request place) m))
  where
    by : (b : Bool) → Mem p (if b then o ∷ [] else []) → (version : ℕ) × (stored_in p.error ≡ Some version)
    by true e = ⊎_elim {C = (version : ℕ) × (stored_in p.error ≡ Some version)}
        (λ same.
        let q = says (ap (λ (z : RunOutcome). z.status) (sym same) ∙ conflict) in
        (q.0, ap (λ (z : RunOutcome). stored_in z.error) same ∙ q.1))
        (λ none. absurd none)
        e
    by false e = absurd e
