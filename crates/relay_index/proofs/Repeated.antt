-- The laws of runs.
use Rattle.std.proofs.Common.{◌≡◌, ◌∙◌, ℕ, Option, Some, None, true, false, refl, ap, option_map, arith, append-nil, ltb}
use Rattle.std.specs.Prelude.{option_and_then, ◌==◌}
use Rattle.std.specs.Map.{lookup}
use Rattle.relay_action.specs.declared.write.Write.{Write}
use Rattle.relay_results.specs.declared.done.ItemDone.{ItemDone}
use Rattle.relay_results.specs.Documents.{document_of, source_of}
use Rattle.relay_results.specs.Outside.{is_above}
use Rattle.relay_results.proofs.Same.{same_document-self}
use Rattle.relay_index.specs.declared.choice.Choice.{Choice}
use Rattle.relay_index.specs.declared.choice.Choice.TheVariants.{Run}
use Rattle.relay_index.specs.declared.refusal.Refusal.{Refusal}
use Rattle.relay_index.specs.Choices.{MayChoose}
use Rattle.relay_action.specs.Streams.{one_more}
use Rattle.relay_index.specs.States.{State, applied_writes, last_of, stored_version}
use Rattle.relay_index.specs.Runs.{is_newer, is_run, result_of, status_by, RunsOne}
use Rattle.relay_index.specs.Plans.{choice_by}
use Rattle.relay_index.specs.Laws.{AppliedIsStored, DeletedKeepsVersion, RepeatIsConflict, ScriptsMay}
use Rattle.relay_index.proofs.Appended.{last_of-push}

-- the last write of its document is the one that was applied
last_is : (old new : State) (w : Write) (choice : Choice) (item : ItemDone) → RunsOne old w choice item new → is_run old w choice ≡ true
    → last_of (applied_writes new (document_of w.key)) ≡ Some w
last_is old new w choice item run e =
    ap last_of (run.effect.lists (document_of w.key)) ∙ rw (e, same_document-self (document_of w.key)) (last_of-push (applied_writes old (document_of w.key)) w)

pub applied_is_stored : AppliedIsStored
applied_is_stored old new w choice item run e =
    let last = last_is old new w choice item run e in (
      ap (option_map (λ (x : Write). x.version)) last,
      ap (λ o. option_and_then (λ (x : Write). source_of x.action) o) last,
    )

pub deleted_keeps_version : DeletedKeepsVersion
deleted_keeps_version old new w choice item run e delete =
    let both = applied_is_stored old new w choice item run e in (both.0, both.1 ∙ ap source_of delete)

-- a version that is stored is not above itself
not_newer : (s : State) (w : Write) → stored_version s (document_of w.key) ≡ Some w.version → is_newer s w ≡ false
not_newer s w e = ap (λ o. is_above o w.version) e ∙ ltb-self w.version
  where
    ltb-self : (n : ℕ) → ltb n n ≡ false
    ltb-self n = grind arith

pub repeat_is_conflict : RepeatIsConflict
repeat_is_conflict old mid new w choice item again run e repeat =
    let stays : is_newer mid w ≡ false = not_newer mid w (applied_is_stored old mid w choice item run e).0 in
    let says : again.result ≡ result_of mid w Run = ap (λ (d : ItemDone). d.result) repeat.item_of in
    let states : again.status ≡ status_by mid w Run = ap (λ (d : ItemDone). d.status) repeat.item_of in
    record {
      status = states ∙ rw stays refl;
      result = says ∙ rw stays refl;
      lists = λ k. repeat.effect.lists k ∙ rw stays (append-nil _);
      count = repeat.effect.count ∙ rw stays refl;
    }

-- a refusal may be chosen: its status says so
may_by : (o : Option Refusal) → MayChoose (choice_by (option_map (λ (r : Refusal). r.status) o))
may_by None = tt
may_by (Some r) = r.may

pub scripts_may : ScriptsMay
scripts_may plan = may_by (lookup (λ p. one_more plan.ran == p) plan.refusals)
