-- An item was run.
use Rattle.std.proofs.Common.{◌≡◌, ℕ, ◌-◌, List, [], ◌∷◌, ◌++◌, length, Some, ap, ◌∙◌, subst}
use Rattle.std.specs.Prelude.{slice_get, slice_set, OnOk, IfOk, Ok, Err, Result, ◌&&◌, if◌then◌else◌}
use Rattle.relay_action.specs.declared.key.DocKey.{DocKey}
use Rattle.relay_action.specs.declared.operation.OpName.{OpName}
use Rattle.relay_action.specs.declared.write.Write.{Write}
use Rattle.relay_results.specs.Words.{update}
use Rattle.relay_results.specs.Documents.{Document, document_of, same_document}
use Rattle.relay_index.specs.declared.choice.Choice.{Choice}
use Rattle.relay_index.specs.States as index
use Rattle.relay_index.specs.Runs.{is_run, done_of, outcome_of_run, Effect}
use Rattle.relay_world.specs.declared.event.StepAnswer.TheVariants as answer
use Rattle.relay_world.specs.State.{Named, Sent, World, kept_among, names_of, before_of, names_at}
use Rattle.relay_world.specs.Changes.{ran_item, RunsItem}
use Rattle.relay_world.specs.Memory.{IsItemOf}
use Rattle.relay_world.proofs.Places.{set-update}

pub ran : {E : Type 0} (r : Result ℕ E) (w : World) (request item : ℕ) (c : Choice) (name : OpName) (x : Write) (f : IsItemOf w request item name x) (d e : Sent) (place : ℕ) → place ≡ request - 1
    → slice_get w.sent place ≡ Some d → (i : index.State) (kept : List (DocKey × Named)) → IfOk r (λ s. s ≡ (done_of w.index x c).status)
    → OnOk r (e ≡ ran_item item (outcome_of_run (done_of w.index x c)) d) → OnOk r (Effect w.index x c i)
    → OnOk r ((k : Document) → names_of (kept_among kept k) ≡ names_of (kept_among w.kept k) ++ (if is_run w.index x c && same_document k (document_of x.key) then name ∷ [] else []))
    → OnOk r ((k : Document) → before_of (length (index.applied_writes i k)) (kept_among kept k) ≡ before_of (length (index.applied_writes w.index k)) (kept_among w.kept k))
    → IfOk r (λ s. RunsItem w request item c (answer.Ran s) (record w { sent = slice_set w.sent place e; index = i; kept = kept }))
ran (Ok s) w request item c name x f d e place at there i kept status is effect names before =
    let o = outcome_of_run (done_of w.index x c) in
    let ss = set-update (ran_item item o) w.sent place d e there is
    ∙ (λ j. update (at j) (ran_item item (outcome_of_run (done_of w.index (f.write_is j) c))) w.sent) in
    record {
      sent = f.sent;
      was_sent = f.was_sent;
      its_item = f.its_item;
      stands = f.stands;
      op = f.op;
      its_op = f.its_op;
      effect = subst (λ y. Effect w.index y c i) f.write_is effect;
      names = λ k. names k ∙ (λ j. names_at w k ++ (if is_run w.index (f.write_is j) c && same_document k (document_of (f.write_is j).key) then f.name_is j ∷ [] else []));
      before = before;
      after = λ j. record w { sent = ss j; index = i; kept = kept };
      says = ap answer.Ran (status ∙ ap (λ y. (done_of w.index y c).status) f.write_is);
    }
ran (Err x) w request item c name y f d e place at there i kept status is effect names before = status
