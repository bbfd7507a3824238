-- What a run does to lists.
use Rattle.std.proofs.Common.{◌≡◌, [], ◌∷◌, ◌++◌, length, Bool, true, false, refl, ap, ◌∙◌, append-nil}
use Rattle.std.specs.Prelude.{◌&&◌, if◌then◌else◌}
use Rattle.relay_action.specs.declared.write.Write.{Write}
use Rattle.relay_results.specs.Documents.{Document, document_of, same_document}
use Rattle.relay_index.specs.declared.choice.Choice.{Choice}
use Rattle.relay_index.specs.States.{State, applied_writes}
use Rattle.relay_index.specs.Runs.{is_run, Effect}

pub and_false : (b : Bool) → (b && false) ≡ false
and_false true = refl
and_false false = refl

-- another document's list stays
pub same_list : (s t : State) (w : Write) (c : Choice) (k : Document) → Effect s w c t → same_document k (document_of w.key) ≡ false → applied_writes t k ≡ applied_writes s k
same_list s t w c k f d =
    f.lists k ∙ ap (λ b. applied_writes s k ++ (if is_run s w c && b then w ∷ [] else [])) d
    ∙ ap (λ b. applied_writes s k ++ (if b then w ∷ [] else [])) (and_false (is_run s w c)) ∙ append-nil (applied_writes s k)

pub same_length : (s t : State) (w : Write) (c : Choice) (k : Document) → Effect s w c t → same_document k (document_of w.key) ≡ false → length (applied_writes t k) ≡ length (applied_writes s k)
same_length s t w c k f d = ap length (same_list s t w c k f d)
