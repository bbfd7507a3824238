use Rattle.std.proofs.Common.{◌++◌, List, ℕ, ap, refl, ◌∙◌, codes}
use Rattle.relay_front.specs.Texts.{document_members, written_members}
use Rattle.relay_front.proofs.items.document_text.Goals as goal

pub returns-in_ok-push-in-Written-2 : goal.returns-in_ok-push-in-Written-2
returns-in_ok-push-in-Written-2 c =
    let key = c.args.key.now in
    let opened = c.in_ok-push-in-Written.ensures.items ∙ ap (λ (t : List ℕ). t ++ codes "{") c.new-text.ensures.items in
    let named = c.in_ok-add_document-in-Written.ensures ∙ ap (λ (t : List ℕ). t ++ document_members key.index key.id) opened in
    let written = c.in_ok-add_written-in-Written.ensures ∙ ap (λ (t : List ℕ). t ++ written_members c.in-Written.result.now c.in-Written.version) named in
    let text = c.in_ok-push-in-Written-2.ensures.items ∙ ap (λ (t : List ℕ). t ++ codes "}") written in
    rw c.in-Written.is (refl, text)
