use Rattle.std.proofs.Common.{◌≡◌, [], ◌∷◌, ◌++◌, length, Some, None, refl, sym, ap, ◌∙◌, arith}
use Rattle.std.specs.Prelude.{if◌then◌else◌, ◌&&◌}
use Rattle.relay_results.specs.Documents.{document_of, same_document}
use Rattle.relay_results.proofs.Same.{same_document-true}
use Rattle.std.specs.Map.{lookup, set_value}
use Rattle.indexmap.specs.IndexMap.{insert_entry}
use Rattle.relay_index.specs.Keys.{same_key}
use Rattle.relay_world.specs.State.{Named}
use Rattle.relay_index.specs.States.{applied_writes}
use Rattle.relay_index.specs.Runs.{is_run}
use Rattle.relay_world.specs.State.{kept_among, names_of, before_of}
use Rattle.relay_world.proofs.Places.{ok_fact, on_ok, on_ok_two, on_err}
use Rattle.relay_world.proofs.Named.{set_value-same, names-set, before-set, names-insert, before-insert}
use Rattle.relay_world.proofs.Ran.{same_length}
use Rattle.relay_world.proofs.names.Names.run.Goals as goal

pub returns-in-Some-clause-names : goal.returns-in-Some-clause-names
returns-in-Some-clause-names c =
    let w = c.args.write.now in
    let es = c.self.inside.documents.entries in
    let e : lookup (same_key w.key) es ≡ Some c.in-Some.named.now = sym c.in-Some.ensures.value in
    let held = (c.get_mut.follows.holds c.run.new.self).0 in
    on_ok c.run.result _ _
    (λ is k. ap (λ xs. names_of (kept_among xs k)) held ∙ names-set es w.key k c.in-Some.named.now c.run.new.self (is_run c.args.index.now w c.args.choice) c.args.name e is
    ∙ ap (λ xs. names_of (kept_among xs k) ++ (if is_run c.args.index.now w c.args.choice && same_document k (document_of w.key) then c.args.name ∷ [] else [])) c.self.view_is)
    c.run.ensures.names

pub returns-in-Some-clause-before : goal.returns-in-Some-clause-before
returns-in-Some-clause-before c =
    let w = c.args.write.now in
    let es = c.self.inside.documents.entries in
    let e : lookup (same_key w.key) es ≡ Some c.in-Some.named.now = sym c.in-Some.ensures.value in
    let held = (c.get_mut.follows.holds c.run.new.self).0 in
    on_ok_two c.run.result _ _ _
    (λ is f k.
    ap (λ xs. before_of (length (applied_writes c.run.new.index k)) (kept_among xs k)) held
    ∙ before-set es w.key k c.in-Some.named.now c.run.new.self (length (applied_writes c.args.index.now k)) (length (applied_writes c.run.new.index k)) e (ap (λ (n : Named). n.before) is)
    (λ d. same_length c.args.index.now c.run.new.index w c.args.choice k f d)
    ∙ ap (λ xs. before_of (length (applied_writes c.args.index.now k)) (kept_among xs k)) c.self.view_is)
    c.run.ensures.names c.run.ensures.effect

pub returns-in-Some-clause-same_names : goal.returns-in-Some-clause-same_names
returns-in-Some-clause-same_names c =
    let w = c.args.write.now in
    let es = c.self.inside.documents.entries in
    let e : lookup (same_key w.key) es ≡ Some c.in-Some.named.now = sym c.in-Some.ensures.value in
    let held = (c.get_mut.follows.holds c.run.new.self).0 in
    on_err c.run.result _ _
    (λ is. held ∙ ap (λ v. set_value (same_key w.key) es v) is ∙ set_value-same es w.key c.in-Some.named.now e ∙ c.self.view_is)
    c.run.ensures.same_names

pub returns-clause-names : goal.returns-clause-names
returns-clause-names c = λ k.
    let w = c.args.write.now in
    let es = c.self.inside.documents.entries in
    let e : lookup (same_key w.key) es ≡ None = sym c.in_default.ensures.value in
    let room = c.insert.ensures.succeeds (omega (arith, c.in_ok-reserve.ensures.ok)) in
    let made = ok_fact c.insert.result _ room c.insert.ensures.entries in
    let entries : c.insert.new.self.entries ≡ insert_entry same_key es w.key c.run-2.new.self = rw (made, c.in_ok-reserve.ensures.entries, c.get_mut.follows.holds-at-none, c.in_ok-key.ensures) refl in
    ap (λ xs. names_of (kept_among xs k)) entries
    ∙ names-insert es w.key k c.run-2.new.self (is_run c.args.index.now w c.args.choice) c.args.name e
    (ap (λ (n : Named). n.names) c.in_ok-status.ensures.names ∙ ap (λ (n : Named). n.names ++ (if is_run c.args.index.now w c.args.choice then c.args.name ∷ [] else [])) c.new-named.ensures)
    ∙ ap (λ xs. names_of (kept_among xs k) ++ (if is_run c.args.index.now w c.args.choice && same_document k (document_of w.key) then c.args.name ∷ [] else [])) c.self.view_is

pub returns-clause-before : goal.returns-clause-before
returns-clause-before c = λ k.
    let w = c.args.write.now in
    let es = c.self.inside.documents.entries in
    let e : lookup (same_key w.key) es ≡ None = sym c.in_default.ensures.value in
    let room = c.insert.ensures.succeeds (omega (arith, c.in_ok-reserve.ensures.ok)) in
    let made = ok_fact c.insert.result _ room c.insert.ensures.entries in
    let entries : c.insert.new.self.entries ≡ insert_entry same_key es w.key c.run-2.new.self = rw (made, c.in_ok-reserve.ensures.entries, c.get_mut.follows.holds-at-none, c.in_ok-key.ensures) refl in
    ap (λ xs. before_of (length (applied_writes c.run-2.new.index k)) (kept_among xs k)) entries
    ∙ before-insert es w.key k c.run-2.new.self (length (applied_writes c.args.index.now k)) (length (applied_writes c.run-2.new.index k)) e
    (λ d. ap (λ (n : Named). n.before) (c.in_ok-status.ensures.names ∙ ap (λ (n : Named). record n { names = n.names ++ (if is_run c.args.index.now w c.args.choice then c.args.name ∷ [] else []) }) c.new-named.ensures)
    ∙ ap length c.applied-before.ensures.applied ∙ ap (λ j. length (applied_writes c.args.index.now j)) (sym (same_document-true k (document_of w.key) d)))
    (λ d. same_length c.args.index.now c.run-2.new.index w c.args.choice k c.in_ok-status.ensures.effect d)
    ∙ ap (λ xs. before_of (length (applied_writes c.args.index.now k)) (kept_among xs k)) c.self.view_is
