use Rattle.std.proofs.Common.{inl, inr, sym, ◌∙◌}
use Rattle.std.proofs.lemmas.Result.{IfOk-weaker}
use Rattle.relay_ndjson.specs.Metadata.{bytes_given}
use Rattle.relay_ndjson.proofs.Fields.{version_given, of_document, document_kind}
use Rattle.relay_ndjson.proofs.action_line.key_of.Goals as goal
use Rattle.relay_ndjson.proofs.action_line.key_of.Goals.{then-is_some-via-then-is_some, then-is_some-via-else-is_some+then-is_some-2}

pub returns-then-is_some-clause-err : goal.returns-then-is_some-clause-err
returns-then-is_some-clause-err c ms h =
    inr (version_given (bytes_given c.args.default_index) c.args.metadata.now ms h c.if-metadata.false
    (elim c.then-is_some.branch [ then-is_some-via-then-is_some w ↦ inl (sym c.is_some.ensures ∙ w.if-is_some.true) | then-is_some-via-else-is_some+then-is_some-2 w ↦ inr (sym w.is_some-else-is_some.ensures ∙ w.if-is_some-2.true) ]))

pub returns-clause-ok : goal.returns-clause-ok
returns-clause-ok c ms h =
    let d = of_document c.args.metadata.now ms h c.if-metadata.false (sym c.if-is_some.ensures) (sym c.if-is_some-2.ensures) in
    IfOk-weaker c.document_of.result _ _ (λ k found. (d.1, found.0, found.1)) (c.document_of.ensures.ok ms h)

pub returns-clause-err : goal.returns-clause-err
returns-clause-err c ms h = rw (document_kind (bytes_given c.args.default_index) c.args.metadata.now ms h c.if-metadata.false (sym c.if-is_some.ensures) (sym c.if-is_some-2.ensures)) (c.document_of.ensures.err ms h)

pub returns-clause-memory : goal.returns-clause-memory
returns-clause-memory c ms h = rw (document_kind (bytes_given c.args.default_index) c.args.metadata.now ms h c.if-metadata.false (sym c.if-is_some.ensures) (sym c.if-is_some-2.ensures)) (c.document_of.ensures.memory ms h)
