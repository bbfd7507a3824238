use Rattle.std.proofs.Common.{◌≡◌, Err, ap, inl, inr}
use Rattle.std.proofs.lemmas.Result.{err_from_is_err_and}
use Rattle.relay_ndjson.specs.VersionedLines.{versioned_fault}
use Rattle.relay_ndjson.specs.declared.kind.LineKind.TheVariants.{Memory}
use Rattle.relay_ndjson.proofs.Asking.{metadata_kind, metadata_none}
use Rattle.relay_ndjson.proofs.versioned_line.read_versioned.Goals as goal

pub returns-in_err-kind-clause-err : goal.returns-in_err-kind-clause-err
returns-in_err-kind-clause-err c =
    let p = err_from_is_err_and c.from_residual.result c.from_residual.ensures.1 in
    rw (p.1, p.2) (elim c.in_err-kind.ensures.err [ inl m ↦ inl m | inr h ↦ inr (h versioned_fault) ])

pub returns-in_err-key-clause-err : goal.returns-in_err-key-clause-err
returns-in_err-key-clause-err c =
    let s = c.in_ok-kind.ensures.ok in
    let p = err_from_is_err_and c.from_residual-in_err-key.result c.from_residual-in_err-key.ensures.1 in
    rw (p.1, p.2) (metadata_kind versioned_fault c.args.line.now c.in_ok-kind.kind c.in_ok-kind.metadata c.in_err-key.field-0.0 s (c.in_err-key.ensures.err s.3 s.5))

pub returns-in_err-key-clause-memory : goal.returns-in_err-key-clause-memory
returns-in_err-key-clause-memory c is =
    let s = c.in_ok-kind.ensures.ok in
    let p = err_from_is_err_and c.from_residual-in_err-key.result c.from_residual-in_err-key.ensures.1 in
    let memory : c.in_err-key.field-0.0 ≡ Memory = cc in
    inr (metadata_none versioned_fault c.args.line.now c.in_ok-kind.kind c.in_ok-kind.metadata s (c.in_err-key.ensures.memory s.3 s.5 (ap Err memory)))
