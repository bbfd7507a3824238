use Rattle.std.proofs.Common.{◌≡◌, inr, sym, ◌∙◌}
use Rattle.relay_ndjson.specs.declared.kind.LineKind.TheVariants.{Memory}
use Rattle.relay_ndjson.proofs.Asking.{source_line_fault-bytes, source_line_kind, source_line_none}
use Rattle.relay_ndjson.proofs.action_line.read_source.Goals as goal

pub returns-in_default-clause-err : goal.returns-in_default-clause-err
returns-in_default-clause-err c = inr (source_line_fault-bytes c.args.line.now c.in_default.ensures.cases.0)

pub returns-in-Err-clause-err : goal.returns-in-Err-clause-err
returns-in-Err-clause-err c =
    rw c.kind_of.ensures (source_line_kind c.args.line.now c.in-Ok.text.now c.in-Err.fault c.in-Ok.ensures.cases.1 c.in-Ok.ensures.cases.0 c.in-Err.ensures.refused)

pub returns-in-Err-clause-memory : goal.returns-in-Err-clause-memory
returns-in-Err-clause-memory c is =
    let memory : c.kind_of.result ≡ Memory = cc in
    source_line_none c.args.line.now c.in-Ok.text.now c.in-Err.fault c.in-Ok.ensures.cases.1 c.in-Ok.ensures.cases.0 c.in-Err.ensures.refused (sym c.kind_of.ensures ∙ memory)
