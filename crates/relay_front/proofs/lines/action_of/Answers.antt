use Rattle.relay_front.proofs.Sources.{not_text, no_reason, reason_from}
use Rattle.relay_front.proofs.lines.action_of.Goals as goal

pub returns-in_default-clause-err : goal.returns-in_default-clause-err
returns-in_default-clause-err c = not_text c.args.source.now c.in_default.ensures.cases.0

pub returns-in-Ok-index-clause-ok : goal.returns-in-Ok-index-clause-ok
returns-in-Ok-index-clause-ok c = no_reason c.args.source.now c.in-Ok.text.now c.in-Ok-index.action c.in-Ok.ensures.cases.0 c.in-Ok.ensures.cases.1 c.in-Ok-index.ensures.accepted c.in-Ok-index.ensures.ok

pub returns-in_ok-limit_fault-in-Err-clause-err : goal.returns-in_ok-limit_fault-in-Err-clause-err
returns-in_ok-limit_fault-in-Err-clause-err c =
    rw c.in_ok-limit_fault-in-Err.ensures.0 (reason_from c.args.source.now c.in-Ok.text.now c.in-Err.fault c.in-Ok.ensures.cases.0 c.in-Ok.ensures.cases.1 c.in-Err.ensures.refused c.in_ok-limit_fault-in-Err.ensures.1)
