use Rattle.std.proofs.Common.{sym}
use Rattle.relay_scenario.proofs.Refusing.{differ, numbered_at_fault}
use Rattle.relay_scenario.proofs.event_line.read_event.Goals as goal

pub returns-else-eq-clause-err : goal.returns-else-eq-clause-err
returns-else-eq-clause-err c =
    rw (sym c.in-Ok.ensures.cases.0) (numbered_at_fault c.in-Ok.text.now c.in-Some.word.now c.in-Some.rest.now c.read_numbered.result c.in-Some.ensures (differ _ _ c.if-eq.ensures) c.read_numbered.ensures.err)
