use Rattle.relay_resume.proofs.ReadBack.{found_reads, no_line, none_found}
use Rattle.relay_resume.proofs.reading.read_state.Goals as goal

pub returns-in_default : goal.returns-in_default
returns-in_default c = no_line c.args.bytes.now c.in_default.ensures

pub returns-in-Ok-Some : goal.returns-in-Ok-Some
returns-in-Ok-Some c =
    found_reads c.args.bytes.now c.in-Some.line.now c.in-Ok-Some.found c.accept.result c.in-Some.ensures (rw c.in-Ok-Some.field-0-is at c.in-Ok-Some.ensures) c.accept.ensures

pub returns-in-Ok-None : goal.returns-in-Ok-None
returns-in-Ok-None c = none_found c.args.bytes.now c.in-Some.line.now c.in-Some.ensures (rw c.in-Ok-None.field-0-is at c.in-Ok-None.ensures)
