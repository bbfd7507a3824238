use Rattle.relay_commands.proofs.Passing.{lacks_lines}
use Rattle.relay_commands.proofs.lines.add_next.Goals as goal

pub returns-in-Ok-clause-next : goal.returns-in-Ok-clause-next
returns-in-Ok-clause-next g c = (c.in-Some.write, rw c.in-Some.is at c.in_ok-write.ensures.next, c.in-Ok.ensures.ok)

pub returns-in-Some-clause-next : goal.returns-in-Some-clause-next
returns-in-Some-clause-next g c =
    (lacks_lines c.args.version _ _ c.in-Some.write (rw c.in-Some.is at c.in_ok-write.ensures.next), c.in-Err.ensures.err)
