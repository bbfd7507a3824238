use Rattle.relay_scenario.proofs.Underway.{no_event_on}
use Rattle.relay_scenario.proofs.playing.take_event.Goals as goal

pub returns-in-Err-clause-event : goal.returns-in-Err-clause-event
returns-in-Err-clause-event g c =
    let taken = rw c.if-not-branch.false at c.in_ok-take_line.ensures.line in
    let bad = rw c.text.ensures at c.in-Err.ensures.err in
    rw (c.fault_at.ensures, c.count.ensures) (no_event_on _ _ c.args.lines.now.count c.take_line.new.lines.count c.take_line.new.lines.text c.in-Err.fault taken.0 taken.1 bad)
