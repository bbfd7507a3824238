use Rattle.relay_threads.proofs.Hearing.{not_closed}
use Rattle.relay_core.proofs.Shown.{same_state}
use Rattle.relay_threads.proofs.Keeping.{out_after}
use Rattle.relay_threads.proofs.run.take_message.Goals as goal

pub unreachable-requires : goal.unreachable-requires
unreachable-requires g c =
    let m = c.in-Some.mail in
    not_closed c.args.lane.now.state c.next_mail.new.take.senders c.args.take.now.taken c.next_mail.new.take.taken m c.in-Err-AfterClose-default.field-0-0
    c.requires.closed (rw c.in-Some.is at c.in_ok-mail.ensures.taken) c.next_mail.ensures.well_taken c.in-Err-AfterClose-default.ensures.refused c.in-Err-AfterClose-default.field-0-0-is

pub returns-clause-out : goal.returns-clause-out
returns-clause-out g c = out_after c.take.result c.args.lane.now.state c.take.new.self.state c.in-Some.mail c.take.ensures.ok (same_state c.take.result c.args.lane.now c.take.new.self c.take.ensures.unchanged)
