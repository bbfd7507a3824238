use Rattle.relay_http.proofs.Gathering.{second_cut}
use Rattle.relay_http.proofs.outgoing.send_both.Goals as goal

pub returns-in-Err-write_all-clause-sent : goal.returns-in-Err-write_all-clause-sent
returns-in-Err-write_all-clause-sent g c =
    second_cut _ _ _ c.args.first.now c.args.second.now c.in_default.ensures.ok (c.in-Err-write_all.field-0, c.in-Err-write_all.ensures.sent.0, c.in-Err-write_all.ensures.sent.1)
