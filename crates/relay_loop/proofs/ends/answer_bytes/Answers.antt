use Rattle.relay_http.specs.WrittenAnswer.{answer}
use Rattle.std.proofs.Common.{true}
use Rattle.relay_wires.proofs.Results.{same_ok}
use Rattle.relay_loop.proofs.Messages.{answer_alone}
use Rattle.relay_loop.proofs.ends.answer_bytes.Goals as goal

pub returns : goal.returns
returns c =
    let fresh = rw c.new.ensures.items at c.in_ok-conn.ensures in
    let was = same_ok _ c.write_answer.result c.map_err.result c.in_ok-map_err.field-0 c.map_err.ensures.cases c.in_ok-map_err.ensures.variant c.in_ok-map_err.was in
    let sent = rw was at c.write_answer.ensures.sent in
    c.written.ensures (answer c.args.status c.args.body.now true) (answer_alone c.in_ok-conn.conn c.args.status c.args.body.now c.write_answer.new.self.written fresh sent)
