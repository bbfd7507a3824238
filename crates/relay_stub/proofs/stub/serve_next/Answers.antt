use Rattle.std.proofs.Common.{subst}
use Rattle.relay_index.specs.Serving.{under}
use Rattle.relay_http.specs.Listening.{shown_by}
use Rattle.relay_stub.specs.Visits.{IsServed}
use Rattle.relay_stub.proofs.stub.serve_next.Goals as goal

pub returns-in-Ok-result : goal.returns-in-Ok-result
returns-in-Ok-result g c =
    let s = g.S.ByteStream in
    let call = c.serve_connection-result in
    let before = shown_by (s.left c.in-Ok.stream) (s.written c.in-Ok.stream) (s.failed c.in-Ok.stream) in
    let after = shown_by (s.left call.result.1) (s.written call.result.1) (s.failed call.result.1) in
    record {
      before = before;
      after = after;
      at = g.L.Listen.shows c.accept.new.self;
      hands_out = c.in-Ok.ensures.ok;
      serves = subst (IsServed before after (under c.args.index.now c.args.script.now) (under call.new.index call.new.script)) c.in-Ok-result.is call.ensures;
      back = c.close.ensures;
    }

pub returns-in-Err : goal.returns-in-Err
returns-in-Err g c =
    let s = g.S.ByteStream in
    let call = c.serve_connection-result in
    let before = shown_by (s.left c.in-Ok.stream) (s.written c.in-Ok.stream) (s.failed c.in-Ok.stream) in
    let after = shown_by (s.left call.result.1) (s.written call.result.1) (s.failed call.result.1) in (
      c.in-Err.field-0,
      record {
        before = before;
        after = after;
        at = g.L.Listen.shows c.accept.new.self;
        hands_out = c.in-Ok.ensures.ok;
        serves = subst (IsServed before after (under c.args.index.now c.args.script.now) (under call.new.index call.new.script)) c.in-Err.is call.ensures;
        back = c.close.ensures;
      },
    )
