use Rattle.std.proofs.Common.{◌∙◌}
use Rattle.std.proofs.lemmas.Result.{err_from_is_err_and}
use Rattle.relay_http.proofs.Gathering.{head_fails, one_further, stops_there, last_piece}
use Rattle.relay_http.proofs.outgoing.write_bulk.Goals as goal

pub returns-in_err-gather-clause-sent : goal.returns-in_err-gather-clause-sent
returns-in_err-gather-clause-sent g c =
    let p = err_from_is_err_and c.from_residual-in_err-gather.result c.from_residual-in_err-gather.ensures.1 in
    rw (p.1, p.2) (stops_there c.args.host.now c.args.writes.now c.loop-write.write-index c.write-item.result _ _ _ c.loop-write.text.items c.gather.new.text.items c.in_err-gather.field-0.0
    c.loop-write-test.true c.write-item.is c.loop-write.invariant.under_way c.in_err-gather.ensures.sent)

pub loop-write-preserved : goal.loop-write-preserved
loop-write-preserved g c = record {
  under_way = one_further c.args.host.now c.args.writes.now c.loop-write.write-index c.write-item.result _ _ _ c.loop-write.text.items c.gather.new.text.items
      c.loop-write-test.true c.write-item.is c.loop-write.invariant.under_way c.in_ok-gather.ensures.sent;
  failed = c.in_ok-gather.ensures.failed ∙ c.loop-write.invariant.failed;
  left = c.in_ok-gather.ensures.left ∙ c.loop-write.invariant.left;
}

pub returns-clause-sent : goal.returns-clause-sent
returns-clause-sent g c =
    last_piece c.args.host.now c.args.writes.now c.loop-write.write-index _ _ _ c.loop-write.text.items c.flush.new.text.items c.flush.result
    c.loop-write-test.false c.loop-write.invariant.under_way c.flush.ensures.sent

pub returns-in_err-start-clause-sent : goal.returns-in_err-start-clause-sent
returns-in_err-start-clause-sent g c =
    let p = err_from_is_err_and c.from_residual.result c.from_residual.ensures.1 in
    rw (p.1, p.2) (head_fails c.args.host.now c.args.writes.now _ _ c.start.new.text.items c.in_err-start.field-0.0 c.in_err-start.ensures.sent)
