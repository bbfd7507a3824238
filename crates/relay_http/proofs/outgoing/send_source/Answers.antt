use Rattle.std.proofs.Common.{ℕ, List, Err, subst, ◌∙◌}
use Rattle.std.proofs.lemmas.Result.{err_from_is_err_and}
use Rattle.relay_ndjson.specs.Bulk.{write_text}
use Rattle.relay_http.specs.Steps.{Gathers}
use Rattle.relay_http.proofs.Gathering.{not_flushed, source_cut}
use Rattle.relay_http.proofs.outgoing.send_source.Goals as goal

pub returns-in_err-flush-clause-sent : goal.returns-in_err-flush-clause-sent
returns-in_err-flush-clause-sent g c =
    let show = g.S.ByteStream in
    let p = err_from_is_err_and c.from_residual.result c.from_residual.ensures.1 in
    rw (p.1, p.2) (subst (λ (t : List ℕ). Gathers (write_text c.args.write.now) t c.flush.new.text.items (show.written c.args.stream.now) (show.written c.flush.new.stream) (Err c.in_err-flush.field-0.0))
    c.in-Err.ensures.err
    (not_flushed (write_text c.args.write.now) c.append_action_line.new.text.items c.flush.new.text.items c.flush.new.text.items (show.written c.args.stream.now) (show.written c.flush.new.stream) c.in_err-flush.field-0.0 c.in_err-flush.ensures.sent))

pub returns-in_err-send_both-clause-sent : goal.returns-in_err-send_both-clause-sent
returns-in_err-send_both-clause-sent g c =
    let p = err_from_is_err_and c.from_residual-in_err-send_both.result c.from_residual-in_err-send_both.ensures.1 in
    rw (p.1, p.2) (source_cut c.args.write.now c.args.text.now.items c.as_slice.result.now c.args.source.now c.append_action_line.new.text.items _ _ c.in_err-send_both.field-0.0
    c.requires (c.as_slice.ensures.value ∙ c.in_default.ensures.ok) c.in_err-send_both.ensures.sent)
