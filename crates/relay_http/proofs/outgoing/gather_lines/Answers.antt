use Rattle.std.proofs.Common.{ℕ, List, Err, subst}
use Rattle.std.proofs.lemmas.Result.{err_from_is_err_and}
use Rattle.relay_ndjson.specs.Bulk.{write_text}
use Rattle.relay_http.specs.Steps.{Gathers}
use Rattle.relay_http.proofs.Gathering.{not_flushed}
use Rattle.relay_http.proofs.outgoing.gather_lines.Goals as goal

pub returns-in_err-flush-clause-sent : goal.returns-in_err-flush-clause-sent
returns-in_err-flush-clause-sent g c =
    let show = g.S.ByteStream in
    let p = err_from_is_err_and c.from_residual.result c.from_residual.ensures.1 in
    rw (p.1, p.2) (subst (λ (t : List ℕ). Gathers (write_text c.args.write.now) t c.flush.new.text.items (show.written c.args.stream.now) (show.written c.flush.new.stream) (Err c.in_err-flush.field-0.0))
    c.in-Err.ensures.err
    (not_flushed (write_text c.args.write.now) c.append_write.new.text.items c.flush.new.text.items c.flush.new.text.items (show.written c.args.stream.now) (show.written c.flush.new.stream) c.in_err-flush.field-0.0 c.in_err-flush.ensures.sent))
