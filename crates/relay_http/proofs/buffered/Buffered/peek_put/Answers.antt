use Rattle.std.proofs.Common.{ℕ, List, take, ap, sym, ◌∙◌}
use Rattle.httparse.specs.Spans.{span_bytes}
use Rattle.std.proofs.lemmas.Result.{err_from_is_err_and}
use Rattle.relay_http.specs.RequestLine.{IsRequestLine, put_by}
use Rattle.relay_http.proofs.RequestLines.{begins_line, put_of}
use Rattle.relay_http.proofs.Unique.{fails_found}
use Rattle.relay_http.proofs.buffered.Buffered.peek_put.Goals as goal

pub returns-in_err-found-clause-found : goal.returns-in_err-found-clause-found
returns-in_err-found-clause-found g c =
    let p = err_from_is_err_and c.from_residual.result c.from_residual.ensures.1 in
    rw (p.1, p.2) (λ stream there stands. fails_found IsRequestLine _ _ c.in_err-found.field-0.0 c.in_err-found.ensures.fails stream (begins_line stream there) stands)

pub returns-in-Ok-clause-found : goal.returns-in-Ok-clause-found
returns-in-Ok-clause-found g c = λ stream there stands.
    let found = c.in_ok-found.found in
    let new = c.await_piece.new.self in
    c.in-Ok.ensures
    ∙ ap (λ (w : List ℕ). put_by (span_bytes (take found.1 w) found.0.method) (span_bytes (take found.1 w) found.0.target)) c.as_slice.ensures.value
    ∙ put_of new.window (g.S.ByteStream.left new.stream) stream found.1 found.0 c.in_ok-found.ensures.there.1 there (sym c.in_ok-found.ensures.stands ∙ stands)
