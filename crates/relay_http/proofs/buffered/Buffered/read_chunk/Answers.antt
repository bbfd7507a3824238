use Rattle.std.proofs.Common.{◌∙◌, ap, sym, []}
use Rattle.std.proofs.lemmas.Result.{err_from_is_err_and}
use Rattle.std.specs.Io.KnownBytes.{prepend_known}
use Rattle.httparse.specs.Ascii.{crlf_bytes}
use Rattle.relay_http.specs.Body.{IsSized}
use Rattle.relay_http.specs.Steps.{pending, IsDataAfter, IsCrlf}
use Rattle.relay_http.proofs.Stands.{prepend_known-append, prepend_known-nil}
use Rattle.relay_http.proofs.Leading.{fails_behind}
use Rattle.relay_http.proofs.Chunks.{begins_data, begins_end}
use Rattle.relay_http.proofs.LongBodies.{content_there, crlf_there, left_of}
use Rattle.relay_http.proofs.Unique.{fails_found}
use Rattle.relay_http.specs.Refusals.{HasNoChunkEnd, OverrunsNever}
use Rattle.relay_http.proofs.Refusing.{cut_piece, end_refused}
use Rattle.relay_http.proofs.buffered.Buffered.read_chunk.Goals as goal

pub returns-in_err-read_data-clause-answer : goal.returns-in_err-read_data-clause-answer
returns-in_err-read_data-clause-answer g c =
    let p = err_from_is_err_and c.from_residual.result c.from_residual.ensures.1 in
    rw (p.1, p.2) (fails_behind (IsDataAfter c.args.limit c.args.into.now c.args.size) (IsSized c.args.size) [] _ _ _ c.in_err-read_data.field-0.0 (λ s b. begins_data c.args.limit c.args.into.now c.args.size s b) (sym (prepend_known-nil _)) c.in_err-read_data.ensures.answer)

pub returns-in_err-read_piece-clause-answer : goal.returns-in_err-read_piece-clause-answer
returns-in_err-read_piece-clause-answer g c =
    let p = err_from_is_err_and c.from_residual-in_err-read_piece.result c.from_residual-in_err-read_piece.ensures.1 in
    rw (p.1, p.2) (let d = c.in_ok-read_data.ensures.answer in
    fails_behind (IsDataAfter c.args.limit c.args.into.now c.args.size) IsCrlf d.piece _ _ _ c.in_err-read_piece.field-0.0 (λ s b. begins_end _ c.args.limit c.args.into.now c.args.size d.piece d.length_is s b) d.split c.in_err-read_piece.ensures.answer)

pub returns-clause-answer : goal.returns-clause-answer
returns-clause-answer g c =
    let d = c.in_ok-read_data.ensures.answer in
    let e = c.in_ok-read_piece.ensures.answer in
    let rest = pending g.S.ByteStream.left c.read_piece.new.self in
    record {
      piece = d.piece;
      length_is = d.length_is;
      split = d.split ∙ ap (prepend_known d.piece) (e.split ∙ ap (λ w. prepend_known w rest) e.message) ∙ sym (prepend_known-append d.piece crlf_bytes rest);
      appended = d.appended;
    }

pub returns-in_err-read_data-clause-whole : goal.returns-in_err-read_data-clause-whole
returns-in_err-read_data-clause-whole g c =
    let p = err_from_is_err_and c.from_residual.result c.from_residual.ensures.1 in
    rw (p.1, p.2) (λ stream there stands. fails_found (IsSized c.args.size) _ _ c.in_err-read_data.field-0.0 c.in_err-read_data.ensures.answer stream (content_there c.args.size stream there) stands)

pub returns-in_err-read_piece-clause-whole : goal.returns-in_err-read_piece-clause-whole
returns-in_err-read_piece-clause-whole g c =
    let p = err_from_is_err_and c.from_residual-in_err-read_piece.result c.from_residual-in_err-read_piece.ensures.1 in
    rw (p.1, p.2) (λ stream there stands.
    let d = c.in_ok-read_data.ensures.answer in
    let r = left_of d.piece (pending g.S.ByteStream.left c.read_data.new.self) _ stream d.split stands in
    fails_found IsCrlf _ _ c.in_err-read_piece.field-0.0 c.in_err-read_piece.ensures.answer r.0 (crlf_there _ c.args.size stream d.piece r.0 there d.length_is r.2) r.1)

pub returns-in_err-read_data-clause-why : goal.returns-in_err-read_data-clause-why
returns-in_err-read_data-clause-why g c =
    let p = err_from_is_err_and c.from_residual.result c.from_residual.ensures.1 in
    rw (p.1, p.2) (λ stream stands. cut_piece (HasNoChunkEnd c.args.size) OverrunsNever stream c.in_err-read_data.field-0.0 c.in_err-read_data.ensures.why)

pub returns-in_err-read_piece-clause-why : goal.returns-in_err-read_piece-clause-why
returns-in_err-read_piece-clause-why g c =
    let p = err_from_is_err_and c.from_residual-in_err-read_piece.result c.from_residual-in_err-read_piece.ensures.1 in
    rw (p.1, p.2) (λ stream stands.
    end_refused c.args.size _ _ _ _ c.in_err-read_piece.field-0.0 c.in_ok-read_data.ensures.answer c.in_err-read_piece.ensures.why stream stands)
