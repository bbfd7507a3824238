use Rattle.std.proofs.Common.{rules, refl, inr, [], ◌≡◌, ◌∙◌, ◌+◌, ◌-◌, ◌<◌, ◌≤◌, ◌++◌, append_assoc, length-append, ap, sym, subst, arith, length}
use Rattle.std.proofs.lemmas.Result.{err_from_is_err_and}
use Rattle.httparse.specs.Ascii.{crlf_bytes}
use Rattle.relay_http.specs.Forms.{Begins}
use Rattle.relay_http.proofs.Leading.{Leads}
use Rattle.relay_http.specs.Steps.{IsLine, IsTrailer, IsDataAfter, IsLastAfter}
use Rattle.relay_http.specs.ChunkedBody.{IsChunked, IsChunkedAfter, IsLongChunked}
use Rattle.relay_http.proofs.Stands.{prepend_known-nil}
use Rattle.relay_http.proofs.Leading.{leads_none, leads_on, fails_behind, took_behind}
use Rattle.relay_http.proofs.Passing.{stood_behind, refused_here}
use Rattle.relay_http.proofs.Chunks.{size_leads, chunk_leads, zero_leads, begins_piece, begins_trailer, too_long}
use Rattle.relay_http.proofs.LongBodies.{long_begins, line_taken, chunk_taken, chunk_there}
use Rattle.relay_http.proofs.Unique.{fails_found}
use Rattle.relay_http.proofs.Refusing.{IsBehindChunks, chunk_passed, content_refused, limit_passed, line_refused, no_chunk_passed, size_refused, trailer_refused}
use Rattle.relay_http.proofs.buffered.Buffered.read_chunked.Goals as goal

pub chunks-init : goal.chunks-init
chunks-init g c =
    let nothing : c.new-body.result ≡ [] = search rules in
    record {
      few = search rules;
      front = ([], sym (prepend_known-nil _), subst (λ b. Leads (IsChunked c.args.limit) (IsChunkedAfter c.args.limit b) []) (sym nothing) (leads_none (IsChunked c.args.limit)));
      long = λ s there stands. (s, subst (λ b. IsLongChunked c.args.limit b s) (sym nothing) there, stands);
      behind = subst (IsBehindChunks _ _) (sym nothing) (no_chunk_passed _);
      count = refl;
      written = refl;
    }

pub returns-in_err-size-clause-answer : goal.returns-in_err-size-clause-answer
returns-in_err-size-clause-answer g c =
    let p = err_from_is_err_and c.from_residual.result c.from_residual.ensures.1 in
    rw (p.1, p.2) (let f = c.chunks.invariant.front in
    fails_behind (IsChunked c.args.limit) IsLine f.0 _ _ _ c.in_err-size.field-0.0 (λ s b. begins_piece c.args.limit c.chunks.body s (f.2.peel s b).0) f.1 c.in_err-size.ensures.answer)

pub returns-in_err-read_piece-clause-answer : goal.returns-in_err-read_piece-clause-answer
returns-in_err-read_piece-clause-answer g c =
    let p = err_from_is_err_and c.from_residual-in_err-read_piece.result c.from_residual-in_err-read_piece.ensures.1 in
    rw (p.1, p.2) (let f = c.chunks.invariant.front in
    let t = c.in_ok-size.ensures.answer in
    let none : c.in_ok-size.field-0.size ≡ 0 = search rules in
    let leads = leads_on (IsChunked c.args.limit) (IsChunkedAfter c.args.limit c.chunks.body) (IsLastAfter c.args.limit c.chunks.body) f.0 t.front f.2 (zero_leads c.args.limit c.chunks.body t.front t.ends c.in_ok-size.field-0.size t.message none) in
    fails_behind (IsChunked c.args.limit) IsTrailer (f.0 ++ t.front) _ _ _ c.in_err-read_piece.field-0.0 (λ s b. begins_trailer _ c.args.limit c.chunks.body s (leads.peel s b).0) (stood_behind f.0 t.front _ _ _ f.1 t.split) c.in_err-read_piece.ensures.answer)

pub returns-then-size-eq0-clause-answer : goal.returns-then-size-eq0-clause-answer
returns-then-size-eq0-clause-answer g c =
    let f = c.chunks.invariant.front in
    let t = c.in_ok-size.ensures.answer in
    let e = c.in_ok-read_piece.ensures.answer in
    let none : c.in_ok-size.field-0.size ≡ 0 = search rules in
    let leads = leads_on (IsChunked c.args.limit) (IsChunkedAfter c.args.limit c.chunks.body) (IsLastAfter c.args.limit c.chunks.body) f.0 t.front f.2 (zero_leads c.args.limit c.chunks.body t.front t.ends c.in_ok-size.field-0.size t.message none) in
    rw c.into_vec.ensures (took_behind (IsChunked c.args.limit) (IsLastAfter c.args.limit c.chunks.body) (f.0 ++ t.front) _ _ _ c.chunks.body leads (stood_behind f.0 t.front _ _ _ f.1 t.split)
    (record { front = e.front; ends = e.ends; message = record { trailer_is = e.message; content_is = refl; size = c.chunks.invariant.few }; split = e.split; last = e.last }))

pub returns-then-size-limit-clause-answer : goal.returns-then-size-limit-clause-answer
returns-then-size-limit-clause-answer g c =
    let f = c.chunks.invariant.front in
    let t = c.in_ok-size.ensures.answer in
    let few = c.chunks.invariant.few in
    let past : c.args.limit - length c.chunks.body < c.in_ok-size.field-0.size = search rules in
    refused_here (IsChunked c.args.limit) (f.0 ++ t.front) _ c.read_piece.new.self.window (g.S.ByteStream.left c.read_piece.new.self.stream) (stood_behind f.0 t.front _ _ _ f.1 t.split)
    (λ s b. too_long c.args.limit c.chunks.body t.front t.ends c.in_ok-size.field-0.size t.message (omega (arith, past)) (omega (arith, past, few)) s (f.2.peel (t.front ++ s) (subst (Begins (IsChunked c.args.limit)) (append_assoc f.0 t.front s) b)).0)

pub returns-in_err-read_chunk-clause-answer : goal.returns-in_err-read_chunk-clause-answer
returns-in_err-read_chunk-clause-answer g c =
    let p = err_from_is_err_and c.from_residual-in_err-read_chunk.result c.from_residual-in_err-read_chunk.ensures.1 in
    rw (p.1, p.2) (let f = c.chunks.invariant.front in
    let t = c.in_ok-size.ensures.answer in
    let some : 0 < c.in_ok-size.field-0.size = search rules in
    let leads = leads_on (IsChunked c.args.limit) (IsChunkedAfter c.args.limit c.chunks.body) (IsDataAfter c.args.limit c.chunks.body c.in_ok-size.field-0.size) f.0 t.front f.2 (size_leads c.args.limit c.chunks.body t.front t.ends c.in_ok-size.field-0.size t.message some) in
    fails_behind (IsChunked c.args.limit) (IsDataAfter c.args.limit c.chunks.body c.in_ok-size.field-0.size) (f.0 ++ t.front) _ _ _ c.in_err-read_chunk.field-0.0 (λ s b. (leads.peel s b).0) (stood_behind f.0 t.front _ _ _ f.1 t.split) c.in_err-read_chunk.ensures.answer)

pub chunks-preserved : goal.chunks-preserved
chunks-preserved g c =
    let f = c.chunks.invariant.front in
    let t = c.in_ok-size.ensures.answer in
    let d = c.in_ok-read_chunk.ensures.answer in
    let some : 0 < c.in_ok-size.field-0.size = search rules in
    let few = c.chunks.invariant.few in
    let below : c.in_ok-size.field-0.size ≤ c.args.limit - length c.chunks.body = search rules in
    let total = ap length d.appended ∙ length-append c.chunks.body d.piece in
    let size = d.length_is in
    let first = leads_on (IsChunked c.args.limit) (IsChunkedAfter c.args.limit c.chunks.body) (IsDataAfter c.args.limit c.chunks.body c.in_ok-size.field-0.size) f.0 t.front f.2 (size_leads c.args.limit c.chunks.body t.front t.ends c.in_ok-size.field-0.size t.message some) in
    let second = leads_on (IsChunked c.args.limit) (IsDataAfter c.args.limit c.chunks.body c.in_ok-size.field-0.size) (IsChunkedAfter c.args.limit (c.chunks.body ++ d.piece)) (f.0 ++ t.front) (d.piece ++ crlf_bytes) first (chunk_leads c.args.limit c.chunks.body d.piece c.in_ok-size.field-0.size size) in
    let front = (f.0 ++ t.front) ++ (d.piece ++ crlf_bytes) in
    record {
      few = omega (arith, total, size, few, below);
      front = (front, stood_behind (f.0 ++ t.front) (d.piece ++ crlf_bytes) _ _ _ (stood_behind f.0 t.front _ _ _ f.1 t.split) d.split, subst (λ b. Leads (IsChunked c.args.limit) (IsChunkedAfter c.args.limit b) front) (sym d.appended) second);
      long = λ s there stands.
          let r = c.chunks.invariant.long s there stands in
          let fits : length c.chunks.body + c.in_ok-size.field-0.size ≤ c.args.limit = omega (arith, few, below) in
          let q = line_taken c.args.limit c.chunks.body r.0 _ _ c.in_ok-size.field-0.size r.1 r.2 t fits in
          chunk_taken c.args.limit c.chunks.body _ q.0 _ _ c.in_ok-size.field-0.size q.2 q.1 d;
      behind = chunk_passed _ _ _ _ c.chunks.body _ c.in_ok-size.field-0 c.chunks.invariant.behind t some d;
      count = search rules;
      written = search rules;
    }

pub chunks-smaller : goal.chunks-smaller
chunks-smaller g c =
    let d = c.in_ok-read_chunk.ensures.answer in
    let some : 0 < c.in_ok-size.field-0.size = search rules in
    let few = c.chunks.invariant.few in
    let below : c.in_ok-size.field-0.size ≤ c.args.limit - length c.chunks.body = search rules in
    let total = ap length d.appended ∙ length-append c.chunks.body d.piece in
    let size = d.length_is in
    omega (arith, total, size, few, below, some)

pub returns-in_err-size-clause-long : goal.returns-in_err-size-clause-long
returns-in_err-size-clause-long g c =
    let p = err_from_is_err_and c.from_residual.result c.from_residual.ensures.1 in
    rw (p.1, p.2) (λ s there stands.
    let r = c.chunks.invariant.long s there stands in
    inr (fails_found IsLine _ _ c.in_err-size.field-0.0 c.in_err-size.ensures.answer r.0 (long_begins c.args.limit c.chunks.body r.0 r.1) r.2))

pub returns-in_err-read_piece-clause-long : goal.returns-in_err-read_piece-clause-long
returns-in_err-read_piece-clause-long g c =
    let p = err_from_is_err_and c.from_residual-in_err-read_piece.result c.from_residual-in_err-read_piece.ensures.1 in
    rw (p.1, p.2) (λ s there stands.
    let r = c.chunks.invariant.long s there stands in
    let few = c.chunks.invariant.few in
    let none : c.in_ok-size.field-0.size ≡ 0 = search rules in
    let q = line_taken c.args.limit c.chunks.body r.0 _ _ c.in_ok-size.field-0.size r.1 r.2 c.in_ok-size.ensures.answer (omega (arith, few, none)) in
    let some = q.2.some in
    absurd (omega (arith, some, none)))

pub returns-then-size-eq0-clause-long : goal.returns-then-size-eq0-clause-long
returns-then-size-eq0-clause-long g c = λ s there stands.
    let r = c.chunks.invariant.long s there stands in
    let few = c.chunks.invariant.few in
    let none : c.in_ok-size.field-0.size ≡ 0 = search rules in
    let q = line_taken c.args.limit c.chunks.body r.0 _ _ c.in_ok-size.field-0.size r.1 r.2 c.in_ok-size.ensures.answer (omega (arith, few, none)) in
    let some = q.2.some in
    absurd (omega (arith, some, none))

pub returns-in_err-read_chunk-clause-long : goal.returns-in_err-read_chunk-clause-long
returns-in_err-read_chunk-clause-long g c =
    let p = err_from_is_err_and c.from_residual-in_err-read_chunk.result c.from_residual-in_err-read_chunk.ensures.1 in
    rw (p.1, p.2) (λ s there stands.
    let r = c.chunks.invariant.long s there stands in
    let few = c.chunks.invariant.few in
    let below : c.in_ok-size.field-0.size ≤ c.args.limit - length c.chunks.body = search rules in
    let q = line_taken c.args.limit c.chunks.body r.0 _ _ c.in_ok-size.field-0.size r.1 r.2 c.in_ok-size.ensures.answer (omega (arith, few, below)) in
    inr (c.in_err-read_chunk.ensures.whole q.0 (chunk_there c.args.limit c.chunks.body q.0 c.in_ok-size.field-0.size q.2) q.1))

pub returns-in_err-size-clause-why : goal.returns-in_err-size-clause-why
returns-in_err-size-clause-why g c =
    let p = err_from_is_err_and c.from_residual.result c.from_residual.ensures.1 in
    rw (p.1, p.2) (λ stream stands.
    line_refused c.args.limit _ _ c.chunks.body c.in_err-size.field-0.0 c.chunks.invariant.behind (λ r e. size_refused r c.in_err-size.field-0.0 (c.in_err-size.ensures.why r e)) stream stands)

pub returns-in_err-read_piece-clause-why : goal.returns-in_err-read_piece-clause-why
returns-in_err-read_piece-clause-why g c =
    let p = err_from_is_err_and c.from_residual-in_err-read_piece.result c.from_residual-in_err-read_piece.ensures.1 in
    rw (p.1, p.2) (λ stream stands.
    let none : c.in_ok-size.field-0.size ≡ 0 = search rules in
    line_refused c.args.limit _ _ c.chunks.body c.in_err-read_piece.field-0.0 c.chunks.invariant.behind
    (trailer_refused _ _ c.in_ok-size.field-0 c.in_err-read_piece.field-0.0 c.in_ok-size.ensures.answer none c.in_err-read_piece.ensures.why) stream stands)

pub returns-then-size-limit-clause-why : goal.returns-then-size-limit-clause-why
returns-then-size-limit-clause-why g c = λ stream stands.
    let past : c.args.limit - length c.chunks.body < c.in_ok-size.field-0.size = search rules in
    limit_passed c.args.limit _ _ _ c.chunks.body c.in_ok-size.field-0 c.chunks.invariant.behind c.in_ok-size.ensures.answer (omega (arith, past)) stream stands

pub returns-in_err-read_chunk-clause-why : goal.returns-in_err-read_chunk-clause-why
returns-in_err-read_chunk-clause-why g c =
    let p = err_from_is_err_and c.from_residual-in_err-read_chunk.result c.from_residual-in_err-read_chunk.ensures.1 in
    rw (p.1, p.2) (λ stream stands.
    let some : 0 < c.in_ok-size.field-0.size = search rules in
    line_refused c.args.limit _ _ c.chunks.body c.in_err-read_chunk.field-0.0 c.chunks.invariant.behind
    (content_refused _ _ c.in_ok-size.field-0 c.in_err-read_chunk.field-0.0 c.in_ok-size.ensures.answer some c.in_err-read_chunk.ensures.why) stream stands)
