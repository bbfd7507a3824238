-- A chunked body after a size line.
use Rattle.std.proofs.Common.{◌≡◌, ℕ, ◌+◌, ◌<◌, ◌≤◌, Bool, true, false, List, [], ◌∷◌, ◌++◌, length, flat_map, refl, ap, ◌∙◌, sym, subst, arith, append_assoc, append-nil, length-append, take, drop, suc, zero, ◌⊎◌, inl, inr}
use Rattle.std.proofs.lemmas.List.{take_at, drop_at}
use Rattle.std.proofs.lemmas.Bool.{false≢true}
use Rattle.httparse.proofs.GrammarLemmas.{section_unique}
use Rattle.relay_http.specs.Forms.{IsUnique}
use Rattle.relay_http.specs.Body.{IsSized}
use Rattle.relay_http.proofs.Leading.{moved, joined}
use Rattle.std.specs.List.{AllByRecursion}
use Rattle.httparse.specs.Ascii.{crlf_bytes}
use Rattle.httparse.specs.Grammar.{ChunkLine, print_chunk_line, chunk_size}
use Rattle.httparse.proofs.ChunkLemmas.{chunk_line_unique}
use Rattle.relay_http.specs.Forms.{Begins, Gives}
use Rattle.relay_http.proofs.Leading.{Leads}
use Rattle.relay_http.specs.Steps.{IsLine, IsTrailer, IsCrlf, IsDataAfter, IsLastAfter}
use Rattle.relay_http.specs.ChunkedBody.{FitsLine, IsSizeLine, Chunk, IsChunk, print_chunk, IsTrailerText, IsChunkedAfter}

pub first_line : (t s : List ℕ) (l k : ChunkLine) (rest : List ℕ) → FitsLine l → FitsLine k → t ≡ print_chunk_line l → t ++ s ≡ print_chunk_line k ++ rest → (l ≡ k) × (s ≡ rest)
first_line t s l k rest fl fk e f = chunk_line_unique (t ++ s) l k s rest (fl.grammar, ap (λ w. w ++ s) e) (fk.grammar, f)

-- after a size line that is not 0 there are its data, CRLF and further chunks
behind_size : (limit : ℕ) (before t s : List ℕ) (l : ChunkLine) → FitsLine l → t ≡ print_chunk_line l → 0 < chunk_size l
    → (chunks : List Chunk) (zero_line : ChunkLine) (trailer rest content : List ℕ) (ends : Bool)
    → AllByRecursion IsChunk chunks → FitsLine zero_line → chunk_size zero_line ≡ 0 → IsTrailerText trailer → content ≡ before ++ flat_map (λ c. c.content) chunks → length content ≤ limit
    → (ends ≡ true → rest ≡ []) → t ++ s ≡ (flat_map print_chunk chunks ++ (print_chunk_line zero_line ++ trailer)) ++ rest
    → (b : Begins (IsDataAfter limit before (chunk_size l)) s) × Gives content rest b
behind_size limit before t s l fits e some [] z trailer rest content ends each zfits none tr_is is size last split =
    let same = first_line t s l z (trailer ++ rest) fits zfits e (split ∙ append_assoc (print_chunk_line z) trailer rest) in
    let wrong : chunk_size l ≡ 0 = ap chunk_size same.0 ∙ none in
    absurd (omega (arith, some, wrong))
behind_size limit before t s l fits e some (k ∷ ks) z trailer rest content ends each zfits none tr_is is size last split =
    let more = flat_map print_chunk ks ++ (print_chunk_line z ++ trailer) in
    let piece = k.content ++ (crlf_bytes ++ more) in
    let same = first_line t s l k.line (piece ++ rest) fits each.0.fits e (split ∙ regroup (print_chunk_line k.line) k.content crlf_bytes (flat_map print_chunk ks) (print_chunk_line z ++ trailer) rest) in (
      record {
        front = piece;
        ends = ends;
        value = content;
        rest = rest;
        message = record {
          piece = k.content;
          more = more;
          size_is = sym each.0.size_is ∙ ap chunk_size (sym same.0);
          chunked = record { chunks = ks; each = each.1; zero_line = z; zero_fits = zfits; zero_is = none; trailer = trailer; trailer_is = tr_is; content_is = is ∙ sym (append_assoc before k.content (flat_map (λ c. c.content) ks)); size = size; bytes_are = refl };
          bytes_are = refl;
        };
        split = same.1;
        last = last;
      },
      record { value_is = refl; rest_is = refl },
    )
  where
    regroup : (a d c f z r : List ℕ) → (((a ++ (d ++ c)) ++ f) ++ z) ++ r ≡ a ++ ((d ++ (c ++ (f ++ z))) ++ r)
    regroup a d c f z r = simp (append_assoc)

pub size_leads : (limit : ℕ) (before t : List ℕ) (e : Bool) (n : ℕ) → IsSizeLine t e n → 0 < n → Leads (IsChunkedAfter limit before) (IsDataAfter limit before n) t
size_leads limit before t e n m some = record {
  peel = λ s b. subst (λ k. (c : Begins (IsDataAfter limit before k) s) × Gives b.value b.rest c) (sym m.size_is) (behind_size limit before t s m.line m.fits m.bytes_are (subst (λ k. 0 < k) m.size_is some) b.message.chunks b.message.zero_line b.message.trailer b.rest b.value b.ends b.message.each b.message.zero_fits b.message.zero_is b.message.trailer_is b.message.content_is b.message.size b.last (b.split ∙ ap (λ w. w ++ b.rest) b.message.bytes_are));
  build = λ x ends a d.
      let r = d.chunked in
      record {
        chunks = record { line = m.line; content = d.piece } ∷ r.chunks;
        each = (record { fits = m.fits; size_is = sym m.size_is ∙ sym d.size_is; some = rw d.size_is some }, r.each);
        zero_line = r.zero_line;
        zero_fits = r.zero_fits;
        zero_is = r.zero_is;
        trailer = r.trailer;
        trailer_is = r.trailer_is;
        content_is = r.content_is ∙ append_assoc before d.piece (flat_map (λ c. c.content) r.chunks);
        size = r.size;
        bytes_are = ap (λ w. w ++ x) m.bytes_are ∙ ap (λ w. print_chunk_line m.line ++ w) (d.bytes_are ∙ ap (λ w. d.piece ++ (crlf_bytes ++ w)) r.bytes_are) ∙ sym (back (print_chunk_line m.line) d.piece crlf_bytes (flat_map print_chunk r.chunks) (print_chunk_line r.zero_line ++ r.trailer));
      };
}
  where
    back : (a d c f z : List ℕ) → ((a ++ (d ++ c)) ++ f) ++ z ≡ a ++ (d ++ (c ++ (f ++ z)))
    back a d c f z = simp (append_assoc)

-- two fronts of one length are one
pub same_front : (s x y u v : List ℕ) → s ≡ x ++ u → s ≡ y ++ v → length x ≡ length y → (x ≡ y) × (u ≡ v)
same_front s x y u v e f l = (
  sym (take_at x u (length x) refl) ∙ ap (take (length x)) (sym e ∙ f) ∙ take_at y v (length x) (sym l),
  sym (drop_at x u (length x) refl) ∙ ap (drop (length x)) (sym e ∙ f) ∙ drop_at y v (length x) (sym l),
)

-- after the content of a chunk and CRLF there are further chunks
pub chunk_leads : (limit : ℕ) (before piece : List ℕ) (n : ℕ) → length piece ≡ n → Leads (IsDataAfter limit before n) (IsChunkedAfter limit (before ++ piece)) (piece ++ crlf_bytes)
chunk_leads limit before piece n size = record {
  peel = λ s b.
      let m = b.message in
      let whole : (piece ++ crlf_bytes) ++ s ≡ m.piece ++ (crlf_bytes ++ (m.more ++ b.rest)) = b.split ∙ ap (λ w. w ++ b.rest) m.bytes_are ∙ append_assoc m.piece (crlf_bytes ++ m.more) b.rest ∙ ap (λ w. m.piece ++ w) (append_assoc crlf_bytes m.more b.rest) in
      let first = same_front ((piece ++ crlf_bytes) ++ s) piece m.piece (crlf_bytes ++ s) (crlf_bytes ++ (m.more ++ b.rest)) (append_assoc piece crlf_bytes s) whole (size ∙ sym m.size_is) in
      let second = same_front (crlf_bytes ++ s) crlf_bytes crlf_bytes s (m.more ++ b.rest) refl first.1 refl in (
        record {
          front = m.more;
          ends = b.ends;
          value = b.value;
          rest = b.rest;
          message = subst (λ p. IsChunkedAfter limit (before ++ p) m.more b.ends b.value) (sym first.0) m.chunked;
          split = second.1;
          last = b.last;
        },
        record { value_is = refl; rest_is = refl },
      );
  build = λ x e a m. record { piece = piece; more = x; size_is = size; chunked = m; bytes_are = append_assoc piece crlf_bytes x };
}

-- after a size line of 0 there is the trailer
behind_zero : (limit : ℕ) (before t s : List ℕ) (l : ChunkLine) → FitsLine l → t ≡ print_chunk_line l → chunk_size l ≡ 0
    → (chunks : List Chunk) (zero_line : ChunkLine) (trailer rest content : List ℕ) (ends : Bool)
    → AllByRecursion IsChunk chunks → FitsLine zero_line → IsTrailerText trailer → content ≡ before ++ flat_map (λ c. c.content) chunks → length content ≤ limit
    → (ends ≡ true → rest ≡ []) → t ++ s ≡ (flat_map print_chunk chunks ++ (print_chunk_line zero_line ++ trailer)) ++ rest
    → (b : Begins (IsLastAfter limit before) s) × Gives content rest b
behind_zero limit before t s l fits e none [] z trailer rest content ends each zfits tr_is is size last split =
    let same = first_line t s l z (trailer ++ rest) fits zfits e (split ∙ append_assoc (print_chunk_line z) trailer rest) in
    (record { front = trailer; ends = ends; value = content; rest = rest; message = record { trailer_is = tr_is; content_is = is ∙ append-nil before; size = size }; split = same.1; last = last }, record { value_is = refl; rest_is = refl })
behind_zero limit before t s l fits e none (k ∷ ks) z trailer rest content ends each zfits tr_is is size last split =
    let piece = k.content ++ (crlf_bytes ++ (flat_map print_chunk ks ++ (print_chunk_line z ++ trailer))) in
    let same = first_line t s l k.line (piece ++ rest) fits each.0.fits e (split ∙ regroup (print_chunk_line k.line) k.content crlf_bytes (flat_map print_chunk ks) (print_chunk_line z ++ trailer) rest) in
    let wrong : length k.content ≡ 0 = sym each.0.size_is ∙ ap chunk_size (sym same.0) ∙ none in
    let some = each.0.some in
    absurd (omega (arith, some, wrong))
  where
    regroup : (a d c f z r : List ℕ) → (((a ++ (d ++ c)) ++ f) ++ z) ++ r ≡ a ++ ((d ++ (c ++ (f ++ z))) ++ r)
    regroup a d c f z r = simp (append_assoc)

pub zero_leads : (limit : ℕ) (before t : List ℕ) (e : Bool) (n : ℕ) → IsSizeLine t e n → n ≡ 0 → Leads (IsChunkedAfter limit before) (IsLastAfter limit before) t
zero_leads limit before t e n m none = record {
  peel = λ s b. behind_zero limit before t s m.line m.fits m.bytes_are (sym m.size_is ∙ none) b.message.chunks b.message.zero_line b.message.trailer b.rest b.value b.ends b.message.each b.message.zero_fits b.message.trailer_is b.message.content_is b.message.size b.last (b.split ∙ ap (λ w. w ++ b.rest) b.message.bytes_are);
  build = λ x ends a d. record {
    chunks = [];
    each = tt;
    zero_line = m.line;
    zero_fits = m.fits;
    zero_is = sym m.size_is ∙ none;
    trailer = x;
    trailer_is = d.trailer_is;
    content_is = d.content_is ∙ sym (append-nil before);
    size = d.size;
    bytes_are = ap (λ w. w ++ x) m.bytes_are;
  };
}

-- a chunked body begins with a size line
pub begins_line : (limit : ℕ) (before s : List ℕ) → Begins (IsChunkedAfter limit before) s → Begins IsSizeLine s
begins_line limit before s b = first b.message.chunks b.message.each (b.split ∙ ap (λ w. w ++ b.rest) b.message.bytes_are)
  where
    line_of : (l : ChunkLine) (rest : List ℕ) → FitsLine l → s ≡ print_chunk_line l ++ rest → Begins IsSizeLine s
    line_of l rest fits e = record { front = print_chunk_line l; ends = false; value = chunk_size l; rest = rest; message = record { line = l; fits = fits; bytes_are = refl; size_is = refl }; split = e; last = λ x. absurd (false≢true x) }

    regroup : (a d c f z r : List ℕ) → (((a ++ (d ++ c)) ++ f) ++ z) ++ r ≡ a ++ ((d ++ (c ++ (f ++ z))) ++ r)
    regroup a d c f z r = simp (append_assoc)

    first : (chunks : List Chunk) → AllByRecursion IsChunk chunks → s ≡ (flat_map print_chunk chunks ++ (print_chunk_line b.message.zero_line ++ b.message.trailer)) ++ b.rest → Begins IsSizeLine s
    first [] d e = line_of b.message.zero_line (b.message.trailer ++ b.rest) b.message.zero_fits (e ∙ append_assoc (print_chunk_line b.message.zero_line) b.message.trailer b.rest)
    first (k ∷ ks) d e = line_of k.line ((k.content ++ (crlf_bytes ++ (flat_map print_chunk ks ++ (print_chunk_line b.message.zero_line ++ b.message.trailer)))) ++ b.rest) d.0.fits (e ∙ regroup (print_chunk_line k.line) k.content crlf_bytes (flat_map print_chunk ks) (print_chunk_line b.message.zero_line ++ b.message.trailer) b.rest)

pub begins_piece : (limit : ℕ) (before s : List ℕ) → Begins (IsChunkedAfter limit before) s → Begins IsLine s
begins_piece limit before s b =
    let c = begins_line limit before s b in
    record { front = c.front; ends = c.ends; value = record { size = c.value }; rest = c.rest; message = c.message; split = c.split; last = c.last }

-- what follows a size line of 0 begins with a trailer
pub begins_trailer : {A : Type 0} (a : A) (limit : ℕ) (before s : List ℕ) → Begins (IsLastAfter limit before) s → Begins (IsTrailer {A = A}) s
begins_trailer a limit before s b = record { front = b.front; ends = b.ends; value = a; rest = b.rest; message = b.message.trailer_is; split = b.split; last = b.last }

-- what follows another begins with the content
pub begins_data : (limit : ℕ) (before : List ℕ) (n : ℕ) (s : List ℕ) → Begins (IsDataAfter limit before n) s → Begins (IsSized n) s
begins_data limit before n s b =
    let m = b.message in
    record { front = m.piece; ends = false; value = m.piece; rest = (crlf_bytes ++ m.more) ++ b.rest; message = record { length_is = m.size_is; same = refl }; split = b.split ∙ ap (λ w. w ++ b.rest) m.bytes_are ∙ append_assoc m.piece (crlf_bytes ++ m.more) b.rest; last = λ x. absurd (false≢true x) }

-- and then there is CRLF
pub begins_end : {A : Type 0} (a : A) (limit : ℕ) (before : List ℕ) (n : ℕ) (piece : List ℕ) → length piece ≡ n → (s : List ℕ) → Begins (IsDataAfter limit before n) (piece ++ s) → Begins (IsCrlf {A = A}) s
begins_end a limit before n piece size s b =
    let m = b.message in
    let whole : piece ++ s ≡ m.piece ++ (crlf_bytes ++ (m.more ++ b.rest)) = b.split ∙ ap (λ w. w ++ b.rest) m.bytes_are ∙ append_assoc m.piece (crlf_bytes ++ m.more) b.rest ∙ ap (λ w. m.piece ++ w) (append_assoc crlf_bytes m.more b.rest) in
    let first = same_front (piece ++ s) piece m.piece s (crlf_bytes ++ (m.more ++ b.rest)) refl whole (size ∙ sym m.size_is) in
    record { front = crlf_bytes; ends = false; value = a; rest = m.more ++ b.rest; message = refl; split = first.1; last = λ x. absurd (false≢true x) }

-- a size line that passes the limit leads nowhere
pub too_long : (limit : ℕ) (before t : List ℕ) (e : Bool) (n : ℕ) → IsSizeLine t e n → 0 < n → limit < length before + n → (s : List ℕ) → ¬ (Begins (IsChunkedAfter limit before) (t ++ s))
too_long limit before t e n m some long s b =
    let d = ((size_leads limit before t e n m some).peel s b).0 in
    let k = d.message.chunked in
    let size = k.size in
    let whole : length d.value ≡ length ((before ++ d.message.piece) ++ flat_map (λ (c : Chunk). c.content) k.chunks) = ap length k.content_is in
    let outer = length-append (before ++ d.message.piece) (flat_map (λ (c : Chunk). c.content) k.chunks) in
    let inner = length-append before d.message.piece in
    let piece = d.message.size_is in
    omega (arith, size, whole, outer, inner, piece, long)

-- ---- a stream begins with one chunked body at most

last_unique : (limit : ℕ) (before : List ℕ) → IsUnique (IsLastAfter limit before)
last_unique limit before = record {
  same = λ s b c.
      let x = b.message.trailer_is in
      let y = c.message.trailer_is in
      let same = section_unique s x.fields y.fields x.last y.last b.rest c.rest (x.grammar, b.split ∙ ap (λ w. w ++ b.rest) x.bytes_are) (y.grammar, c.split ∙ ap (λ w. w ++ c.rest) y.bytes_are) in
      record { value_is = b.message.content_is ∙ sym c.message.content_is; rest_is = same.2 };
}

zero_or : (n : ℕ) → (n ≡ 0) ⊎ (0 < n)
zero_or zero = inl refl
zero_or (suc n) = inr (omega arith)

unique_step : (limit : ℕ) (before s : List ℕ)
    → ((longer t : List ℕ) → length t < length s → (b c : Begins (IsChunkedAfter limit longer) t) → Gives b.value b.rest c)
    → (b c : Begins (IsChunkedAfter limit before) s) (h : Begins IsSizeLine s) → (h.value ≡ 0) ⊎ (0 < h.value) → Gives b.value b.rest c
unique_step limit before s on b c h (inl none) =
    let l = zero_leads limit before h.front h.ends h.value h.message none in
    let x = l.peel h.rest (moved h.split b) in
    let y = l.peel h.rest (moved h.split c) in
    joined b c x.0 y.0 x.1 y.1 ((last_unique limit before).same h.rest x.0 y.0)
unique_step limit before s on b c h (inr some) =
    let l = size_leads limit before h.front h.ends h.value h.message some in
    let x = l.peel h.rest (moved h.split b) in
    let y = l.peel h.rest (moved h.split c) in
    let m = x.0.message in
    let t = m.more ++ x.0.rest in
    let g = chunk_leads limit before m.piece h.value m.size_is in
    let e : h.rest ≡ (m.piece ++ crlf_bytes) ++ t = x.0.split ∙ ap (λ w. w ++ x.0.rest) m.bytes_are ∙ back m.piece crlf_bytes m.more x.0.rest in
    let u = g.peel t (moved e x.0) in
    let v = g.peel t (moved e y.0) in
    let first : length s ≡ length (h.front ++ h.rest) = ap length h.split in
    let second = length-append h.front h.rest in
    let third : length h.rest ≡ length ((m.piece ++ crlf_bytes) ++ t) = ap length e in
    let fourth = length-append (m.piece ++ crlf_bytes) t in
    let fifth = length-append m.piece crlf_bytes in
    let size = m.size_is in
    let less : length t < length s = omega (arith, first, second, third, fourth, fifth, size, some) in
    joined b c x.0 y.0 x.1 y.1 (joined x.0 y.0 u.0 v.0 u.1 v.1 (on (before ++ m.piece) t less u.0 v.0))
  where
    back : (p c m r : List ℕ) → (p ++ (c ++ m)) ++ r ≡ (p ++ c) ++ (m ++ r)
    back p c m r = simp (append_assoc)

unique_within : (limit fuel : ℕ) (before s : List ℕ) → length s < fuel → (b c : Begins (IsChunkedAfter limit before) s) → Gives b.value b.rest c
unique_within limit zero before s short b c = absurd (omega (arith, short))
unique_within limit (suc fuel) before s short b c =
    unique_step limit before s (λ longer t less. unique_within limit fuel longer t (omega (arith, less, short))) b c (begins_line limit before s b) (zero_or (begins_line limit before s b).value)

pub chunked_unique : (limit : ℕ) (before : List ℕ) → IsUnique (IsChunkedAfter limit before)
chunked_unique limit before = record { same = λ s b c. unique_within limit (suc (length s)) before s (omega arith) b c }
