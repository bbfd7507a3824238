-- Bodies that pass their limit.
use Rattle.std.proofs.Common.{◌≡◌, ℕ, ◌+◌, ◌<◌, ◌≤◌, Bool, false, List, [], ◌∷◌, ◌++◌, length, flat_map, refl, ap, ◌∙◌, sym, subst, arith, append_assoc, length-append, Option, Some}
use Rattle.std.proofs.lemmas.Bool.{false≢true}
use Rattle.std.specs.List.{AllByRecursion}
use Rattle.std.specs.Io.KnownBytes.{IsAtEnd, prepend_known}
use Rattle.httparse.specs.Ascii.{crlf_bytes}
use Rattle.httparse.specs.Grammar.{ChunkLine, print_chunk_line, chunk_size}
use Rattle.relay_http.specs.Forms.{Begins, Took}
use Rattle.relay_http.specs.Body.{IsSized, IsLongRest}
use Rattle.relay_http.specs.Steps.{Moved, IsLine, IsChunkThere, IsCrlf, TookChunk}
use Rattle.relay_http.specs.ChunkedBody.{FitsLine, IsSizeLine, Chunk, IsChunk, print_chunk, IsLongChunked}
use Rattle.relay_http.proofs.Chunks.{first_line, same_front}
use Rattle.relay_http.proofs.Stands.{no_bytes, prepend_known-nil}
use Rattle.relay_http.proofs.Unique.{shown}

-- the chunks that pass a limit begin with a size line
pub long_begins : (limit : ℕ) (before s : List ℕ) → IsLongChunked limit before s → Begins IsLine s
long_begins limit before s b = first b.chunks b.each b.split
  where
    line_of : (l : ChunkLine) (rest : List ℕ) → FitsLine l → s ≡ print_chunk_line l ++ rest → Begins IsLine s
    line_of l rest fits e = record { front = print_chunk_line l; ends = false; value = record { size = chunk_size l }; rest = rest; message = record { line = l; fits = fits; bytes_are = refl; size_is = refl }; split = e; last = λ x. absurd (false≢true x) }

    regroup : (a d c f z : List ℕ) → ((a ++ (d ++ c)) ++ f) ++ z ≡ a ++ ((d ++ (c ++ (f ++ z))))
    regroup a d c f z = simp (append_assoc)

    first : (chunks : List Chunk) → AllByRecursion IsChunk chunks → s ≡ flat_map print_chunk chunks ++ (print_chunk_line b.line ++ b.rest) → Begins IsLine s
    first [] d e = line_of b.line b.rest b.fits e
    first (k ∷ ks) d e = line_of k.line (k.content ++ (crlf_bytes ++ (flat_map print_chunk ks ++ (print_chunk_line b.line ++ b.rest)))) d.0.fits (e ∙ regroup (print_chunk_line k.line) k.content crlf_bytes (flat_map print_chunk ks) (print_chunk_line b.line ++ b.rest))

-- what follows a size line that does not exceed the limit: a chunk, and then chunks that pass it
pub record AfterLine (limit : ℕ) (before s : List ℕ) (n : ℕ) : Type 0 where
  pub content : List ℕ
  pub rest : List ℕ
  pub size_is : length content ≡ n
  pub some : 0 < n
  pub split : s ≡ content ++ (crlf_bytes ++ rest)
  pub long : IsLongChunked limit (before ++ content) rest

pub after_line : (limit : ℕ) (before t s : List ℕ) (e : Bool) (n : ℕ) → IsSizeLine t e n → length before + n ≤ limit → IsLongChunked limit before (t ++ s) → AfterLine limit before s n
after_line limit before t s e n m within b = first b.chunks b.each b.split b.past
  where
    regroup : (a d c f z : List ℕ) → ((a ++ (d ++ c)) ++ f) ++ z ≡ a ++ ((d ++ (c ++ (f ++ z))))
    regroup a d c f z = simp (append_assoc)

    first : (chunks : List Chunk) → AllByRecursion IsChunk chunks → t ++ s ≡ flat_map print_chunk chunks ++ (print_chunk_line b.line ++ b.rest) → limit < length before + length (flat_map (λ c. c.content) chunks) + chunk_size b.line → AfterLine limit before s n
    first [] d e past =
        let same = first_line t s m.line b.line b.rest m.fits b.fits m.bytes_are e in
        let size : n ≡ chunk_size b.line = m.size_is ∙ ap chunk_size same.0 in
        absurd (omega (arith, size, past, within))
    first (k ∷ ks) d e past =
        let more = flat_map print_chunk ks ++ (print_chunk_line b.line ++ b.rest) in
        let same = first_line t s m.line k.line (k.content ++ (crlf_bytes ++ more)) m.fits d.0.fits m.bytes_are (e ∙ regroup (print_chunk_line k.line) k.content crlf_bytes (flat_map print_chunk ks) (print_chunk_line b.line ++ b.rest)) in
        let size : length k.content ≡ n = sym d.0.size_is ∙ ap chunk_size (sym same.0) ∙ sym m.size_is in
        let some = d.0.some in
        let parts = length-append k.content (flat_map (λ (c : Chunk). c.content) ks) in
        let front = length-append before k.content in
        record {
          content = k.content;
          rest = more;
          size_is = size;
          some = omega (arith, some, size);
          split = same.1;
          long = record { chunks = ks; each = d.1; line = b.line; fits = b.fits; past = omega (arith, past, parts, front); rest = b.rest; split = refl };
        }

-- what a front that was taken leaves of a stream that is known
pub left_of : (x : List ℕ) (mid old : Option (List ℕ)) (s : List ℕ) → old ≡ prepend_known x mid → old ≡ Some s → (r : List ℕ) × (mid ≡ Some r) × (s ≡ x ++ r)
left_of x mid old s e f = shown x mid s (sym e ∙ f)

-- a size line was taken, and what it leaves
pub line_taken : (limit : ℕ) (before s : List ℕ) (old mid : Option (List ℕ)) (size : ℕ) → IsLongChunked limit before s → old ≡ Some s → (t : Took IsLine old mid (record { size = size })) → length before + size ≤ limit
    → (r : List ℕ) × (mid ≡ Some r) × AfterLine limit before r size
line_taken limit before s old mid size b e t within =
    let r = left_of t.front mid old s t.split e in
    (r.0, r.1, after_line limit before t.front r.0 t.ends size t.message within (subst (IsLongChunked limit before) r.2 b))

-- a chunk was taken, and what it leaves
pub chunk_taken : (limit : ℕ) (before after r : List ℕ) (mid new : Option (List ℕ)) (n : ℕ) → AfterLine limit before r n → mid ≡ Some r → TookChunk n mid new before after → (q : List ℕ) × IsLongChunked limit after q × (new ≡ Some q)
chunk_taken limit before after r mid new n a e d =
    let q = left_of (d.piece ++ crlf_bytes) new mid r d.split e in
    let whole : r ≡ d.piece ++ (crlf_bytes ++ q.0) = q.2 ∙ append_assoc d.piece crlf_bytes q.0 in
    let first = same_front r a.content d.piece (crlf_bytes ++ a.rest) (crlf_bytes ++ q.0) a.split whole (a.size_is ∙ sym d.length_is) in
    let second = same_front (crlf_bytes ++ a.rest) crlf_bytes crlf_bytes a.rest q.0 refl first.1 refl in
    let content : before ++ a.content ≡ after = ap (λ w. before ++ w) first.0 ∙ sym d.appended in
    (q.0, subst (λ w. IsLongChunked limit w q.0) content (subst (IsLongChunked limit (before ++ a.content)) second.1 a.long), q.1)

-- what ended within the limit did not pass it
pub not_long : (limit most : ℕ) (body after s : List ℕ) (old mid new left : Option (List ℕ)) → old ≡ prepend_known body mid → Moved mid new left body after most 0 → length body ≤ limit → old ≡ Some s → IsLongRest limit s → ⊥
not_long limit most body after s old mid new left e m short f long =
    let r = left_of body mid old s e f in
    let end = m.end refl in
    let still : mid ≡ left = m.split ∙ ap (λ b. prepend_known b new) (no_bytes m.bytes m.length_is) ∙ prepend_known-nil new ∙ end.0 in
    let none : r.0 ≡ [] = subst IsAtEnd (sym still ∙ r.1) end.1 in
    let same : length s ≡ length (body ++ r.0) = ap length r.2 in
    let parts = length-append body r.0 in
    let zero : length r.0 ≡ 0 = ap length none in
    omega (arith, same, parts, zero, short, long)

-- the content of a chunk and CRLF are there
pub content_there : (size : ℕ) (s : List ℕ) → IsChunkThere size s → Begins (IsSized size) s
content_there size s t = record { front = t.content; ends = false; value = t.content; rest = crlf_bytes ++ t.rest; message = record { length_is = t.size_is; same = refl }; split = t.split; last = λ x. absurd (false≢true x) }

pub crlf_there : {A : Type 0} (a : A) (size : ℕ) (s piece r : List ℕ) → IsChunkThere size s → length piece ≡ size → s ≡ piece ++ r → Begins (IsCrlf {A = A}) r
crlf_there a size s piece r t l e =
    let same = same_front s t.content piece (crlf_bytes ++ t.rest) r t.split e (t.size_is ∙ sym l) in
    record { front = crlf_bytes; ends = false; value = a; rest = t.rest; message = refl; split = sym same.1; last = λ x. absurd (false≢true x) }

pub chunk_there : (limit : ℕ) (before r : List ℕ) (n : ℕ) → AfterLine limit before r n → IsChunkThere n r
chunk_there limit before r n a = record { content = a.content; rest = a.rest; size_is = a.size_is; split = a.split }
