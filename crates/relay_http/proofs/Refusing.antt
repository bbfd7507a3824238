-- Which fault is returned, and what is in the stream then.
use Rattle.std.proofs.Common.{◌≡◌, ◌≢◌, cond, ℕ, ◌+◌, ◌<◌, ◌≤◌, min, Bool, true, false, List, [], ◌∷◌, ◌++◌, length, take, drop, flat_map, refl, ap, ◌∙◌, sym, subst, arith, inl, inr, append_assoc, append-nil, length-append, Option, Some, Result, Ok, Err}
use Rattle.std.proofs.lemmas.Grind.{flat_map-append}
use Rattle.std.proofs.lemmas.List.{take_at, take-append-drop, take-append-le}
use Rattle.std.specs.List.{AllByRecursion, list_all}
use Rattle.std.specs.Prelude.{IfErr, codes, nat_le, not, ◌&&◌, ◌||◌}
use Rattle.std.specs.Io.KnownBytes.{IsAtEnd, prepend_known}
use Rattle.httparse.specs.Ascii.{crlf_bytes}
use Rattle.httparse.specs.Grammar.{ResponseHead, print_response, NeverHasResponse, NeverHasRequest, NeverHasChunkLine, NeverHasSection, chunk_size}
use Rattle.std.specs.Prelude.{if◌then◌else◌}
use Rattle.httparse.specs.Spans.{ResponseExceeds, RequestExceeds, SectionExceeds}
use Rattle.relay_action.specs.Streams.{one_more}
use Rattle.relay_http.specs.Connection.{is_read}
use Rattle.relay_http.specs.Body.{IsLongRest}
use Rattle.relay_http.specs.ChunkedBody.{Chunk, IsChunk, print_chunk, IsLongChunked}
use Rattle.relay_http.specs.Forms.{Form, Begins, Took, IsThatOrOutside}
use Rattle.relay_http.specs.Fields.{Header, agrees, elements_named, has_field, number, values_named}
use Rattle.relay_http.specs.Framing.{framing_of_fields, is_chunked, is_interim, is_plain, reply_limit, request_limit, framing_by_length}
use Rattle.relay_http.specs.Refusals.{OverrunsHead, OverrunsRequestHead, OverrunsTrailer, OverrunsLine, OverrunsNever, NeverHasCrlf, PieceFault, AfterChunks, AfterSizeLine, HasNoChunkEnd, BreaksAfterLine, OverrunsAfterLine, BreaksChunk, OverrunsChunk, BodyFault, AfterInterim, ReplyFault, RequestFault}
use Rattle.relay_http.specs.Reply.{IsHead, IsHeads, IsInterim, ReplyStates}
use Rattle.relay_http.specs.Request.{IsRequestInfo, RequestStates, request_headers}
use Rattle.relay_http.specs.Steps.{IsLine, TookData, TookChunk}
use Rattle.relay_http.specs.declared.chunk.SizeLine.{SizeLine}
use Rattle.relay_http.specs.declared.fault.HttpFault.{HttpFault}
use Rattle.relay_http.specs.declared.fault.HttpFault.TheVariants as fault
use Rattle.relay_http.specs.declared.framing.Framing.{Framing}
use Rattle.relay_http.specs.declared.framing.Framing.TheVariants as framing
use Rattle.relay_http.specs.declared.head.HeadInfo.{HeadInfo}
use Rattle.relay_http.specs.declared.request_head.RequestInfo.{RequestInfo}
use Rattle.relay_http.proofs.Leading.{IsStated}
use Rattle.relay_http.proofs.Passing.{stood_behind}
use Rattle.relay_http.proofs.Stands.{prepend_known-nil}
use Rattle.relay_http.proofs.Unique.{shown}

-- ---- what a window shows of the stream

-- what is never there with more bytes is never there with more still
pub never_more : (Q : List ℕ → Type 0) (buf : List ℕ) → ((more : List ℕ) → Q (buf ++ more)) → (more next : List ℕ) → Q ((buf ++ more) ++ next)
never_more Q buf h more next = subst Q (sym (append_assoc buf more next)) (h (more ++ next))

-- this many bytes stay in front
pub full_front : (Q : List ℕ → Type 0) (limit : ℕ) (buf more : List ℕ) → length buf ≡ limit → Q buf → (limit ≤ length (buf ++ more)) × Q (take limit (buf ++ more))
full_front Q limit buf more e h =
    let total = length-append buf more in
    (omega (arith, e, total), subst Q (sym (take_at buf more limit e)) h)

-- the same if the front of the window is looked at
pub short_front : (Q : List ℕ → Type 0) (limit n : ℕ) (buf more : List ℕ) → n ≡ min (length buf) limit → limit ≤ length buf → Q (take n buf) → (limit ≤ length (buf ++ more)) × Q (take limit (buf ++ more))
short_front Q limit n buf more e long h =
    let total = length-append buf more in
    let m : n ≡ limit = omega (arith, e, long) in
    (omega (arith, total, long), subst Q (ap (λ k. take k buf) m ∙ sym (take-append-le limit buf more long)) h)

-- more fields than a piece may have stay there
pub more_response : (n room : ℕ) (buf more : List ℕ) → n ≡ room → ResponseExceeds n buf → ResponseExceeds room (buf ++ more)
more_response n room buf more e x = subst (λ k. ResponseExceeds k (buf ++ more)) e (x.0, x.1 ++ more, ap (λ w. w ++ more) x.2 ∙ append_assoc x.0 x.1 more, x.3, x.4, x.5)

pub more_request : (n room : ℕ) (buf more : List ℕ) → n ≡ room → RequestExceeds n buf → RequestExceeds room (buf ++ more)
more_request n room buf more e x = subst (λ k. RequestExceeds k (buf ++ more)) e (x.0, x.1 ++ more, ap (λ w. w ++ more) x.2 ∙ append_assoc x.0 x.1 more, x.3, x.4, x.5)

pub more_section : (n room : ℕ) (buf more : List ℕ) → n ≡ room → SectionExceeds n buf → SectionExceeds room (buf ++ more)
more_section n room buf more e x = subst (λ k. SectionExceeds k (buf ++ more)) e (x.0, x.1 ++ more, ap (λ w. w ++ more) x.2 ∙ append_assoc x.0 x.1 more, x.3, x.4, x.5)

pub never_front : (Q : List ℕ → Type 0) (n : ℕ) (buf : List ℕ) → ((more : List ℕ) → Q (take n buf ++ more)) → (more next : List ℕ) → Q ((buf ++ more) ++ next)
never_front Q n buf h more next =
    let whole : take n buf ++ (drop n buf ++ (more ++ next)) ≡ (buf ++ more) ++ next =
    sym (append_assoc (take n buf) (drop n buf) (more ++ next)) ∙ ap (λ w. w ++ (more ++ next)) (take-append-drop n buf) ∙ sym (append_assoc buf more next) in
    subst Q whole (h (drop n buf ++ (more ++ next)))

-- a fault of the window is one of the stream
pub window_fault : (breaks overruns : List ℕ → Type 0) (window : List ℕ) (total left : Option (List ℕ)) (f : HttpFault) → total ≡ prepend_known window left
    → ((more : List ℕ) → PieceFault breaks overruns (window ++ more) f) → (stream : List ℕ) → total ≡ Some stream → PieceFault breaks overruns stream f
window_fault breaks overruns window total left f stands why stream e =
    let r = shown window left stream (sym stands ∙ e) in
    subst (λ (s : List ℕ). PieceFault breaks overruns s f) (sym r.2) (why r.0)

-- a fault of one piece as that of another
pub fault_as : (b o c p : List ℕ → Type 0) (s t : List ℕ) (f : HttpFault) → (b s → c t) → (o s → p t) → PieceFault b o s f → PieceFault c p t f
fault_as b o c p s t fault.Malformed x y h = x h
fault_as b o c p s t fault.HeadLong x y h = y h
fault_as b o c p s t fault.BodyLong x y h = h
fault_as b o c p s t fault.CodedBody x y h = h
fault_as b o c p s t fault.BothLengths x y h = h
fault_as b o c p s t fault.Ended x y h = h
fault_as b o c p s t fault.Read x y h = h
fault_as b o c p s t fault.Write x y h = h
fault_as b o c p s t fault.TooManyInterim x y h = h
fault_as b o c p s t fault.Memory x y h = h
fault_as b o c p s t fault.Broken x y h = h

-- the stream ended, or a call outside failed
pub cut_piece : (b o : List ℕ → Type 0) (s : List ℕ) (f : HttpFault) → IsThatOrOutside fault.Ended f → PieceFault b o s f
cut_piece b o s f (inl e) = subst (PieceFault b o s) (sym e) tt
cut_piece b o s f (inr (inl e)) = subst (PieceFault b o s) (sym e) tt
cut_piece b o s f (inr (inr e)) = subst (PieceFault b o s) (sym e) tt

pub cut_body : (limit : ℕ) (g : Framing) (s : List ℕ) (f : HttpFault) → IsThatOrOutside fault.Ended f → BodyFault limit g s f
cut_body limit g s f (inl e) = subst (BodyFault limit g s) (sym e) tt
cut_body limit g s f (inr (inl e)) = subst (BodyFault limit g s) (sym e) tt
cut_body limit g s f (inr (inr e)) = subst (BodyFault limit g s) (sym e) tt

pub cut_result : {A : Type 0} (limit : ℕ) (g : Framing) (s : List ℕ) (r : Result A HttpFault) → IfErr r (IsThatOrOutside fault.Ended) → IfErr r (BodyFault limit g s)
cut_result limit g s (Ok a) h = tt
cut_result limit g s (Err f) h = cut_body limit g s f h

-- the message that was taken begins the stream
pub begun : {A : Type 0} (M : Form A) (old new : Option (List ℕ)) (a : A) (t : Took M old new a) (s : List ℕ) → old ≡ Some s → (r : List ℕ) × (new ≡ Some r) × (b : Begins M s) × (b.value ≡ a) × (b.rest ≡ r)
begun M old new a t s e =
    let r = shown t.front new s (sym t.split ∙ e) in
    (r.0, r.1, record { front = t.front; ends = t.ends; value = a; rest = r.0; message = t.message; split = r.2; last = λ x. subst IsAtEnd r.1 (t.last x) }, refl, refl)

all_and_one : {A : Type 0} (P : A → Type 0) (xs : List A) (x : A) → AllByRecursion P xs → P x → AllByRecursion P (xs ++ (x ∷ []))
all_and_one P [] x h p = (p, tt)
all_and_one P (y ∷ ys) x h p = (h.0, all_and_one P ys x h.1 p)

length_and_one : {A : Type 0} (xs : List A) (x : A) → length (xs ++ (x ∷ [])) ≡ length xs + 1
length_and_one xs x = length-append xs (x ∷ [])

-- ---- heads of replies

-- this many interim heads were passed
pub record IsBehindInterim (old now : Option (List ℕ)) (passed : ℕ) : Type 0 where
  pub interim : List ResponseHead
  pub count : length interim ≡ passed
  pub dropped : AllByRecursion IsInterim interim
  pub split : old ≡ prepend_known (flat_map print_response interim) now

pub none_passed : (old : Option (List ℕ)) → IsBehindInterim old old 0
none_passed old = record { interim = []; count = refl; dropped = tt; split = sym (prepend_known-nil old) }

pub one_passed : (old mid new : Option (List ℕ)) (passed : ℕ) (info : HeadInfo) → IsBehindInterim old mid passed → Took IsHead mid new info → is_interim info.status ≡ true → IsBehindInterim old new (passed + 1)
one_passed old mid new passed info b t i =
    let h = t.message.head in
    let is : IsInterim h = record { fits = t.message.fits; status = subst (λ (k : HeadInfo). is_interim k.status ≡ true) t.message.info_is i } in
    let bytes : flat_map print_response b.interim ++ t.front ≡ flat_map print_response (b.interim ++ (h ∷ [])) =
    ap (λ w. flat_map print_response b.interim ++ w) (t.message.bytes_are ∙ sym (append-nil (print_response h))) ∙ sym (flat_map-append print_response b.interim (h ∷ [])) in
    record {
      interim = b.interim ++ (h ∷ []);
      count = length_and_one b.interim h ∙ ap (λ n. n + 1) b.count;
      dropped = all_and_one IsInterim b.interim h b.dropped is;
      split = stood_behind (flat_map print_response b.interim) t.front old mid new b.split t.split ∙ ap (λ w. prepend_known w new) bytes;
    }

after_interim : (P : List ℕ → Type 0) (old mid : Option (List ℕ)) (passed : ℕ) (b : IsBehindInterim old mid passed) → passed ≤ 8 → (s r : List ℕ) → s ≡ flat_map print_response b.interim ++ r → P r → AfterInterim P s
after_interim P old mid passed b few s r e h =
    let count = b.count in
    record { interim = b.interim; few = omega (arith, count, few); dropped = b.dropped; rest = r; there = h; split = e }

pub head_refused : (old mid : Option (List ℕ)) (passed : ℕ) (f : HttpFault) → IsBehindInterim old mid passed → passed ≤ 8
    → ((r : List ℕ) → mid ≡ Some r → PieceFault NeverHasResponse OverrunsHead r f)
    → (s : List ℕ) → old ≡ Some s → PieceFault (AfterInterim NeverHasResponse) (AfterInterim OverrunsHead) s f
head_refused old mid passed f b few why s e =
    let r = shown (flat_map print_response b.interim) mid s (sym b.split ∙ e) in
    fault_as NeverHasResponse OverrunsHead (AfterInterim NeverHasResponse) (AfterInterim OverrunsHead) r.0 s f
    (after_interim NeverHasResponse old mid passed b few s r.0 r.2) (after_interim OverrunsHead old mid passed b few s r.0 r.2) (why r.0 r.1)

-- ---- chunked bodies

-- these chunks were passed, and this is their content
pub record IsBehindChunks (old now : Option (List ℕ)) (body : List ℕ) : Type 0 where
  pub chunks : List Chunk
  pub each : AllByRecursion IsChunk chunks
  pub content : body ≡ flat_map (λ c. c.content) chunks
  pub split : old ≡ prepend_known (flat_map print_chunk chunks) now

pub no_chunk_passed : (old : Option (List ℕ)) → IsBehindChunks old old []
no_chunk_passed old = record { chunks = []; each = tt; content = refl; split = sym (prepend_known-nil old) }

pub chunk_passed : (old one two new : Option (List ℕ)) (body after : List ℕ) (line : SizeLine) → IsBehindChunks old one body → (t : Took IsLine one two line) → 0 < line.size → (d : TookChunk line.size two new body after) → IsBehindChunks old new after
chunk_passed old one two new body after line b t some d =
    let size = d.length_is in
    let k : Chunk = record { line = t.message.line; content = d.piece } in
    let is : IsChunk k = record { fits = t.message.fits; size_is = sym t.message.size_is ∙ sym d.length_is; some = omega (arith, some, size) } in
    let all = flat_map print_chunk b.chunks in
    let bytes : (all ++ t.front) ++ (d.piece ++ crlf_bytes) ≡ flat_map print_chunk (b.chunks ++ (k ∷ [])) =
    append_assoc all t.front (d.piece ++ crlf_bytes) ∙ ap (λ w. all ++ (w ++ (d.piece ++ crlf_bytes))) t.message.bytes_are
    ∙ ap (λ w. all ++ w) (sym (append-nil (print_chunk k))) ∙ sym (flat_map-append print_chunk b.chunks (k ∷ [])) in
    record {
      chunks = b.chunks ++ (k ∷ []);
      each = all_and_one IsChunk b.chunks k b.each is;
      content = d.appended ∙ ap (λ w. w ++ d.piece) b.content ∙ ap (λ w. flat_map (λ (c : Chunk). c.content) b.chunks ++ w) (sym (append-nil d.piece)) ∙ sym (flat_map-append (λ (c : Chunk). c.content) b.chunks (k ∷ []));
      split = stood_behind (all ++ t.front) (d.piece ++ crlf_bytes) old two new (stood_behind all t.front old one two b.split t.split) d.split ∙ ap (λ w. prepend_known w new) bytes;
    }

-- a fault after the chunks so far
pub line_refused : (limit : ℕ) (old one : Option (List ℕ)) (body : List ℕ) (f : HttpFault) → IsBehindChunks old one body
    → ((r : List ℕ) → one ≡ Some r → PieceFault BreaksChunk OverrunsChunk r f) → (s : List ℕ) → old ≡ Some s → BodyFault limit framing.Chunked s f
line_refused limit old one body f b why s e =
    let r = shown (flat_map print_chunk b.chunks) one s (sym b.split ∙ e) in
    as_body f (λ h. record { chunks = b.chunks; each = b.each; rest = r.0; there = h; split = r.2 }) (λ h. record { chunks = b.chunks; each = b.each; rest = r.0; there = h; split = r.2 }) (why r.0 r.1)
  where
    as_body : {r : List ℕ} (f : HttpFault) → (BreaksChunk r → AfterChunks BreaksChunk s) → (OverrunsChunk r → AfterChunks OverrunsChunk s) → PieceFault BreaksChunk OverrunsChunk r f → BodyFault limit framing.Chunked s f
    as_body fault.Malformed x y h = x h
    as_body fault.HeadLong x y h = y h
    as_body fault.BodyLong x y h = absurd h
    as_body fault.CodedBody x y h = h
    as_body fault.BothLengths x y h = h
    as_body fault.Ended x y h = h
    as_body fault.Read x y h = h
    as_body fault.Write x y h = h
    as_body fault.TooManyInterim x y h = h
    as_body fault.Memory x y h = h
    as_body fault.Broken x y h = h

-- of the size line itself
pub size_refused : (r : List ℕ) (f : HttpFault) → PieceFault NeverHasChunkLine OverrunsLine r f → PieceFault BreaksChunk OverrunsChunk r f
size_refused r f h = fault_as NeverHasChunkLine OverrunsLine BreaksChunk OverrunsChunk r r f inl inl h

after_size : (P : ℕ → List ℕ → Type 0) (one two : Option (List ℕ)) (line : SizeLine) (t : Took IsLine one two line) (r q : List ℕ) → r ≡ t.front ++ q → P line.size q → AfterSizeLine P r
after_size P one two line t r q e h =
    record { line = t.message.line; fits = t.message.fits; rest = q; there = subst (λ n. P n q) t.message.size_is h; split = e ∙ ap (λ w. w ++ q) t.message.bytes_are }

-- of the trailer after a line of size 0
pub trailer_refused : (one two : Option (List ℕ)) (line : SizeLine) (f : HttpFault) → Took IsLine one two line → line.size ≡ 0
    → ((q : List ℕ) → two ≡ Some q → PieceFault NeverHasSection OverrunsTrailer q f) → (r : List ℕ) → one ≡ Some r → PieceFault BreaksChunk OverrunsChunk r f
trailer_refused one two line f t none why r e =
    let q = shown t.front two r (sym t.split ∙ e) in
    fault_as NeverHasSection OverrunsTrailer BreaksChunk OverrunsChunk q.0 r f
    (λ h. inr (after_size BreaksAfterLine one two line t r q.0 q.2 (inl (none, h)))) (λ h. inr (after_size OverrunsAfterLine one two line t r q.0 q.2 (none, h))) (why q.0 q.1)

-- of the content after a line of another size
pub content_refused : (one two : Option (List ℕ)) (line : SizeLine) (f : HttpFault) → Took IsLine one two line → 0 < line.size
    → ((q : List ℕ) → two ≡ Some q → PieceFault (HasNoChunkEnd line.size) OverrunsNever q f) → (r : List ℕ) → one ≡ Some r → PieceFault BreaksChunk OverrunsChunk r f
content_refused one two line f t some why r e =
    let q = shown t.front two r (sym t.split ∙ e) in
    fault_as (HasNoChunkEnd line.size) OverrunsNever BreaksChunk OverrunsChunk q.0 r f
    (λ h. inr (after_size BreaksAfterLine one two line t r q.0 q.2 (inr (some, h)))) (λ h. absurd h) (why q.0 q.1)

-- no CRLF follows the content
pub end_refused : (size : ℕ) (two three : Option (List ℕ)) (before after : List ℕ) (f : HttpFault) → TookData size two three before after
    → ((q : List ℕ) → three ≡ Some q → PieceFault NeverHasCrlf OverrunsNever q f) → (r : List ℕ) → two ≡ Some r → PieceFault (HasNoChunkEnd size) OverrunsNever r f
end_refused size two three before after f d why r e =
    let q = shown d.piece three r (sym d.split ∙ e) in
    fault_as NeverHasCrlf OverrunsNever (HasNoChunkEnd size) OverrunsNever q.0 r f
    (λ h. record { content = d.piece; rest = q.0; size_is = d.length_is; none = h; split = q.2 }) (λ h. h) (why q.0 q.1)

-- the content passes the limit with this line
pub limit_passed : (limit : ℕ) (old one two : Option (List ℕ)) (body : List ℕ) (line : SizeLine) → IsBehindChunks old one body → Took IsLine one two line → limit < length body + line.size → (s : List ℕ) → old ≡ Some s → IsLongChunked limit [] s
limit_passed limit old one two body line b t past s e =
    let r = shown (flat_map print_chunk b.chunks) one s (sym b.split ∙ e) in
    let q = shown t.front two r.0 (sym t.split ∙ r.1) in
    let size : line.size ≡ chunk_size t.message.line = t.message.size_is in
    let total : length body ≡ length (flat_map (λ (c : Chunk). c.content) b.chunks) = ap length b.content in
    record {
      chunks = b.chunks;
      each = b.each;
      line = t.message.line;
      fits = t.message.fits;
      past = omega (arith, size, total, past);
      rest = q.0;
      split = r.2 ∙ ap (λ w. flat_map print_chunk b.chunks ++ w) (q.2 ∙ ap (λ w. w ++ q.0) t.message.bytes_are);
    }

-- more came than a body to the end of the stream may have
pub rest_passed : (limit : ℕ) (body : List ℕ) (old new : Option (List ℕ)) → old ≡ prepend_known body new → limit < length body → (s : List ℕ) → old ≡ Some s → IsLongRest limit s
rest_passed limit body old new e past s stands =
    let r = shown body new s (sym e ∙ stands) in
    let total : length s ≡ length body + length r.0 = ap length r.2 ∙ length-append body r.0 in
    omega (arith, total, past)

-- ---- replies

pub heads_refused : (s : List ℕ) (f : HttpFault) → PieceFault (AfterInterim NeverHasResponse) (AfterInterim OverrunsHead) s f → ReplyFault s f
heads_refused s fault.Malformed h = inr (inl h)
heads_refused s fault.HeadLong h = inl h
heads_refused s fault.BodyLong h = absurd h
heads_refused s fault.CodedBody h = absurd h
heads_refused s fault.BothLengths h = absurd h
heads_refused s fault.Ended h = h
heads_refused s fault.Read h = h
heads_refused s fault.Write h = h
heads_refused s fault.TooManyInterim h = absurd h
heads_refused s fault.Memory h = h
heads_refused s fault.Broken h = h

states_fault : (s : List ℕ) (f : HttpFault) → IsStated f → ReplyStates s f → ReplyFault s f
states_fault s f (inl e) h = subst (ReplyFault s) (sym e) (inl (subst (ReplyStates s) e h))
states_fault s f (inr (inl e)) h = subst (ReplyFault s) (sym e) (inl (subst (ReplyStates s) e h))
states_fault s f (inr (inr (inl e))) h = subst (ReplyFault s) (sym e) (subst (ReplyStates s) e h)
states_fault s f (inr (inr (inr (inl e)))) h = subst (ReplyFault s) (sym e) (subst (ReplyStates s) e h)
states_fault s f (inr (inr (inr (inr e)))) h = subst (ReplyFault s) (sym e) (subst (ReplyStates s) e h)

-- what a head states is not a failed read
pub no_read : (A : Type 0) (f : HttpFault) → IsStated f → is_read {A = A} (Err f) ≡ false
no_read A f (inl e) = ap (λ (x : HttpFault). is_read {A = A} (Err x)) e
no_read A f (inr (inl e)) = ap (λ (x : HttpFault). is_read {A = A} (Err x)) e
no_read A f (inr (inr (inl e))) = ap (λ (x : HttpFault). is_read {A = A} (Err x)) e
no_read A f (inr (inr (inr (inl e)))) = ap (λ (x : HttpFault). is_read {A = A} (Err x)) e
no_read A f (inr (inr (inr (inr e)))) = ap (λ (x : HttpFault). is_read {A = A} (Err x)) e

pub none_failed : (A : Type 0) (f : HttpFault) (old new : ℕ) → IsStated f → new ≡ old → new ≡ (if is_read {A = A} (Err f) then one_more old else old)
none_failed A f old new stated e = e ∙ sym (ap (λ b. if b then one_more old else old) (no_read A f stated))

pub heads_state : (old new : Option (List ℕ)) (info : HeadInfo) (f : HttpFault) → Took IsHeads old new info → info.framing ≡ Err f → IsStated f → (s : List ℕ) → old ≡ Some s → ReplyFault s f
heads_state old new info f t is stated s e =
    let b = begun IsHeads old new info t s e in
    states_fault s f stated (record { heads = b.2; fault_is = ap (λ (i : HeadInfo). i.framing) b.3 ∙ is })

-- what a fault of the body is of the reply
pub reply_body_refused : (old new : Option (List ℕ)) (info : HeadInfo) (g : Framing) (f : HttpFault) → Took IsHeads old new info → info.framing ≡ Ok g
    → ((r : List ℕ) → new ≡ Some r → BodyFault reply_limit g r f) → (s : List ℕ) → old ≡ Some s → ReplyFault s f
reply_body_refused old new info g f t is why s e =
    let b = begun IsHeads old new info t s e in
    let framed = ap (λ (i : HeadInfo). i.framing) b.3 ∙ is in
    as_reply b.2 framed f (subst (λ (r : List ℕ). BodyFault reply_limit g r f) (sym b.4) (why b.0 b.1))
  where
    as_reply : (b : Begins IsHeads s) → b.value.framing ≡ Ok g → (f : HttpFault) → BodyFault reply_limit g b.rest f → ReplyFault s f
    as_reply b k fault.Malformed h = inr (inr (record { heads = b; framing = g; framed = k; there = h }))
    as_reply b k fault.HeadLong h = inr (record { heads = b; framing = g; framed = k; there = h })
    as_reply b k fault.BodyLong h = inr (record { heads = b; framing = g; framed = k; long = h })
    as_reply b k fault.CodedBody h = absurd h
    as_reply b k fault.BothLengths h = absurd h
    as_reply b k fault.Ended h = h
    as_reply b k fault.Read h = h
    as_reply b k fault.Write h = h
    as_reply b k fault.TooManyInterim h = absurd h
    as_reply b k fault.Memory h = h
    as_reply b k fault.Broken h = h

-- ---- requests

pub request_head_refused : (s : List ℕ) (f : HttpFault) → PieceFault NeverHasRequest OverrunsRequestHead s f → RequestFault s f
request_head_refused s fault.Malformed h = inr (inl h)
request_head_refused s fault.HeadLong h = inl h
request_head_refused s fault.BodyLong h = absurd h
request_head_refused s fault.CodedBody h = absurd h
request_head_refused s fault.BothLengths h = absurd h
request_head_refused s fault.Ended h = h
request_head_refused s fault.Read h = h
request_head_refused s fault.Write h = h
request_head_refused s fault.TooManyInterim h = h
request_head_refused s fault.Memory h = h
request_head_refused s fault.Broken h = h

-- the fields of a head state no interim head
no_interim_chosen : (a b c : Bool) (r : Result Framing HttpFault) → (r ≡ Err fault.TooManyInterim → ⊥) → cond a (Err fault.BothLengths) (cond b (Err fault.CodedBody) (cond c (Ok framing.Chunked) r)) ≡ Err fault.TooManyInterim → ⊥
no_interim_chosen true b c r out h = cc
no_interim_chosen false true c r out h = cc
no_interim_chosen false false true r out h = cc
no_interim_chosen false false false r out h = out h

no_interim_length : (a b : Bool) (g : Framing) → cond a (cond b (Ok g) (Err fault.BodyLong)) (Err fault.Malformed) ≡ Err fault.TooManyInterim → ⊥
no_interim_length true true g h = cc
no_interim_length true false g h = cc
no_interim_length false b g h = cc

no_interim_sized : (limit : ℕ) (o : Framing) (es : List (List ℕ)) → framing_by_length limit o es ≡ Err fault.TooManyInterim → ⊥
no_interim_sized limit o [] h = cc
no_interim_sized limit o (e ∷ es) h = no_interim_length (list_all (agrees e) (e ∷ es)) (nat_le (number e) limit) (framing.Sized (number e)) h

no_interim_fields : (limit : ℕ) (o : Framing) (fields : List Header) → framing_of_fields limit o fields ≡ Err fault.TooManyInterim → ⊥
no_interim_fields limit o fields h =
    let codings = values_named (codes "transfer-encoding") fields in
    let lengths = elements_named (codes "content-length") fields in
    let coded = has_field (codes "transfer-encoding") fields in
    no_interim_chosen (coded && has_field (codes "content-length") fields) ((coded && not (is_chunked codings)) || not (list_all is_plain (values_named (codes "content-encoding") fields))) coded
    (framing_by_length limit o lengths) (no_interim_sized limit o lengths) h

request_states_no_interim : (t : List ℕ) (e : Bool) (info : RequestInfo) → IsRequestInfo t e info → (f : HttpFault) → info.framing ≡ Err f → f ≢ fault.TooManyInterim
request_states_no_interim t e info m f is same =
    no_interim_fields request_limit framing.Absent (request_headers m.head) (sym (ap (λ (k : RequestInfo). k.framing) m.info_is) ∙ is ∙ ap Err same)

request_states_fault : (s : List ℕ) (f : HttpFault) → IsStated f → f ≢ fault.TooManyInterim → RequestStates s f → RequestFault s f
request_states_fault s f (inl e) other h = subst (RequestFault s) (sym e) (inl (subst (RequestStates s) e h))
request_states_fault s f (inr (inl e)) other h = subst (RequestFault s) (sym e) (inl (subst (RequestStates s) e h))
request_states_fault s f (inr (inr (inl e))) other h = subst (RequestFault s) (sym e) (subst (RequestStates s) e h)
request_states_fault s f (inr (inr (inr (inl e)))) other h = subst (RequestFault s) (sym e) (subst (RequestStates s) e h)
request_states_fault s f (inr (inr (inr (inr e)))) other h = absurd (other e)

pub request_head_states : (old new : Option (List ℕ)) (info : RequestInfo) (f : HttpFault) → Took IsRequestInfo old new info → info.framing ≡ Err f → IsStated f → (s : List ℕ) → old ≡ Some s → RequestFault s f
request_head_states old new info f t is stated s e =
    let other = request_states_no_interim t.front t.ends info t.message f is in
    let b = begun IsRequestInfo old new info t s e in
    request_states_fault s f stated other (record { head = b.2; fault_is = ap (λ (i : RequestInfo). i.framing) b.3 ∙ is })

pub request_body_refused : (old new : Option (List ℕ)) (info : RequestInfo) (g : Framing) (f : HttpFault) → Took IsRequestInfo old new info → info.framing ≡ Ok g
    → ((r : List ℕ) → new ≡ Some r → BodyFault request_limit g r f) → (s : List ℕ) → old ≡ Some s → RequestFault s f
request_body_refused old new info g f t is why s e =
    let b = begun IsRequestInfo old new info t s e in
    let framed = ap (λ (i : RequestInfo). i.framing) b.3 ∙ is in
    as_request b.2 framed f (subst (λ (r : List ℕ). BodyFault request_limit g r f) (sym b.4) (why b.0 b.1))
  where
    as_request : (b : Begins IsRequestInfo s) → b.value.framing ≡ Ok g → (f : HttpFault) → BodyFault request_limit g b.rest f → RequestFault s f
    as_request b k fault.Malformed h = inr (inr (record { head = b; framing = g; framed = k; there = h }))
    as_request b k fault.HeadLong h = inr (record { head = b; framing = g; framed = k; there = h })
    as_request b k fault.BodyLong h = inr (record { head = b; framing = g; framed = k; long = h })
    as_request b k fault.CodedBody h = absurd h
    as_request b k fault.BothLengths h = absurd h
    as_request b k fault.Ended h = h
    as_request b k fault.Read h = h
    as_request b k fault.Write h = h
    as_request b k fault.TooManyInterim h = absurd h
    as_request b k fault.Memory h = h
    as_request b k fault.Broken h = h
