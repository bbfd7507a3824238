-- Requests at the front of what is to come.
use Rattle.std.proofs.Common.{◌≡◌, ℕ, ◌<◌, ◌≤◌, Bool, false, ◌&&◌, List, [], ◌∷◌, ◌++◌, length, take, drop, map, refl, ap, ◌∙◌, sym, subst, arith, length-append, Option, Some, None, Result, Ok, Err}
use Rattle.std.proofs.lemmas.Grind.{common_steps}
use Rattle.std.specs.Io.KnownBytes.{IsAtEnd, prepend_known}
use Rattle.std.specs.Prelude.{codes, bytes_eq}
use Rattle.httparse.specs.Grammar.{RequestHead, print_request, print_blank, print_version, print_end, print_section, HasNoRequest}
use Rattle.httparse.specs.Spans.{header_bytes, IsRequestAt, span_bytes}
use Rattle.httparse.specs.declared.spans.HeaderSpan.{HeaderSpan}
use Rattle.httparse.specs.declared.spans.RequestSpans.{RequestSpans}
use Rattle.httparse.proofs.GrammarLemmas.{request_unique}
use Rattle.relay_http.specs.Framing.{request_limit, framing_of_request, keeps}
use Rattle.relay_http.specs.Forms.{Begins, IsUnique}
use Rattle.relay_http.proofs.Leading.{IsStated}
use Rattle.relay_http.specs.Body.{IsBody}
use Rattle.relay_http.specs.Request.{TookRequest, IsFound, request_view, request_headers, request_info, IsRequestInfo, Request, IsRequest, IsRequestBody}
use Rattle.relay_http.specs.declared.fault.HttpFault.{HttpFault}
use Rattle.relay_http.specs.declared.framing.Framing.{Framing}
use Rattle.relay_http.specs.declared.framing.Framing.TheVariants as framing
use Rattle.relay_http.specs.declared.request_head.RequestInfo.{RequestInfo}
use Rattle.relay_http.proofs.Stands.{IsShort, full_never}
use Rattle.relay_http.proofs.Heads.{front_of, fields_counted}
use Rattle.relay_http.proofs.Messages.{begins_then, then_unique}
use Rattle.relay_http.proofs.Replies.{fields_stated}
use Rattle.relay_http.specs.declared.request.HttpRequest.{HttpRequest}
use Rattle.relay_http.proofs.Unique.{body_unique, ok_is, took_found}

request_short : IsShort 16384 IsRequestInfo
request_short = record {
  size = λ x e a m. rw m.bytes_are m.fits.size;
  either = λ x e a m. record { head = m.head; fits = m.fits; bytes_are = m.bytes_are; info_is = m.info_is };
}

pub request_full : (buf : List ℕ) → 16384 ≤ length buf → HasNoRequest buf → (more : List ℕ) → ¬ (Begins IsRequestInfo (buf ++ more))
request_full buf full none = full_never IsRequestInfo 16384 request_short buf full (λ b. none b.message.head b.rest (b.message.fits.grammar, b.split ∙ ap (λ w. w ++ b.rest) b.message.bytes_are))

pub request_at : (buf : List ℕ) (hs : List HeaderSpan) (r : RequestSpans) (h : RequestHead) (bulk : Bool) (framing : Result Framing HttpFault) (lasting : Bool)
    → IsRequestAt buf hs r h
    → r.headers ≤ 64 → r.len ≤ 16384
    → bulk ≡ (bytes_eq (span_bytes buf r.method) (codes "POST") && bytes_eq (span_bytes buf r.path) (codes "/_bulk"))
    → framing ≡ framing_of_request (map (header_bytes buf) (take r.headers hs))
    → lasting ≡ keeps r.version (map (header_bytes buf) (take r.headers hs))
    → IsRequestInfo (take r.len buf) false (record { bulk = bulk; framing = framing; lasting = lasting })
request_at buf hs r h bulk framing lasting at few short b f l =
    let n = fields_counted buf hs r.headers h.fields at.fields in
    record {
      head = h;
      fits = record { grammar = at.reads.0; size = omega (arith, short, at.len); count = omega (arith, few, n) };
      bytes_are = front_of buf (print_request h) (drop r.len buf) r.len at.reads.1 at.len;
      info_is = rw (b, f, l, at.fields, at.method, at.path, at.version) refl;
    }

pub request_head_unique : IsUnique IsRequestInfo
request_head_unique = record {
  same = λ s b c.
      let same = request_unique s b.message.head c.message.head b.rest c.rest (b.message.fits.grammar, b.split ∙ ap (λ w. w ++ b.rest) b.message.bytes_are) (c.message.fits.grammar, c.split ∙ ap (λ w. w ++ c.rest) c.message.bytes_are) in
      record { value_is = b.message.info_is ∙ ap request_info same.0 ∙ sym c.message.info_is; rest_is = same.1 };
}

pub request_either : (t : List ℕ) (e : Bool) (info : RequestInfo) → IsRequestInfo t e info → IsRequestInfo t false info
request_either t e info m = record { head = m.head; fits = m.fits; bytes_are = m.bytes_are; info_is = m.info_is }

pub request_stated : (t : List ℕ) (e : Bool) (info : RequestInfo) → IsRequestInfo t e info → (f : HttpFault) → info.framing ≡ Err f → IsStated f
request_stated t e info m f h = fields_stated request_limit framing.Absent (request_headers m.head) f (sym (ap (λ (k : RequestInfo). k.framing) m.info_is) ∙ h)

abbrev pub begins_request_body : (info : RequestInfo) (framing : Framing) → info.framing ≡ Ok framing → (s : List ℕ) → Begins (IsRequestBody info) s → Begins (IsBody request_limit framing) s
begins_request_body info framing e s b = record {
  front = b.front;
  ends = b.ends;
  value = b.value.body;
  rest = b.rest;
  message = subst (λ f. IsBody request_limit f b.front b.ends b.value.body) (ok_is b.message.framing framing (sym b.message.framed ∙ e)) b.message.body;
  split = b.split;
  last = b.last;
}

pub request_never : (info : RequestInfo) (f : HttpFault) → info.framing ≡ Err f → (s : List ℕ) → ¬ (Begins (IsRequestBody info) s)
request_never info f e s b = wrong f b.message.framing (sym e ∙ b.message.framed)
  where
    wrong : (f : HttpFault) (g : Framing) → ◌≡◌ {A = Result Framing HttpFault} (Err f) (Ok g) → ⊥
    wrong f g h = cc

request_is : (a b : Request) → a.bulk ≡ b.bulk → a.body ≡ b.body → a.keep ≡ b.keep → a ≡ b
request_is a b e f g = λ i. record { bulk = e i; body = f i; keep = g i }

request_tail_unique : (info : RequestInfo) → IsUnique (IsRequestBody info)
request_tail_unique info = record {
  same = λ s b c.
      let x = begins_request_body info c.message.framing c.message.framed s b in
      let y = begins_request_body info c.message.framing c.message.framed s c in
      let same = (body_unique request_limit c.message.framing).same s x y in
      record { value_is = request_is b.value c.value (b.message.bulk_is ∙ sym c.message.bulk_is) same.value_is (b.message.keep_is ∙ sym c.message.keep_is); rest_is = same.rest_is };
}

pub request_unique_there : IsUnique IsRequest
request_unique_there = then_unique IsRequestInfo IsRequestBody request_head_unique request_tail_unique

-- a head is not empty
printed_some : (h : RequestHead) → 0 < length h.method → 0 < length (print_request h)
unfolding print_request
printed_some h some = more (print_blank h.blank) h.method h.target (print_version h.minor) (print_end h.line_end) (print_section h.fields h.last) some
  where
    more : (a m t v e s : List ℕ) → 0 < length m → 0 < length (a ++ m ++ 32 ∷ t ++ 32 ∷ v ++ e ++ s)
    more a m t v e s some = grind (arith, common_steps, some)

-- if nothing is to come, there is no head, and no request
pub request_head_some : (s : List ℕ) → Begins IsRequestInfo s → 0 < length s
request_head_some s h =
    let some = printed_some h.message.head h.message.fits.grammar.method.0 in
    let whole : length s ≡ length (print_request h.message.head ++ h.rest) = ap length (h.split ∙ ap (λ w. w ++ h.rest) h.message.bytes_are) in
    let parts = length-append (print_request h.message.head) h.rest in
    omega (arith, some, whole, parts)

request_some : (s : List ℕ) → Begins IsRequest s → 0 < length s
request_some s b = request_head_some s (begins_then IsRequestInfo IsRequestBody s b)

-- if the window is empty and the stream at its end, nothing is to come
pub nothing_there : (w : List ℕ) (left : Option (List ℕ)) (s : List ℕ) → length w ≡ 0 → IsAtEnd left → prepend_known w left ≡ Some s → ¬ (Begins IsRequestInfo s)
nothing_there w None s l a e b = absurd (cc)
nothing_there w (Some xs) s l a e b =
    let whole : length (w ++ xs) ≡ length s = ap (λ o. length (bytes_of o)) e in
    let parts = length-append w xs in
    let end : length xs ≡ 0 = ap length a in
    let some = request_head_some s b in
    omega (arith, whole, parts, end, some, l)
  where
    bytes_of : Option (List ℕ) → List ℕ
    bytes_of None = []
    bytes_of (Some bytes) = bytes

pub request_found : (old new : Option (List ℕ)) (r : Option HttpRequest) → TookRequest old new r → (s : List ℕ) (b : Begins IsRequest s) → old ≡ Some s → IsFound b new r
request_found old new None t s b e =
    let nothing : s ≡ [] = subst IsAtEnd e t.0 in
    let some = request_some s b in
    let none : length s ≡ 0 = ap length nothing in
    absurd (omega (arith, some, none))
request_found old new (Some r) t s b e = took_found IsRequest request_unique_there old new (request_view r) t s b e

-- an empty stream has an empty window
pub no_window : (w : List ℕ) (left : Option (List ℕ)) → prepend_known w left ≡ Some [] → length w ≡ 0
no_window w None e = absurd (cc)
no_window w (Some xs) e =
    let total : length (w ++ xs) ≡ 0 = ap (λ o. length (bytes_of o)) e in
    let parts = length-append w xs in
    omega (arith, total, parts)
  where
    bytes_of : Option (List ℕ) → List ℕ
    bytes_of None = []
    bytes_of (Some bytes) = bytes
