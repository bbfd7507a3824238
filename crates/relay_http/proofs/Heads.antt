-- What httparse returns is what the head says.
use Rattle.std.proofs.Common.{◌≡◌, ℕ, ◌≤◌, Bool, false, List, ◌++◌, length, take, drop, map, refl, ap, ◌∙◌, sym, arith, Result}
use Rattle.std.proofs.lemmas.List.{take_at, length-take, length-map}
use Rattle.httparse.specs.Grammar.{Field, ResponseHead, print_response, HasNoResponse}
use Rattle.httparse.specs.Spans.{header_bytes, name_and_value, AreFieldsAt, IsResponseAt}
use Rattle.httparse.specs.declared.spans.HeaderSpan.{HeaderSpan}
use Rattle.httparse.specs.declared.spans.ResponseSpans.{ResponseSpans}
use Rattle.relay_http.specs.Framing.{framing_of, keeps}
use Rattle.relay_http.proofs.Stands.{IsShort, full_never}
use Rattle.relay_http.specs.Forms.{Begins}
use Rattle.relay_http.specs.Reply.{info_of, IsHead}
use Rattle.relay_http.specs.declared.fault.HttpFault.{HttpFault}
use Rattle.relay_http.specs.declared.framing.Framing.{Framing}
use Rattle.relay_http.specs.declared.head.HeadInfo.{HeadInfo}

pub front_of : (buf text rest : List ℕ) (n : ℕ) → buf ≡ text ++ rest → n ≡ length text → take n buf ≡ text
front_of buf text rest n e l = rw e (take_at text rest n (sym l))

pub fields_counted : (buf : List ℕ) (hs : List HeaderSpan) (count : ℕ) (fields : List Field) → AreFieldsAt buf hs count fields → length fields ≤ count
fields_counted buf hs count fields e =
    let a = length-map (take count hs) (header_bytes buf) in
    let b = length-map fields name_and_value in
    let c = length-take count hs in
    let d : length (map (header_bytes buf) (take count hs)) ≡ length (map name_and_value fields) = ap length e in
    omega (arith, a, b, c, d)

pub info_is : (buf : List ℕ) (hs : List HeaderSpan) (r : ResponseSpans) (h : ResponseHead) (framing : Result Framing HttpFault) (lasting : Bool)
    → IsResponseAt buf hs r h
    → framing ≡ framing_of r.code (map (header_bytes buf) (take r.headers hs))
    → lasting ≡ keeps r.version (map (header_bytes buf) (take r.headers hs))
    → ◌≡◌ {A = HeadInfo} (record { status = r.code; framing = framing; lasting = lasting }) (info_of h)
info_is buf hs r h framing lasting at f l =
    rw (f, l, at.fields, at.code, at.version) refl

pub head_at : (buf : List ℕ) (hs : List HeaderSpan) (r : ResponseSpans) (h : ResponseHead) (framing : Result Framing HttpFault) (lasting : Bool)
    → IsResponseAt buf hs r h
    → r.headers ≤ 64 → r.len ≤ 16384
    → framing ≡ framing_of r.code (map (header_bytes buf) (take r.headers hs))
    → lasting ≡ keeps r.version (map (header_bytes buf) (take r.headers hs))
    → IsHead (take r.len buf) false (record { status = r.code; framing = framing; lasting = lasting })
head_at buf hs r h framing lasting at few short f l =
    let n = fields_counted buf hs r.headers h.fields at.fields in
    record {
      head = h;
      fits = record { grammar = at.reads.0; size = omega (arith, short, at.len); count = omega (arith, few, n) };
      bytes_are = front_of buf (print_response h) (drop r.len buf) r.len at.reads.1 at.len;
      info_is = info_is buf hs r h framing lasting at f l;
    }

pub head_short : IsShort 16384 IsHead
head_short = record {
  size = λ x e a m. rw m.bytes_are m.fits.size;
  either = λ x e a m. record { head = m.head; fits = m.fits; bytes_are = m.bytes_are; info_is = m.info_is };
}

pub head_full : (buf : List ℕ) → 16384 ≤ length buf → HasNoResponse buf → (more : List ℕ) → ¬ (Begins IsHead (buf ++ more))
head_full buf full none = full_never IsHead 16384 head_short buf full (λ b. none b.message.head b.rest (b.message.fits.grammar, b.split ∙ ap (λ w. w ++ b.rest) b.message.bytes_are))
