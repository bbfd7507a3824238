-- Where a head has its method and its target, and what a peek returns.
use Rattle.std.proofs.Common.{◌≡◌, ℕ, ◌+◌, ◌-◌, ◌<◌, ◌≤◌, Bool, true, false, List, ◌++◌, length, take, drop, slice_range, refl, ap, ◌∙◌, sym, arith, subst, Option, Some, None, append_assoc, ◌∷◌, [], length-append}
use Rattle.std.proofs.lemmas.List.{drop-take, take-take, take-append-drop, length-take-le, take_at, drop_at}
use Rattle.std.proofs.lemmas.Bool.{false≢true}
use Rattle.httparse.specs.Grammar.{RequestHead, print_request, HasNoRequest, print_blank, print_version, print_end, print_section}
use Rattle.httparse.specs.Spans.{span_bytes, IsWithin, IsRequestAt}
use Rattle.httparse.specs.declared.spans.Span.{Span}
use Rattle.httparse.specs.declared.spans.HeaderSpan.{HeaderSpan}
use Rattle.httparse.specs.declared.spans.RequestSpans.{RequestSpans}
use Rattle.httparse.proofs.GrammarLemmas.{request_unique}
use Rattle.std.specs.Io.KnownBytes.{prepend_known}
use Rattle.relay_http.specs.Forms.{Begins}
use Rattle.relay_http.specs.RequestLine.{HeadAt, IsRequestLine, put_by, put_target}
use Rattle.relay_http.specs.declared.request_line.RequestLine.{RequestLine}
use Rattle.relay_http.proofs.Heads.{front_of, fields_counted}
use Rattle.relay_http.proofs.Stands.{IsShort, full_never}
use Rattle.relay_http.proofs.Unique.{shown}

-- the bytes between two places are the same in a front that has both
between_front : (xs : List ℕ) (n a b : ℕ) → a ≤ b → b ≤ n → slice_range (take n xs) a b ≡ slice_range xs a b
between_front xs n a b ordered fits =
    let e : a + (n - a) ≡ n = omega arith in
    let d : drop a (take n xs) ≡ take (n - a) (drop a xs) = ap (λ m. drop a (take m xs)) (sym e) ∙ drop-take a (n - a) xs in
    ap (take (b - a)) d ∙ take-take (b - a) (n - a) (drop a xs) (omega arith)

span_front : (buf : List ℕ) (n : ℕ) (s : Span) → IsWithin n s → span_bytes (take n buf) s ≡ span_bytes buf s
span_front buf n s w = between_front buf n s.start s.end w.0 w.1

line_short : IsShort 16384 IsRequestLine
line_short = record {
  size = λ x e a m. rw m.bytes_are m.fits.size;
  either = λ x e a m. record { head = m.head; fits = m.fits; bytes_are = m.bytes_are; method_in = m.method_in; target_in = m.target_in; method_is = m.method_is; target_is = m.target_is };
}

pub line_none : (buf : List ℕ) → HasNoRequest buf → ¬ (Begins IsRequestLine buf)
line_none buf none b = none b.message.head b.rest (b.message.fits.grammar, b.split ∙ ap (λ w. w ++ b.rest) b.message.bytes_are)

pub line_full : (buf : List ℕ) → 16384 ≤ length buf → HasNoRequest buf → (more : List ℕ) → ¬ (Begins IsRequestLine (buf ++ more))
line_full buf full none = full_never IsRequestLine 16384 line_short buf full (line_none buf none)

pub line_at : (buf : List ℕ) (hs : List HeaderSpan) (r : RequestSpans) (h : RequestHead) → IsRequestAt buf hs r h
    → r.headers ≤ 64 → r.len ≤ 16384 → r.len ≤ length buf → IsWithin r.len r.method → IsWithin r.len r.path
    → IsRequestLine (take r.len buf) false (record { method = r.method; target = r.path })
line_at buf hs r h at few short fits method path =
    let n = fields_counted buf hs r.headers h.fields at.fields in
    let size : length (take r.len buf) ≡ r.len = length-take-le r.len buf fits in
    record {
      head = h;
      fits = record { grammar = at.reads.0; size = omega (arith, short, at.len); count = omega (arith, few, n) };
      bytes_are = front_of buf (print_request h) (drop r.len buf) r.len at.reads.1 at.len;
      method_in = (method.0, omega (arith, size, method.1));
      target_in = (path.0, omega (arith, size, path.1));
      method_is = span_front buf r.len r.method method ∙ at.method;
      target_is = span_front buf r.len r.path path ∙ at.path;
    }

-- the head at the front of a window is that at the front of the stream
pub same_head : (window : List ℕ) (left : Option (List ℕ)) (stream : List ℕ) (n : ℕ) (line : RequestLine) (m : IsRequestLine (take n window) false line) (there : HeadAt stream)
    → prepend_known window left ≡ Some stream → m.head ≡ there.head
same_head window left stream n line m there stands =
    let r = shown window left stream stands in
    let s : stream ≡ print_request m.head ++ (drop n window ++ r.0) =
    r.2 ∙ ap (λ w. w ++ r.0) (sym (take-append-drop n window)) ∙ append_three (take n window) (drop n window) r.0 ∙ ap (λ w. w ++ (drop n window ++ r.0)) m.bytes_are in
    (request_unique stream m.head there.head (drop n window ++ r.0) there.rest (m.fits.grammar, s) (there.fits.grammar, there.split)).0
  where
    append_three : (a b c : List ℕ) → (a ++ b) ++ c ≡ a ++ (b ++ c)
    append_three a b c = simp append_assoc

-- what stands between two other texts
between : (a b c : List ℕ) → slice_range (a ++ (b ++ c)) (length a) (length a + length b) ≡ b
between a b c =
    let d : drop (length a) (a ++ (b ++ c)) ≡ b ++ c = drop_at a (b ++ c) (length a) refl in
    let n : (length a + length b) - length a ≡ length b = omega arith in
    ap (λ k. take k (drop (length a) (a ++ (b ++ c)))) n ∙ ap (take (length b)) d ∙ take_at b c (length b) refl

within : (a b c : List ℕ) → length a + length b ≤ length (a ++ (b ++ c))
within a b c = simp (length-append) (omega arith)

-- the parts of a head before its method and after its target
head_parts : (k : RequestHead) → (before : List ℕ) × (after : List ℕ) × (print_request k ≡ before ++ (k.method ++ (32 ∷ (k.target ++ after))))
unfolding print_request
head_parts k = (
  print_blank k.blank,
  32 ∷ print_version k.minor ++ print_end k.line_end ++ print_section k.fields k.last,
  glued (print_blank k.blank) k.method k.target (print_version k.minor) (print_end k.line_end) (print_section k.fields k.last),
)
  where
    glued : (b m t v e s : List ℕ) → b ++ m ++ 32 ∷ t ++ 32 ∷ v ++ e ++ s ≡ b ++ (m ++ (32 ∷ (t ++ (32 ∷ v ++ e ++ s))))
    glued b m t v e s =
        let front = (b ++ m) ++ (32 ∷ t) in
        let back = ((32 ∷ v) ++ e) ++ s in
        ap (λ w. w ++ s) (append_assoc front (32 ∷ v) e) ∙ append_assoc front ((32 ∷ v) ++ e) s ∙ append_assoc (b ++ m) (32 ∷ t) back ∙ append_assoc b m ((32 ∷ t) ++ back)

-- a head has its method and its target somewhere
pub begins_line : (stream : List ℕ) → HeadAt stream → Begins IsRequestLine stream
begins_line stream there =
    let h = there.head in
    let p = head_parts h in
    let at = length p.0 in
    let target = length (p.0 ++ (h.method ++ (32 ∷ []))) in
    record {
      front = print_request h;
      ends = false;
      value = record { method = record { start = at; end = at + length h.method }; target = record { start = target; end = target + length h.target } };
      rest = there.rest;
      message = record {
        head = h;
        fits = there.fits;
        bytes_are = refl;
        method_in = (omega arith, subst (λ w. at + length h.method ≤ length w) (sym p.2) (within p.0 h.method (32 ∷ (h.target ++ p.1))));
        target_in = (omega arith, subst (λ w. target + length h.target ≤ length w) (sym (p.2 ∙ shifted p.0 h.method h.target p.1)) (within (p.0 ++ (h.method ++ (32 ∷ []))) h.target p.1));
        method_is = ap (λ w. slice_range w at (at + length h.method)) p.2 ∙ between p.0 h.method (32 ∷ (h.target ++ p.1));
        target_is = ap (λ w. slice_range w target (target + length h.target)) (p.2 ∙ shifted p.0 h.method h.target p.1) ∙ between (p.0 ++ (h.method ++ (32 ∷ []))) h.target p.1;
      };
      split = there.split;
      last = λ e. absurd (false≢true e);
    }
  where
    shifted : (a m t z : List ℕ) → a ++ (m ++ (32 ∷ (t ++ z))) ≡ (a ++ (m ++ (32 ∷ []))) ++ (t ++ z)
    shifted a m t z = simp append_assoc

-- what a head in a window says of the stream
pub put_of : (window : List ℕ) (left : Option (List ℕ)) (stream : List ℕ) (n : ℕ) (line : RequestLine) → IsRequestLine (take n window) false line → (there : HeadAt stream)
    → prepend_known window left ≡ Some stream → put_by (span_bytes (take n window) line.method) (span_bytes (take n window) line.target) ≡ put_target there.head
put_of window left stream n line m there stands =
    ap (λ x. put_by x (span_bytes (take n window) line.target)) m.method_is ∙ ap (put_by m.head.method) m.target_is ∙ ap put_target (same_head window left stream n line m there stands)
