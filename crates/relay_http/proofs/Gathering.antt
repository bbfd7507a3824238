-- A request that is sent piece by piece.
use Rattle.std.proofs.Common.{◌≡◌, ℕ, ◌+◌, ◌<◌, ◌≤◌, List, [], ◌++◌, length, take, drop, get_or, subst, Option, None, Some, Result, Ok, Err, refl, ap, sym, ◌∙◌, inl, inr, arith, append_assoc, append-nil, length-append}
use Rattle.std.proofs.lemmas.Grind.{common_steps, flat_map-append}
use Rattle.std.proofs.lemmas.List.{take-append-drop, take-append-le}
use Rattle.std.proofs.Math.Seq.{take-append-add}
use Rattle.std.specs.Fmt.{decimal}
use Rattle.std.specs.Io.KnownBytes.{append_known}
use Rattle.relay_action.proofs.Shown.{append_known-append}
use Rattle.relay_action.specs.declared.write.Write.{Write}
use Rattle.relay_ndjson.specs.Bulk.{action_text, line_end, source_line, write_text, text_of}
use Rattle.relay_http.specs.Steps.{Begun, Flushes, Gathers, SendsBoth}
use Rattle.relay_http.specs.WrittenRequest.{head_text, request, SendsFront, SendsRequest}
use Rattle.relay_http.specs.declared.fault.HttpFault.{HttpFault}
use Rattle.relay_http.specs.declared.fault.HttpFault.TheVariants as fault

pub append_known-nil : (shown : Option (List ℕ)) → append_known shown [] ≡ shown
append_known-nil None = refl
append_known-nil (Some bytes) = ap Some (append-nil bytes)

-- the lines of one write more
pub lines_more : (ws : List Write) (i : ℕ) (w : Write) → i < length ws → w ≡ get_or ws i w → text_of (take (i + 1) ws) ≡ text_of (take i ws) ++ write_text w
lines_more ws i w h is = grind (arith, common_steps)

-- the front of what is still to be sent, after what was sent, is the front of all
pub front_behind : (old now new : Option (List ℕ)) (out piece rest all : List ℕ) → now ≡ append_known old out → all ≡ (out ++ piece) ++ rest → SendsFront piece now new → SendsFront all old new
front_behind old now new out piece rest all e is f =
    let total = ap length is ∙ length-append (out ++ piece) rest in
    let both = length-append out piece in
    let few = f.1 in
    let short : f.0 ≤ length piece = omega arith in
    let behind : take (length out + f.0) all ≡ out ++ take f.0 piece =
    ap (take (length out + f.0)) (is ∙ append_assoc out piece rest)
    ∙ take-append-add out (piece ++ rest) f.0
    ∙ ap (λ x. out ++ x) (take-append-le f.0 piece rest short) in (
      length out + f.0,
      omega (arith, total, both, few),
      f.2 ∙ ap (λ x. append_known x (take f.0 piece)) e ∙ append_known-append old out (take f.0 piece) ∙ ap (append_known old) (sym behind),
    )

-- the second of two texts was cut
pub second_cut : (old now new : Option (List ℕ)) (first second : List ℕ) → now ≡ append_known old first → SendsFront second now new → SendsFront (first ++ second) old new
second_cut old now new first second e f = front_behind old now new first second [] (first ++ second) e (sym (append-nil (first ++ second))) f

-- and the first
pub first_cut : (old new : Option (List ℕ)) (first second : List ℕ) → SendsFront first old new → SendsFront (first ++ second) old new
first_cut old new first second f = front_behind old old new [] first second (first ++ second) (sym (append_known-nil old)) refl f

-- what follows the lines of the first writes
text_behind : (head : List ℕ) (ws : List Write) (i : ℕ) → head ++ text_of ws ≡ (head ++ text_of (take i ws)) ++ text_of (drop i ws)
text_behind head ws i =
    ap (λ x. head ++ text_of x) (sym (take-append-drop i ws))
    ∙ ap (λ x. head ++ x) (flat_map-append write_text (take i ws) (drop i ws))
    ∙ sym (append_assoc head (text_of (take i ws)) (text_of (drop i ws)))

-- ---- one write more

-- this much of the request was sent and is gathered, after the lines of the first writes
pub record IsUnderWay (host : List ℕ) (ws : List Write) (i : ℕ) (old now : Option (List ℕ)) (text : List ℕ) : Type 0 where
  pub out : List ℕ
  pub went : now ≡ append_known old out
  pub gathered : out ++ text ≡ head_text host (decimal (length (text_of ws))) ++ text_of (take i ws)

pub under_way : (host : List ℕ) (ws : List Write) (old : Option (List ℕ)) (text : List ℕ) → text ≡ head_text host (decimal (length (text_of ws))) → IsUnderWay host ws 0 old old text
under_way host ws old text is = record { out = []; went = sym (append_known-nil old); gathered = is ∙ sym (append-nil (head_text host (decimal (length (text_of ws))))) }

pub one_further : (host : List ℕ) (ws : List Write) (i : ℕ) (w : Write) (old now new : Option (List ℕ)) (text after : List ℕ)
    → i < length ws → w ≡ get_or ws i w → IsUnderWay host ws i old now text
    → (piece : List ℕ) × (new ≡ append_known now piece) × (piece ++ after ≡ text ++ write_text w)
    → IsUnderWay host ws (i + 1) old new after
one_further host ws i w old now new text after h is u p =
    let head = head_text host (decimal (length (text_of ws))) in
    record {
      out = u.out ++ p.0;
      went = p.1 ∙ ap (λ x. append_known x p.0) u.went ∙ append_known-append old u.out p.0;
      gathered = append_assoc u.out p.0 after ∙ ap (λ x. u.out ++ x) p.2 ∙ sym (append_assoc u.out text (write_text w))
          ∙ ap (λ x. x ++ write_text w) u.gathered ∙ append_assoc head (text_of (take i ws)) (write_text w)
          ∙ ap (λ x. head ++ x) (sym (lines_more ws i w h is));
    }

pub stops_there : (host : List ℕ) (ws : List Write) (i : ℕ) (w : Write) (old now new : Option (List ℕ)) (text after : List ℕ) (f : HttpFault)
    → i < length ws → w ≡ get_or ws i w → IsUnderWay host ws i old now text
    → Gathers (write_text w) text after now new (Err f)
    → SendsRequest host ws old new (Err f)
stops_there host ws i w old now new text after fault.Write h is u g =
    let head = head_text host (decimal (length (text_of ws))) in
    let one : u.out ++ (text ++ write_text w) ≡ head ++ text_of (take (i + 1) ws) =
    sym (append_assoc u.out text (write_text w)) ∙ ap (λ x. x ++ write_text w) u.gathered
    ∙ append_assoc head (text_of (take i ws)) (write_text w) ∙ ap (λ x. head ++ x) (sym (lines_more ws i w h is)) in
    front_behind old now new u.out (text ++ write_text w) (text_of (drop (i + 1) ws)) (request host (text_of ws)) u.went
    (text_behind head ws (i + 1) ∙ ap (λ x. x ++ text_of (drop (i + 1) ws)) (sym one)) g
stops_there host ws i w old now new text after fault.Memory h is u g =
    inr (i, h, g ∙ ap (λ x. append_known x text) u.went ∙ append_known-append old u.out text ∙ ap (append_known old) u.gathered)
stops_there host ws i w old now new text after fault.Malformed h is u g = g
stops_there host ws i w old now new text after fault.HeadLong h is u g = g
stops_there host ws i w old now new text after fault.BodyLong h is u g = g
stops_there host ws i w old now new text after fault.CodedBody h is u g = g
stops_there host ws i w old now new text after fault.BothLengths h is u g = g
stops_there host ws i w old now new text after fault.Ended h is u g = g
stops_there host ws i w old now new text after fault.Read h is u g = g
stops_there host ws i w old now new text after fault.TooManyInterim h is u g = g
stops_there host ws i w old now new text after fault.Broken h is u g = g

-- ---- the last piece

-- what is gathered after the lines of all writes completes the request
pub completes : (host : List ℕ) (ws : List Write) (i : ℕ) (old now new : Option (List ℕ)) (text : List ℕ)
    → length ws ≤ i → IsUnderWay host ws i old now text → new ≡ append_known now text → new ≡ append_known old (request host (text_of ws))
completes host ws i old now new text h u e =
    let all : take i ws ≡ ws = grind (arith, common_steps) in
    e ∙ ap (λ x. append_known x text) u.went ∙ append_known-append old u.out text ∙ ap (append_known old) u.gathered
    ∙ ap (λ x. append_known old (head_text host (decimal (length (text_of ws))) ++ text_of x)) all

pub falls_short : (host : List ℕ) (ws : List Write) (i : ℕ) (old now new : Option (List ℕ)) (text : List ℕ)
    → IsUnderWay host ws i old now text → SendsFront text now new → SendsFront (request host (text_of ws)) old new
falls_short host ws i old now new text u f =
    let head = head_text host (decimal (length (text_of ws))) in
    front_behind old now new u.out text (text_of (drop i ws)) (request host (text_of ws)) u.went
    (text_behind head ws i ∙ ap (λ x. x ++ text_of (drop i ws)) (sym u.gathered)) f

pub last_piece : (host : List ℕ) (ws : List Write) (i : ℕ) (old now new : Option (List ℕ)) (text after : List ℕ) (r : Result (Unit {0}) HttpFault)
    → length ws ≤ i → IsUnderWay host ws i old now text → Flushes text after now new r → SendsRequest host ws old new r
last_piece host ws i old now new text after (Ok done) h u f = completes host ws i old now new text h u f.0
last_piece host ws i old now new text after (Err fault.Write) h u f = falls_short host ws i old now new text u f
last_piece host ws i old now new text after (Err fault.Memory) h u f = absurd f
last_piece host ws i old now new text after (Err fault.Malformed) h u f = f
last_piece host ws i old now new text after (Err fault.HeadLong) h u f = f
last_piece host ws i old now new text after (Err fault.BodyLong) h u f = f
last_piece host ws i old now new text after (Err fault.CodedBody) h u f = f
last_piece host ws i old now new text after (Err fault.BothLengths) h u f = f
last_piece host ws i old now new text after (Err fault.Ended) h u f = f
last_piece host ws i old now new text after (Err fault.Read) h u f = f
last_piece host ws i old now new text after (Err fault.TooManyInterim) h u f = f
last_piece host ws i old now new text after (Err fault.Broken) h u f = f

-- ---- what was gathered cannot be sent

pub not_flushed : (lines text after left : List ℕ) (now new : Option (List ℕ)) (f : HttpFault) → Flushes text after now new (Err f) → Gathers lines text left now new (Err f)
not_flushed lines text after left now new fault.Write s =
    let few = s.1 in
    let short : s.0 ≤ length text = omega arith in
    let both = length-append text lines in
    (s.0, omega (arith, few, both), s.2 ∙ ap (append_known now) (sym (take-append-le s.0 text lines short)))
not_flushed lines text after left now new fault.Memory s = absurd s
not_flushed lines text after left now new fault.Malformed s = s
not_flushed lines text after left now new fault.HeadLong s = s
not_flushed lines text after left now new fault.BodyLong s = s
not_flushed lines text after left now new fault.CodedBody s = s
not_flushed lines text after left now new fault.BothLengths s = s
not_flushed lines text after left now new fault.Ended s = s
not_flushed lines text after left now new fault.Read s = s
not_flushed lines text after left now new fault.TooManyInterim s = s
not_flushed lines text after left now new fault.Broken s = s

-- ---- a source is sent from where it is

lines_cut : (before first source le lines : List ℕ) (line : List ℕ) → first ≡ before ++ line → lines ≡ line ++ (source ++ le) → before ++ lines ≡ (first ++ source) ++ le
lines_cut before first source le lines line e f =
    ap (λ x. before ++ x) f ∙ sym (append_assoc before line (source ++ le)) ∙ sym (append_assoc (before ++ line) source le) ∙ ap (λ x. (x ++ source) ++ le) (sym e)

pub source_cut : (w : Write) (before first source after : List ℕ) (now new : Option (List ℕ)) (f : HttpFault)
    → source_line w.action ≡ source ++ line_end → first ≡ before ++ (action_text w ++ line_end)
    → SendsBoth (first ++ source) now new (Err f) → Gathers (write_text w) before after now new (Err f)
source_cut w before first source after now new fault.Write s e b =
    let all = lines_cut before first source line_end (write_text w) (action_text w ++ line_end) e (ap (λ x. (action_text w ++ line_end) ++ x) s) in
    front_behind now now new [] (first ++ source) line_end (before ++ write_text w) (sym (append_known-nil now)) all b
source_cut w before first source after now new fault.Memory s e b = absurd b
source_cut w before first source after now new fault.Malformed s e b = b
source_cut w before first source after now new fault.HeadLong s e b = b
source_cut w before first source after now new fault.BodyLong s e b = b
source_cut w before first source after now new fault.CodedBody s e b = b
source_cut w before first source after now new fault.BothLengths s e b = b
source_cut w before first source after now new fault.Ended s e b = b
source_cut w before first source after now new fault.Read s e b = b
source_cut w before first source after now new fault.TooManyInterim s e b = b
source_cut w before first source after now new fault.Broken s e b = b

-- ---- the head

pub head_gathered : (host : List ℕ) (ws : List Write) (old new : Option (List ℕ)) (text : List ℕ) → Begun (head_text host (decimal (length (text_of ws)))) text old new (Ok tt) → IsUnderWay host ws 0 old new text
head_gathered host ws old new text b =
    let head = head_text host (decimal (length (text_of ws))) in
    record { out = b.0; went = b.1; gathered = b.2 ∙ sym (append-nil head) }

pub head_fails : (host : List ℕ) (ws : List Write) (old new : Option (List ℕ)) (text : List ℕ) (f : HttpFault) → Begun (head_text host (decimal (length (text_of ws)))) text old new (Err f) → SendsRequest host ws old new (Err f)
head_fails host ws old new text fault.Write b = first_cut old new (head_text host (decimal (length (text_of ws)))) (text_of ws) b
head_fails host ws old new text fault.Memory b = inl b
head_fails host ws old new text fault.Malformed b = b
head_fails host ws old new text fault.HeadLong b = b
head_fails host ws old new text fault.BodyLong b = b
head_fails host ws old new text fault.CodedBody b = b
head_fails host ws old new text fault.BothLengths b = b
head_fails host ws old new text fault.Ended b = b
head_fails host ws old new text fault.Read b = b
head_fails host ws old new text fault.TooManyInterim b = b
head_fails host ws old new text fault.Broken b = b

-- a gathered head is sent
pub head_flushed : (head text after : List ℕ) (old new : Option (List ℕ)) (r : Result (Unit {0}) HttpFault) → text ≡ head → Flushes text after old new r → Begun head after old new r
head_flushed head text after old new (Ok done) e f = (text, f.0, ap (λ x. text ++ x) f.1 ∙ append-nil text ∙ e)
head_flushed head text after old new (Err fault.Write) e f = subst (λ (x : List ℕ). SendsFront x old new) e f
head_flushed head text after old new (Err fault.Memory) e f = absurd f
head_flushed head text after old new (Err fault.Malformed) e f = f
head_flushed head text after old new (Err fault.HeadLong) e f = f
head_flushed head text after old new (Err fault.BodyLong) e f = f
head_flushed head text after old new (Err fault.CodedBody) e f = f
head_flushed head text after old new (Err fault.BothLengths) e f = f
head_flushed head text after old new (Err fault.Ended) e f = f
head_flushed head text after old new (Err fault.Read) e f = f
head_flushed head text after old new (Err fault.TooManyInterim) e f = f
head_flushed head text after old new (Err fault.Broken) e f = f
