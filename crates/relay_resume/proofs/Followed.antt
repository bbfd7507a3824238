-- What is read of a text, and what it holds.
use Rattle.std.proofs.Common.{◌≡◌, ℕ, ◌+◌, ◌<◌, ◌≤◌, ◌^◌, List, [], ◌∷◌, ◌++◌, length, Option, Some, refl, ap, ◌∙◌, subst, arith, inl, inr, length-append}
use Rattle.relay_ndjson.specs.Lines.{IsLong, TakesBlank, TakesText}
use Rattle.relay_ndjson.specs.declared.kind.LineKind.{LineKind}
use Rattle.relay_ndjson.specs.Operations.{Breaks, BreaksAction, BreaksAt, BreaksSource, HoldsNoMore, Operation, TakesOperation, line_count, saturating_count}
use Rattle.relay_ndjson.specs.Reading.{Reading, fresh}
use Rattle.relay_ndjson.proofs.Exclusion.{shows_behind}
use Rattle.relay_ndjson.proofs.Fronts.{shown_rest, shows_on, some_same}
use Rattle.relay_words.specs.Taken.{TakesAll}
use Rattle.relay_resume.specs.Contents.{Begins, ReadFromTheFront, ReadOn, ReadToTheEnd, ReadToTheFault, after_lines}
use Rattle.relay_resume.proofs.Holding.{begins_after, begins_together, lines_are_first}
use Rattle.relay_resume.proofs.Skipping.{begins_skips, blank_skips, operation_shows, skips_bound, text_skips, text_to}

-- what was read is at the front, the reader counted its lines, and what follows is ahead of it
pub record IsRead (default : Option (List ℕ)) (text : List ℕ) (before : ℕ) (new : Reading) (ops : List Operation) : Type 0 where
  pub count : ℕ
  pub rest : List ℕ
  pub begins : Begins default text ops count rest
  pub ahead : new.ahead ≡ Some rest
  pub is_default : new.default ≡ default
  pub counted : new.count ≡ saturating_count (before + count)

pub is_read : (default : Option (List ℕ)) (text : List ℕ) (before : ℕ) (old new : Reading) (ops : List Operation)
    → old.ahead ≡ Some text → old.default ≡ default → old.count ≡ saturating_count before → TakesAll old new ops → IsRead default text before new ops
is_read default text before old new [] a d c t = record {
  count = 0;
  rest = text;
  begins = (refl, refl);
  ahead = ap (λ (r : Reading). r.ahead) t ∙ a;
  is_default = ap (λ (r : Reading). r.default) t ∙ d;
  counted = let e : new.count ≡ old.count = ap (λ (r : Reading). r.count) t in omega (arith, c, e);
}
is_read default text before old new (op ∷ ops) a d c t =
    let s = operation_shows old.default old.ahead t.1.ahead t.0 op (text, a) t.2.lines in
    let lines = subst (λ (o : Option (List ℕ)). TakesOperation default (Some text) o t.0 op) s.1
    (subst (λ (o : Option (List ℕ)). TakesOperation default o t.1.ahead t.0 op) a (subst (λ (o : Option (List ℕ)). TakesOperation o old.ahead t.1.ahead t.0 op) d t.2.lines)) in
    let n = t.2.count in
    let rec = is_read default s.0 (before + t.0 + line_count op.1) t.1 new ops s.1 (t.2.default ∙ d) (omega (arith, c, n)) t.3 in
    record {
      count = t.0 + line_count op.1 + rec.count;
      rest = rec.rest;
      begins = (t.0, s.0, rec.count, lines, rec.begins, refl {a = t.0 + line_count op.1 + rec.count});
      ahead = rec.ahead;
      is_default = rec.is_default;
      counted = let k = rec.counted in omega (arith, k);
    }

-- the number of lines is exact if the text has fewer than 2^64 bytes
pub record IsReadFirst (default : Option (List ℕ)) (text : List ℕ) (new : Reading) (ops : List Operation) : Type 0 where
  pub rest : List ℕ
  pub begins : Begins default text ops new.count rest
  pub ahead : new.ahead ≡ Some rest
  pub is_default : new.default ≡ default
  pub bound : new.count + length rest ≤ length text

pub read_first : (default : Option (List ℕ)) (text : List ℕ) (failed : ℕ) (new : Reading) (ops : List Operation) → length text < 2 ^ 64 → TakesAll (fresh (Some text) failed default) new ops → IsReadFirst default text new ops
read_first default text failed new ops low t =
    let r = is_read default text 0 (fresh (Some text) failed default) new ops refl refl refl t in
    let bound = skips_bound r.count text r.rest (begins_skips default text ops r.count r.rest r.begins) in
    let counted = r.counted in
    let same : r.count ≡ new.count = omega (arith, counted, bound, low) in
    record {
      rest = r.rest;
      begins = subst (λ (n : ℕ). Begins default text ops n r.rest) same r.begins;
      ahead = r.ahead;
      is_default = r.is_default;
      bound = omega (arith, bound, same);
    }

pub read_from_the_front : ReadFromTheFront
read_from_the_front default text failed new ops low t =
    let r = read_first default text failed new ops low t in
    (begins_after default text r.rest ops new.count r.begins, r.ahead ∙ ap Some (lines_are_first default text r.rest ops new.count r.begins))

pub read_to_the_end : ReadToTheEnd
read_to_the_end default text failed rest new ops low t e =
    let r = read_first default text failed rest ops low t in
    record { count = rest.count; rest = r.rest; begins = r.begins; ends = subst HoldsNoMore r.ahead e.lines }

-- ---- the line of a fault is one

text_some : (old : List ℕ) (new : Option (List ℕ)) (text : List ℕ) → TakesText (Some old) new text → (rest : List ℕ) × (new ≡ Some rest) × (1 + length rest ≤ length old)
text_some old new text t =
    let s = shows_on (Some old) new text (old, refl) t in
    (s.0, s.1, skips_bound 1 old s.0 (text_skips old s.0 text (text_to (Some old) new (Some s.0) text s.1 t)))

long_some : (old : List ℕ) → IsLong (Some old) → 1 ≤ length old
long_some old l =
    let r = shown_rest (Some old) l.rest l.raw (old, refl) l.taken in
    let size : length old ≡ length l.raw + length r.1 = ap length (some_same old (l.raw ++ r.1) (r.2 ∙ ap Some r.4)) ∙ length-append l.raw r.1 in
    elim l.past [ inl p ↦ (let h = p.0 in omega (arith, size, h)) | inr p ↦ (let h = p.0 in omega (arith, size, h)) ]

action_some : (default : Option (List ℕ)) (old : List ℕ) (k : LineKind) → BreaksAction default (Some old) k → 1 ≤ length old
action_some default old k (inl l) = long_some old l.0
action_some default old k (inr t) = let s = text_some old t.1 t.0 t.2 in let h = s.2 in omega (arith, h)

source_some : (old : List ℕ) (k : LineKind) → BreaksSource (Some old) k → 1 ≤ length old
source_some old k (inl l) = long_some old l.0
source_some old k (inr t) = let s = text_some old t.1 t.0 t.2 in let h = s.2 in omega (arith, h)

place_some : (default : Option (List ℕ)) (n : ℕ) (old : List ℕ) (place : ℕ) (k : LineKind) → BreaksAt default n (Some old) place k → place ≤ length old
place_some default n old place k (inl b) = let h = action_some default old k b.0 in let p = b.1 in omega (arith, h, p)
place_some default n old place k (inr (inl b)) = let s = text_some old b.0.1 [] b.0.2 in let h = s.2 in let p = b.1 in omega (arith, h, p)
place_some default n old place k (inr (inr l)) =
    let s = text_some old l.1 l.0 l.4 in
    let h = s.2 in
    elim l.7 [
      | inl m ↦ (let p = m.2 in omega (arith, h, p))
      | inr m ↦ (let p = m.1 in let q = source_some s.0 k (subst (λ (o : Option (List ℕ)). BreaksSource o k) s.1 m.0) in omega (arith, h, p, q))
    ]

pub fault_some : (default : Option (List ℕ)) (old : List ℕ) (at : ℕ) (k : LineKind) → Breaks default (Some old) at k → at ≤ length old
fault_some default old at k b =
    let s = shows_behind b.0 (Some old) b.1 (old, refl) b.4 in
    let blank = skips_bound b.0 old s.0 (blank_skips b.0 old s.0 (subst (λ (o : Option (List ℕ)). TakesBlank b.0 (Some old) o) s.1 b.4)) in
    let place = place_some default b.0 s.0 b.2 k (subst (λ (o : Option (List ℕ)). BreaksAt default b.0 o b.2 k) s.1 b.5) in
    let e = b.6 in
    omega (arith, blank, place, e)

pub read_to_the_fault : ReadToTheFault
read_to_the_fault default text failed rest new ops e low t f =
    let r = read_first default text failed rest ops low t in
    elim f.fault [
      | inl k ↦ inl k
      | inr (inl k) ↦ inr (inl k)
      | inr (inr b) ↦ (
          let breaks = subst (λ (o : Option (List ℕ)). Breaks default o b.0 e.kind) r.ahead (subst (λ (o : Option (List ℕ)). Breaks o rest.ahead b.0 e.kind) r.is_default b.1) in
          let some = fault_some default r.rest b.0 e.kind breaks in
          let bound = r.bound in
          let line = b.2 in
          let exact : e.line ≡ rest.count + b.0 = omega (arith, some, bound, line, low) in
          inr (inr (record { count = rest.count; rest = r.rest; begins = r.begins; ends = (b.0, breaks, exact) })))
    ]

pub read_on : ReadOn
read_on default text failed count new done later low b t =
    let bound = skips_bound count text (after_lines count text) (begins_skips default text done count (after_lines count text) b) in
    let r = read_first default (after_lines count text) failed new later (omega (arith, bound, low)) t in
    begins_after default text r.rest (done ++ later) (count + new.count) (begins_together default text (after_lines count text) r.rest done later count new.count b r.begins)
