-- The parts of a body, one after another.
use Rattle.std.proofs.Common.{◌≡◌, ◌⊎◌, ℕ, ◌+◌, true, false, List, [], ◌∷◌, ◌++◌, length, min, Option, None, Some, refl, ap, ◌∙◌, arith, inl, inr}
use Rattle.std.proofs.lemmas.Grind.{common_steps}
use Rattle.std.proofs.lemmas.List.Elements.{All-nil, All-cons, All-append}
use Rattle.relay_action.specs.Streams.{most}
use Rattle.relay_front.specs.declared.lines.BodyFault.{BodyFault}
use Rattle.relay_front.specs.declared.lines.BodyFaultKind.TheVariants as body
use Rattle.relay_front.specs.declared.lines.Unread.{Unread}
use Rattle.relay_front.specs.declared.lines.Unread.TheVariants as unread
use Rattle.relay_front.specs.declared.operation.Item.{Item}
use Rattle.relay_front.specs.declared.operation.Operations.{Operations}
use Rattle.relay_front.specs.Bodies.{BeginsWithLine, is_blank}
use Rattle.relay_front.specs.Operations.{Asks, BreaksAt, BreaksBody, HasRead, IsAdded, IsPart, TakesLines, TakesPart, Write, after_lines}

-- ---- one part

pub blank_taken : (default : Option (List ℕ)) (bytes rest text : List ℕ) (ops : Operations) → BeginsWithLine bytes rest text → is_blank text ≡ true → TakesPart default bytes rest 1 ops ops
blank_taken default bytes rest text ops line blank =
    (record { lines = text ∷ []; items = []; writes = [] }, inl (text, blank, refl), (rest, line, refl), refl, grind (arith, common_steps), grind (arith, common_steps))

pub alone_taken : (default : Option (List ℕ)) (bytes rest text : List ℕ) (asked : Item) (old new : Operations) → BeginsWithLine bytes rest text → Asks default text asked false → IsAdded old new asked None → TakesPart default bytes rest 1 old new
alone_taken default bytes rest text asked old new line asks added =
    (record { lines = text ∷ []; items = added.0 ∷ []; writes = added.1 }, inr (inl (text, asked, added.0, added.1, asks, added.2, refl)), (rest, line, refl), refl, added.3, added.4)

pub sourced_taken : (default : Option (List ℕ)) (bytes mid rest text source : List ℕ) (asked : Item) (old new : Operations) → BeginsWithLine bytes mid text → BeginsWithLine mid rest source → Asks default text asked true → IsAdded old new asked (Some source)
    → TakesPart default bytes rest 2 old new
sourced_taken default bytes mid rest text source asked old new line next asks added =
    (record { lines = text ∷ source ∷ []; items = added.0 ∷ []; writes = added.1 }, inr (inr (text, source, asked, added.0, added.1, asks, added.2, refl)), (mid, line, (rest, next, refl)), refl, added.3, added.4)

-- ---- part after part

lines_after : (bytes mid rest : List ℕ) (first second : List (List ℕ)) → TakesLines bytes first mid → TakesLines mid second rest → TakesLines bytes (first ++ second) rest
lines_after bytes mid rest [] second h k = rw h k
lines_after bytes mid rest (text ∷ texts) second h k = (h.0, h.1, lines_after h.0 mid rest texts second h.2 k)

pub nothing_read : (default : Option (List ℕ)) (whole : List ℕ) → (read : HasRead default whole whole [] []) × (0 ≡ min (length read.lines) most)
nothing_read default whole = (
  record {
    lines = [];
    taken = refl;
    asked = record { parts = []; each = All-nil (IsPart default); lines_of = refl; items_of = refl; writes_of = refl };
  },
  refl,
)

pub part_read : (default : Option (List ℕ)) (whole mid rest : List ℕ) (count : ℕ) (old new : Operations) → (front : HasRead default whole mid old.items.items old.writes.items) → TakesPart default mid rest count old new
    → (read : HasRead default whole rest new.items.items new.writes.items) × (length read.lines ≡ length front.lines + count)
part_read default whole mid rest count old new front p =
    let asked = front.asked in
    let l = asked.lines_of in
    let i = asked.items_of in
    let w = asked.writes_of in (
      record {
        lines = front.lines ++ p.0.lines;
        taken = lines_after whole mid rest front.lines p.0.lines front.taken p.2;
        asked = record {
          parts = asked.parts ++ p.0 ∷ [];
          each = All-append (IsPart default) asked.parts (p.0 ∷ []) asked.each (All-cons (IsPart default) p.0 [] p.1 (All-nil (IsPart default)));
          lines_of = grind (arith, common_steps, l);
          items_of = grind (arith, common_steps, i, p.4);
          writes_of = grind (arith, common_steps, w, p.5);
        };
      },
      grind (arith, common_steps, p.3),
    )

pub counted : (lines count n m : ℕ) → lines ≡ min n most → m ≡ n + count → min (lines + count) most ≡ min m most
counted lines count n m e f = grind (arith, common_steps, e, f)

-- ---- where a body breaks

pub place_of : (lines place n : ℕ) → lines ≡ min n most → min (lines + place) most ≡ min (n + place) most
place_of lines place n e = grind (arith, common_steps, e)

broken_at : (default : Option (List ℕ)) (whole rest : List ℕ) (items : List Item) (writes : List Write) (lines : ℕ) (g : BodyFault) → (front : HasRead default whole rest items writes) → lines ≡ min (length front.lines) most → BreaksAt default rest g.line g.kind
    → BreaksBody default whole (record { line = min (lines + g.line) most; kind = g.kind })
broken_at default whole rest items writes lines g front counted breaks = record {
  rest = rest;
  items = items;
  writes = writes;
  front = front;
  place = g.line;
  breaks = inl breaks;
  line = place_of lines g.line (length front.lines) counted;
}

pub broken_after : (default : Option (List ℕ)) (whole rest : List ℕ) (items : List Item) (writes : List Write) (lines : ℕ) (at after : Unread) → (front : HasRead default whole rest items writes) → lines ≡ min (length front.lines) most
    → (at ≡ unread.Memory) ⊎ ((g : BodyFault) × (at ≡ unread.Body g) × BreaksAt default rest g.line g.kind) → after ≡ after_lines lines at
    → (after ≡ unread.Memory) ⊎ ((f : BodyFault) × (after ≡ unread.Body f) × BreaksBody default whole f)
broken_after default whole rest items writes lines at after front counted (inl memory) is = inl (is ∙ ap (after_lines lines) memory)
broken_after default whole rest items writes lines at after front counted (inr breaks) is =
    let g = breaks.0 in
    inr (record { line = min (lines + g.line) most; kind = g.kind }, is ∙ ap (after_lines lines) breaks.1, broken_at default whole rest items writes lines g front counted breaks.2)

pub empty : (default : Option (List ℕ)) (whole rest : List ℕ) (items : List Item) (writes : List Write) (lines : ℕ) → (front : HasRead default whole rest items writes) → lines ≡ min (length front.lines) most
    → rest ≡ [] → items ≡ [] → BreaksBody default whole (record { line = lines; kind = body.Empty })
empty default whole rest items writes lines front counted ended none = record {
  rest = rest;
  items = items;
  writes = writes;
  front = front;
  place = 0;
  breaks = inr (ended, none, refl, refl);
  line = grind (arith, common_steps, counted);
}

pub nil_of : (bytes : List ℕ) → length bytes ≡ 0 → bytes ≡ []
nil_of [] e = refl
nil_of (b ∷ bytes) e = grind (arith, e)

pub none_of : (items : List Item) → length items ≡ 0 → items ≡ []
none_of [] e = refl
none_of (i ∷ items) e = grind (arith, e)
