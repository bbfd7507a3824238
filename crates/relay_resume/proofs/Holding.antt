-- What a text holds, and what follows its first operations.
use Rattle.std.proofs.Common.{◌≡◌, ℕ, ◌+◌, List, [], ◌∷◌, ◌++◌, Option, None, Some, refl, ap, ap₂, sym, ◌∙◌, subst, arith, append-nil}
use Rattle.relay_ndjson.specs.declared.kind.LineKind.{LineKind}
use Rattle.relay_ndjson.specs.Operations.{Operation, TakesOperation, line_count}
use Rattle.relay_ndjson.proofs.Exclusion.{no_end_at_fault, no_operation_at_end, no_operation_at_fault, one_fault}
use Rattle.relay_ndjson.proofs.Fronts.{some_same}
use Rattle.relay_ndjson.proofs.OneOperation.{one_operation}
use Rattle.relay_resume.specs.Contents.{Begins, End, EndsSo, FirstOnes, HoldOnce, HoldTheOthers, HoldTogether, LinesAreFirst, after_lines, lines_on}
use Rattle.relay_resume.proofs.Skipping.{begins_skips, skips_after}

-- no operation is at the front
abbrev NoMore : Option (List ℕ) → List ℕ → Type 0
NoMore default rest = (n : ℕ) (new : List ℕ) (op : Operation) → TakesOperation default (Some rest) (Some new) n op → ⊥

no_more : (default : Option (List ℕ)) (count : ℕ) (rest : List ℕ) (end : End) → EndsSo default count rest end → NoMore default rest
no_more default count rest None e = λ n new op t. no_operation_at_end default (Some new) rest n op t e
no_more default count rest (Some fault) e = λ n new op t. no_operation_at_fault default (Some new) rest n e.0 op fault.1 t e.1

-- ---- one list of operations

-- these come first, and these follow
record First (default : Option (List ℕ)) (rest : List ℕ) (ops all : List Operation) (count lines : ℕ) (end : List ℕ) : Type 0 where
  more : List Operation
  others : ℕ
  parts : all ≡ ops ++ more
  begins : Begins default rest more others end
  lines_is : lines ≡ count + others

first_none : (default : Option (List ℕ)) (text rest end : List ℕ) (all : List Operation) (count lines : ℕ) → count ≡ 0 → rest ≡ text → Begins default text all lines end → First default rest [] all count lines end
first_none default text rest end all count lines e same b = record {
  more = all;
  others = lines;
  parts = refl;
  begins = subst (λ (l : List ℕ). Begins default l all lines end) (sym same) b;
  lines_is = omega (arith, e);
}

begins_first : (default : Option (List ℕ)) (text rest end : List ℕ) (ops all : List Operation) (count lines : ℕ)
    → Begins default text ops count rest → Begins default text all lines end → NoMore default end → First default rest ops all count lines end
begins_first default text rest end [] all count lines b c n = first_none default text rest end all count lines b.0 b.1 c
begins_first default text rest end (op ∷ ops) [] count lines b c n =
    absurd (n b.0 b.1 op (subst (λ (l : List ℕ). TakesOperation default (Some l) (Some b.1) b.0 op) (sym c.1) b.3))
begins_first default text rest end (op ∷ ops) (next ∷ all) count lines b c n =
    let one = one_operation default (Some b.1) (Some c.1) text b.0 c.0 op next b.3 c.3 in
    let mid : b.1 ≡ c.1 = some_same b.1 c.1 one.0 in
    let rec = begins_first default c.1 rest end ops all b.2 c.2 (subst (λ (l : List ℕ). Begins default l ops b.2 rest) mid b.4) c.4 n in
    record {
      more = rec.more;
      others = rec.others;
      parts = ap₂ (λ (o : Operation) (os : List Operation). o ∷ os) (sym one.2) rec.parts;
      begins = rec.begins;
      lines_is =
          let e : b.0 ≡ c.0 = one.1 in
          let same : line_count op.1 ≡ line_count next.1 = ap (λ (o : Operation). line_count o.1) one.2 in
          let f = b.5 in let g = c.5 in let h = rec.lines_is in
          omega (arith, e, same, f, g, h);
    }

pub first_ones : FirstOnes
first_ones default text rest ops all count end b h =
    let f = begins_first default text rest h.rest ops all count h.count b h.begins (no_more default h.count h.rest end h.ends) in
    (f.more, f.parts)

-- the same operations have one number of lines, and one text follows them
pub one_count : (default : Option (List ℕ)) (text rest other : List ℕ) (ops : List Operation) (count lines : ℕ) → Begins default text ops count rest → Begins default text ops lines other → (count ≡ lines) × (rest ≡ other)
one_count default text rest other [] count lines b c = (b.0 ∙ sym c.0, b.1 ∙ sym c.1)
one_count default text rest other (op ∷ ops) count lines b c =
    let one = one_operation default (Some b.1) (Some c.1) text b.0 c.0 op op b.3 c.3 in
    let rec = one_count default c.1 rest other ops b.2 c.2 (subst (λ (l : List ℕ). Begins default l ops b.2 rest) (some_same b.1 c.1 one.0) b.4) c.4 in
    (let e = one.1 in let f = b.5 in let g = c.5 in let h = rec.0 in omega (arith, e, f, g, h), rec.1)

none_more : (default : Option (List ℕ)) (rest end : List ℕ) (more : List Operation) (others : ℕ) → NoMore default rest → Begins default rest more others end → (more ≡ []) × (others ≡ 0) × (end ≡ rest)
none_more default rest end [] others n b = (refl, b.0, b.1)
none_more default rest end (op ∷ more) others n b = absurd (n b.0 b.1 op b.3)

one_end : (default : Option (List ℕ)) (count : ℕ) (rest : List ℕ) (end other : End) → EndsSo default count rest end → EndsSo default count rest other → end ≡ other
one_end default count rest None None a b = refl
one_end default count rest None (Some fault) a b = absurd (no_end_at_fault default rest b.0 fault.1 a b.1)
one_end default count rest (Some fault) None a b = absurd (no_end_at_fault default rest a.0 fault.1 b a.1)
one_end default count rest (Some fault) (Some other) a b =
    let one = one_fault default rest a.0 b.0 fault.1 other.1 a.1 b.1 in
    let at : fault.0 ≡ other.0 = (let e = one.0 in let f = a.2 in let g = b.2 in omega (arith, e, f, g)) in
    ap₂ (λ (n : ℕ) (k : LineKind). Some (n, k)) at one.1

pub hold_once : HoldOnce
hold_once default text ops others end other a b =
    let f = begins_first default text a.rest b.rest ops others a.count b.count a.begins b.begins (no_more default b.count b.rest other b.ends) in
    let none = none_more default a.rest b.rest f.more f.others (no_more default a.count a.rest end a.ends) f.begins in
    let count : b.count ≡ a.count = (let e = f.lines_is in let z = none.1 in omega (arith, e, z)) in
    let ends = subst (λ (n : ℕ). EndsSo default n a.rest other) count (subst (λ (l : List ℕ). EndsSo default b.count l other) none.2 b.ends) in
    (sym (f.parts ∙ (ap (λ l. ops ++ l) none.0 ∙ append-nil ops)), one_end default a.count a.rest end other a.ends ends)

-- ---- what follows

pub lines_are_first : LinesAreFirst
lines_are_first default text rest ops count b = skips_after count text rest (begins_skips default text ops count rest b)

-- the first operations, and the others behind them
record Split (default : Option (List ℕ)) (text : List ℕ) (done later : List Operation) (lines : ℕ) (end : List ℕ) : Type 0 where
  count : ℕ
  mid : List ℕ
  others : ℕ
  first : Begins default text done count mid
  then_on : Begins default mid later others end
  lines_is : lines ≡ count + others

split : (default : Option (List ℕ)) (text end : List ℕ) (done later : List Operation) (lines : ℕ) → Begins default text (done ++ later) lines end → Split default text done later lines end
split default text end [] later lines b = record { count = 0; mid = text; others = lines; first = (refl, refl); then_on = b; lines_is = omega arith }
split default text end (op ∷ done) later lines b =
    let s = split default b.1 end done later b.2 b.4 in
    record {
      count = b.0 + line_count op.1 + s.count;
      mid = s.mid;
      others = s.others;
      first = (b.0, b.1, s.count, b.3, s.first, refl);
      then_on = s.then_on;
      lines_is = let e = b.5 in let f = s.lines_is in omega (arith, e, f);
    }

begins_counted : (default : Option (List ℕ)) (text rest : List ℕ) (ops : List Operation) (count lines : ℕ) → count ≡ lines → Begins default text ops count rest → Begins default text ops lines rest
begins_counted default text rest ops count lines e b = subst (λ (n : ℕ). Begins default text ops n rest) e b

pub begins_together : (default : Option (List ℕ)) (text mid end : List ℕ) (done later : List Operation) (count others : ℕ) → Begins default text done count mid → Begins default mid later others end → Begins default text (done ++ later) (count + others) end
begins_together default text mid end [] later count others b c =
    begins_counted default text end later others (count + others) (let e = b.0 in omega (arith, e)) (subst (λ (l : List ℕ). Begins default l later others end) b.1 c)
begins_together default text mid end (op ∷ done) later count others b c =
    (b.0, b.1, b.2 + others, b.3, begins_together default b.1 mid end done later b.2 others b.4 c, let e = b.5 in omega (arith, e))

record Ahead (default : Option (List ℕ)) (count others : ℕ) (rest : List ℕ) (end : End) : Type 0 where
  there : End
  ends : EndsSo default others rest there
  on : end ≡ lines_on count there

ends_ahead : (default : Option (List ℕ)) (count others lines : ℕ) (rest : List ℕ) (end : End) → lines ≡ count + others → EndsSo default lines rest end → Ahead default count others rest end
ends_ahead default count others lines rest None e a = record { there = None; ends = a; on = refl }
ends_ahead default count others lines rest (Some fault) e a = record {
  there = Some (others + a.0, fault.1);
  ends = (a.0, a.1, refl);
  on = ap (λ (n : ℕ). Some (n, fault.1)) (let f = a.2 in omega (arith, e, f));
}

ends_behind : (default : Option (List ℕ)) (count others : ℕ) (rest : List ℕ) (end : End) → EndsSo default others rest end → EndsSo default (count + others) rest (lines_on count end)
ends_behind default count others rest None a = a
ends_behind default count others rest (Some fault) a = (a.0, a.1, let f = a.2 in omega (arith, f))

pub begins_after : (default : Option (List ℕ)) (text mid : List ℕ) (ops : List Operation) (count : ℕ) → Begins default text ops count mid → Begins default text ops count (after_lines count text)
begins_after default text mid ops count b = subst (λ (l : List ℕ). Begins default text ops count l) (lines_are_first default text mid ops count b) b

pub hold_the_others : HoldTheOthers
hold_the_others default text done later end h =
    let s = split default text h.rest done later h.count h.begins in
    let same = lines_are_first default text s.mid done s.count s.first in
    let a = ends_ahead default s.count s.others h.count h.rest end s.lines_is h.ends in
    record {
      count = s.count;
      there = a.there;
      begins = begins_after default text s.mid done s.count s.first;
      holds = record { count = s.others; rest = h.rest; begins = subst (λ (l : List ℕ). Begins default l later s.others h.rest) same s.then_on; ends = a.ends };
      ends = a.on;
    }

pub hold_together : HoldTogether
hold_together default text done later count end b h = record {
  count = count + h.count;
  rest = h.rest;
  begins = begins_together default text (after_lines count text) h.rest done later count h.count b h.begins;
  ends = ends_behind default count h.count h.rest end h.ends;
}
