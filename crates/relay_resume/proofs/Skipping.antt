-- The lines that are taken from the front of a text, and what follows them.
use Rattle.std.proofs.Common.{◌≡◌, ℕ, zero, suc, ◌+◌, ◌≤◌, List, [], ◌∷◌, ◌++◌, length, drop, Option, Some, refl, ap, sym, ◌∙◌, subst, arith, inl, inr, append_assoc, append-nil, length-append}
use Rattle.std.proofs.Math.Seq.{drop-append_seam}
use Rattle.relay_action.specs.declared.action.Action.{Action}
use Rattle.relay_action.specs.declared.action.Action.TheVariants.{Index, Delete}
use Rattle.relay_action.specs.declared.key.DocKey.{DocKey}
use Rattle.relay_ndjson.specs.Lines.{IsLineBefore, IsUnbroken, TakesBlank, TakesText}
use Rattle.relay_ndjson.specs.Operations.{Operation, TakesAction, TakesOperation, line_count}
use Rattle.relay_ndjson.proofs.Fronts.{Shows, shows_on, some_same}
use Rattle.relay_ndjson.proofs.Exclusion.{shows_behind}
use Rattle.relay_resume.specs.Contents.{Begins, after_lines}
use Rattle.relay_resume.specs.Lines.{lines_length}
use Rattle.relay_resume.proofs.Lines.{open_length, unbroken_parts}

-- so many lines are at the front of a text, and this follows them
pub record Skips (count : ℕ) (old new : List ℕ) : Type 0 where
  pub bytes : List ℕ
  pub parts : old ≡ bytes ++ new
  pub lines : (more : ℕ) → lines_length (count + more) old ≡ length bytes + lines_length more new
  pub some : count ≤ length bytes

pub skips_none : (text : List ℕ) → Skips 0 text text
skips_none text = record {
  bytes = [];
  parts = refl;
  lines = λ more. ap (λ k. lines_length k text) (let e : 0 + more ≡ more = omega arith in e) ∙ (let e : lines_length more text ≡ 0 + lines_length more text = omega arith in e);
  some = omega arith;
}

pub skips_on : (n m : ℕ) (old mid new : List ℕ) → Skips n old mid → Skips m mid new → Skips (n + m) old new
skips_on n m old mid new s t =
    let size = length-append s.bytes t.bytes in
    record {
      bytes = s.bytes ++ t.bytes;
      parts = s.parts ∙ (ap (λ l. s.bytes ++ l) t.parts ∙ sym (append_assoc s.bytes t.bytes new));
      lines = λ more.
          let a : lines_length (n + m + more) old ≡ lines_length (n + (m + more)) old = ap (λ k. lines_length k old) (omega arith) in
          let b = s.lines (m + more) in
          let c = t.lines more in
          omega (arith, size, a, b, c);
      some = let a = s.some in let b = t.some in omega (arith, size, a, b);
    }

skips_same : (n m : ℕ) (old new : List ℕ) → n ≡ m → Skips n old new → Skips m old new
skips_same n m old new e s = subst (λ k. Skips k old new) e s

-- what follows them is what follows their bytes
pub skips_after : (count : ℕ) (old new : List ℕ) → Skips count old new → new ≡ after_lines count old
skips_after count old new s =
    let e : lines_length count old ≡ length s.bytes =
    (let a : lines_length (count + 0) old ≡ lines_length count old = ap (λ k. lines_length k old) (omega arith) in let b = s.lines 0 in omega (arith, a, b)) in
    sym (ap (λ k. drop k old) e ∙ (ap (drop (length s.bytes)) s.parts ∙ drop-append_seam s.bytes new))

pub skips_bound : (count : ℕ) (old new : List ℕ) → Skips count old new → count + length new ≤ length old
skips_bound count old new s =
    let size = ap length s.parts ∙ length-append s.bytes new in
    let low = s.some in
    omega (arith, size, low)

-- ---- one line

feed_line : (raw rest : List ℕ) (k : ℕ) → IsUnbroken raw → lines_length (suc k) (raw ++ 10 ∷ rest) ≡ length raw + 1 + lines_length k rest
feed_line [] rest k u = omega arith
feed_line (x ∷ xs) rest k u =
    let p = unbroken_parts x xs u in
    let f = p.0 in
    let more = feed_line xs rest k p.1 in
    rw f (omega (arith, more))

next_line : (k : ℕ) (old : List ℕ) → lines_length (1 + k) old ≡ lines_length (suc k) old
next_line k old = ap (λ (n : ℕ). lines_length n old) (let e : 1 + k ≡ suc k = omega arith in e)

line_skips : (bytes rest text : List ℕ) → IsLineBefore (Some rest) text bytes → Skips 1 (bytes ++ rest) rest
line_skips bytes rest text (inl l) =
    let whole : bytes ++ rest ≡ l.0 ++ 10 ∷ rest = ap (λ b. b ++ rest) l.4 ∙ append_assoc l.0 (10 ∷ []) rest in
    let size = ap length l.4 ∙ length-append l.0 (10 ∷ []) in
    record {
      bytes = bytes;
      parts = refl;
      lines = λ more.
          let a : lines_length (1 + more) (bytes ++ rest) ≡ lines_length (suc more) (l.0 ++ 10 ∷ rest) = ap (lines_length (1 + more)) whole ∙ next_line more (l.0 ++ 10 ∷ rest) in
          let b = feed_line l.0 rest more l.1 in
          omega (arith, size, a, b);
      some = omega (arith, size);
    }
line_skips bytes rest text (inr l) =
    let whole : bytes ++ rest ≡ text = ap (λ r. bytes ++ r) l.4 ∙ (append-nil bytes ∙ l.3) in
    let size = ap length l.3 in
    record {
      bytes = bytes;
      parts = refl;
      lines = λ more.
          let a : lines_length (1 + more) (bytes ++ rest) ≡ lines_length (suc more) text = ap (lines_length (1 + more)) whole ∙ next_line more text in
          let b = open_length more text l.0 in
          let c : lines_length more rest ≡ lines_length more [] = ap (lines_length more) l.4 in
          let d = none_left more in
          omega (arith, size, a, b, c, d);
      some = some_bytes text l.1 size;
    }
  where
    none_left : (k : ℕ) → lines_length k [] ≡ 0
    none_left zero = refl
    none_left (suc k) = refl

    some_bytes : (xs : List ℕ) → (xs ≡ [] → ⊥) → length bytes ≡ length xs → 1 ≤ length bytes
    some_bytes [] n e = absurd (n refl)
    some_bytes (x ∷ xs) n e = omega (arith, e)

pub text_skips : (old new text : List ℕ) → TakesText (Some old) (Some new) text → Skips 1 old new
text_skips old new text t = subst (λ (o : List ℕ). Skips 1 o new) (sym (some_same old (t.bytes ++ new) t.taken)) (line_skips t.bytes new text t.line)

-- ---- the lines of an operation

pub text_to : (old new mid : Option (List ℕ)) (text : List ℕ) → new ≡ mid → TakesText old new text → TakesText old mid text
text_to old new mid text e t = subst (λ (o : Option (List ℕ)). TakesText old o text) e t

pub text_at : (old mid new : Option (List ℕ)) (text : List ℕ) → old ≡ mid → TakesText old new text → TakesText mid new text
text_at old mid new text e t = subst (λ (o : Option (List ℕ)). TakesText o new text) e t

pub blank_skips : (n : ℕ) (old new : List ℕ) → TakesBlank n (Some old) (Some new) → Skips n old new
blank_skips zero old new t = subst (λ (l : List ℕ). Skips 0 old l) (some_same old new (sym t)) (skips_none old)
blank_skips (suc n) old new t =
    let s = shows_on (Some old) t.0 [] (old, refl) t.1 in
    let first = text_skips old s.0 [] (text_to (Some old) t.0 (Some s.0) [] s.1 t.1) in
    let others = blank_skips n s.0 new (subst (λ (o : Option (List ℕ)). TakesBlank n o (Some new)) s.1 t.2) in
    skips_same (1 + n) (suc n) old new (omega arith) (skips_on 1 n old s.0 new first others)

action_skips : (default : Option (List ℕ)) (old new : List ℕ) (k : DocKey) (a : Action) → TakesAction default (Some old) (Some new) k a → Skips (line_count a) old new
action_skips default old new k Delete t = text_skips old new t.0 t.1
action_skips default old new k (Index x) t =
    let s = shows_on (Some old) t.1 t.0 (old, refl) t.2 in
    skips_on 1 1 old s.0 new (text_skips old s.0 t.0 (text_to (Some old) t.1 (Some s.0) t.0 s.1 t.2)) (text_skips s.0 new x.text (text_at t.1 (Some s.0) (Some new) x.text s.1 t.4))

action_shows : (default old new : Option (List ℕ)) (k : DocKey) (a : Action) → Shows old → TakesAction default old new k a → Shows new
action_shows default old new k Delete s t = shows_on old new t.0 s t.1
action_shows default old new k (Index x) s t = shows_on t.1 new x.text (shows_on old t.1 t.0 s t.2) t.4

pub operation_shows : (default old new : Option (List ℕ)) (n : ℕ) (op : Operation) → Shows old → TakesOperation default old new n op → Shows new
operation_shows default old new n op s t = action_shows default t.0 new op.0 op.1 (shows_behind n old t.0 s t.2) t.3

pub operation_skips : (default : Option (List ℕ)) (old new : List ℕ) (n : ℕ) (op : Operation) → TakesOperation default (Some old) (Some new) n op → Skips (n + line_count op.1) old new
operation_skips default old new n op t =
    let s = shows_behind n (Some old) t.0 (old, refl) t.2 in
    let blank = subst (λ (o : Option (List ℕ)). TakesBlank n (Some old) o) s.1 t.2 in
    let act = subst (λ (o : Option (List ℕ)). TakesAction default o (Some new) op.0 op.1) s.1 t.3 in
    skips_on n (line_count op.1) old s.0 new (blank_skips n old s.0 blank) (action_skips default s.0 new op.0 op.1 act)

pub begins_skips : (default : Option (List ℕ)) (text : List ℕ) (ops : List Operation) (count : ℕ) (rest : List ℕ) → Begins default text ops count rest → Skips count text rest
begins_skips default text [] count rest b =
    skips_same 0 count text rest (sym b.0) (subst (λ (l : List ℕ). Skips 0 text l) (sym b.1) (skips_none text))
begins_skips default text (op ∷ ops) count rest b =
    skips_same (b.0 + line_count op.1 + b.2) count text rest (sym b.5)
    (skips_on (b.0 + line_count op.1) b.2 text b.1 rest (operation_skips default text b.1 b.0 op b.3) (begins_skips default b.1 ops b.2 rest b.4))
