-- The first portion of lines.
use Rattle.std.proofs.Common.{◌≡◌, ℕ, zero, suc, ◌+◌, ◌-◌, ◌≤◌, List, [], ◌∷◌, ◌++◌, length, take, drop, Bool, true, false, Option, Some, option_map, subst, refl, ap, sym, ◌∙◌, arith, inl, inr, flat_map, unwrap_or}
use Rattle.std.proofs.lemmas.Grind.{common_steps}
use Rattle.relay_action.specs.Streams.{one_more}
use Rattle.relay_ndjson.specs.Metadata.{line_fault, source_line_fault}
use Rattle.relay_ndjson.specs.declared.kind.InputFault.{InputFault}
use Rattle.relay_ndjson.specs.declared.kind.LineKind.{LineKind}
use Rattle.relay_ndjson.specs.declared.kind.LineKind.TheVariants as kind
use Rattle.relay_sift.specs.declared.asking.Extent.TheVariants as extent
use Rattle.relay_sift.specs.declared.lines.FirstLine.{FirstLine}
use Rattle.relay_sift.specs.declared.lines.FirstLine.TheVariants as first
use Rattle.relay_sift.specs.declared.front.Judged.TheVariants as judged
use Rattle.relay_sift.specs.declared.front.Front.TheVariants as front
use Rattle.relay_sift.specs.Texts.{lines_of, line_text, is_long}
use Rattle.relay_sift.specs.Portions.{extent_of_text, extent_of_line, fault_at, first_fault, lost_fault, alone, pair, unfinished, lost, portions}
use Rattle.relay_sift.specs.Fronts.{IsFirst, IsFront, Judges}
use Rattle.relay_sift.proofs.FirstLines.{joined}

-- ---- by the first line

portions_lost : (d : Option (List ℕ)) (n : ℕ) (line : List ℕ) (lines : List (List ℕ)) → extent_of_line line ≡ extent.Lost → portions d n (line ∷ lines) ≡ lost d n line lines
portions_lost d n line [] e = rw e refl
portions_lost d n line (m ∷ ls) e = rw e refl

portions_one : (d : Option (List ℕ)) (n : ℕ) (line : List ℕ) (lines : List (List ℕ)) → extent_of_line line ≡ extent.One → portions d n (line ∷ lines) ≡ alone d n line ∷ portions d (one_more n) lines
portions_one d n line [] e = rw e refl
portions_one d n line (m ∷ ls) e = rw e refl

portions_two : (d : Option (List ℕ)) (n : ℕ) (line source : List ℕ) (lines : List (List ℕ)) → extent_of_line line ≡ extent.Two → is_long source ≡ false → portions d n (line ∷ source ∷ lines) ≡ pair d n line source ∷ portions d (one_more (one_more n)) lines
portions_two d n line source lines e s = rw (e, s) refl

portions_two_long : (d : Option (List ℕ)) (n : ℕ) (line source : List ℕ) (lines : List (List ℕ)) → extent_of_line line ≡ extent.Two → is_long source ≡ true → portions d n (line ∷ source ∷ lines) ≡ lost d n line (source ∷ lines)
portions_two_long d n line source lines e s = rw (e, s) refl

portions_open : (d : Option (List ℕ)) (n : ℕ) (line : List ℕ) → extent_of_line line ≡ extent.Two → portions d n (line ∷ []) ≡ unfinished d n line ∷ []
portions_open d n line e = rw e refl

-- what cannot be told apart is the whole text
lost_text : (d : Option (List ℕ)) (n : ℕ) (text line : List ℕ) (lines : List (List ℕ)) (fault : InputFault) → lines_of text ≡ line ∷ lines → lost_fault d (one_more n) line ≡ fault
    → lost d n line lines ≡ record { line = one_more n; first = line; bytes = text; fault = Some fault; told = false } ∷ []
lost_text d n text line lines fault e f =
    let bytes : line ++ flat_map (λ (l : List ℕ). l) lines ≡ text = ap (flat_map (λ (l : List ℕ). l)) (sym e) ∙ joined text in
    ap (λ (b : List ℕ). record { line = one_more n; first = line; bytes = b; fault = Some (lost_fault d (one_more n) line); told = false } ∷ []) bytes
    ∙ ap (λ (x : InputFault). record { line = one_more n; first = line; bytes = text; fault = Some x; told = false } ∷ []) f

extent_short : (line : List ℕ) → is_long line ≡ false → extent_of_line line ≡ extent_of_text (line_text line)
extent_short line s = rw s refl

long_fault : (d : Option (List ℕ)) (n : ℕ) (line : List ℕ) → is_long line ≡ true → lost_fault d n line ≡ fault_at n kind.LineLong
long_fault d n line s = rw s refl

own_lost : (d : Option (List ℕ)) (n : ℕ) (line : List ℕ) (own : Option LineKind) → is_long line ≡ false → own ≡ line_fault d (line_text line)
    → lost_fault d n line ≡ unwrap_or (option_map (λ (k : LineKind). fault_at n k) own) (fault_at (one_more n) kind.LineLong)
own_lost d n line own s e = rw s (ap (λ (o : Option LineKind). unwrap_or (option_map (λ (k : LineKind). fault_at n k) o) (fault_at (one_more n) kind.LineLong)) (sym e))

-- ---- the front

pub front_long : (d : Option (List ℕ)) (n : ℕ) (bytes : List ℕ) (ended : Bool) → IsFirst bytes ended first.Long → IsFront d n bytes ended (front.Rest 0 (fault_at (one_more n) kind.LineLong))
front_long d n bytes ended f = λ later over.
    let b = f later over in
    let long = b.3 in
    let e : extent_of_line b.0 ≡ extent.Lost = rw long refl in record {
      first = b.0;
      within = omega arith;
      is = ap (portions d n) b.2 ∙ (portions_lost d n b.0 b.1 e ∙ lost_text d n (bytes ++ later) b.0 b.1 (fault_at (one_more n) kind.LineLong) b.2 (long_fault d (one_more n) b.0 long));
      line = inr refl;
    }

pub front_absent : (d : Option (List ℕ)) (n : ℕ) (bytes : List ℕ) (ended : Bool) → IsFirst bytes ended first.Absent → IsFront d n bytes ended front.Absent
front_absent d n bytes ended f = f

pub front_lost : (d : Option (List ℕ)) (n : ℕ) (bytes : List ℕ) (ended : Bool) (end : ℕ) (k : LineKind) → IsFirst bytes ended (first.Whole end) → Judges d (line_text (take end bytes)) (judged.Lost k) → IsFront d n bytes ended (front.Rest end (fault_at (one_more n) k))
front_lost d n bytes ended end k f j = λ later over.
    let b = f later over in
    let e = extent_short (take end bytes) b.3 ∙ j.0 in
    let fault = own_lost d (one_more n) (take end bytes) (Some k) b.3 (sym j.1) in record {
      first = take end bytes;
      within = b.1;
      is = ap (portions d n) b.2 ∙ (portions_lost d n (take end bytes) _ e ∙ lost_text d n (bytes ++ later) (take end bytes) _ (fault_at (one_more n) k) b.2 fault);
      line = inl refl;
    }

pub front_alone : (d : Option (List ℕ)) (n : ℕ) (bytes : List ℕ) (ended : Bool) (end : ℕ) (own : Option LineKind) → IsFirst bytes ended (first.Whole end) → Judges d (line_text (take end bytes)) (judged.Alone own) → IsFront d n bytes ended (front.Portion end end (one_more n) (option_map (λ (k : LineKind). fault_at (one_more n) k) own))
front_alone d n bytes ended end own f j = λ later over.
    let b = f later over in
    let e = extent_short (take end bytes) b.3 ∙ j.0 in
    let own_is = j.1 in (
      b.1,
      ap (portions d n) b.2 ∙ (portions_one d n (take end bytes) _ e
          ∙ ap (λ (o : Option LineKind). record { line = one_more n; first = take end bytes; bytes = take end bytes; fault = option_map (λ (k : LineKind). fault_at (one_more n) k) o; told = true } ∷ portions d (one_more n) (lines_of (drop end bytes ++ later))) (sym own_is)),
      omega arith,
    )

take_plus : (n m : ℕ) (xs : List ℕ) → take n xs ++ take m (drop n xs) ≡ take (n + m) xs
take_plus zero m xs = let e : 0 + m ≡ m = omega arith in sym (ap (λ k. take k xs) e)
take_plus (suc n) m [] = grind (arith, common_steps)
take_plus (suc n) m (x ∷ xs) = let e : suc n + m ≡ suc (n + m) = omega arith in ap (λ r. x ∷ r) (take_plus n m xs) ∙ sym (ap (λ k. take k (x ∷ xs)) e)

drop_plus : (n m : ℕ) (xs : List ℕ) → drop m (drop n xs) ≡ drop (n + m) xs
drop_plus n m xs = grind (arith, common_steps)

pub drop_length : (n : ℕ) (xs : List ℕ) → n ≤ length xs → length (drop n xs) + n ≡ length xs
drop_length n xs h = grind (arith, common_steps)

pub front_source_long : (d : Option (List ℕ)) (n : ℕ) (bytes : List ℕ) (ended : Bool) (end : ℕ) (own : Option LineKind) → IsFirst bytes ended (first.Whole end) → Judges d (line_text (take end bytes)) (judged.Pair own) → IsFirst (drop end bytes) ended first.Long
    → IsFront d n bytes ended (front.Rest end (unwrap_or (option_map (λ (k : LineKind). fault_at (one_more n) k) own) (fault_at (one_more (one_more n)) kind.LineLong)))
front_source_long d n bytes ended end own f j g = λ later over.
    let b = f later over in
    let c = g later over in
    let e = extent_short (take end bytes) b.3 ∙ j.0 in
    let lines : lines_of (bytes ++ later) ≡ take end bytes ∷ c.0 ∷ c.1 = b.2 ∙ ap (λ (ls : List (List ℕ)). take end bytes ∷ ls) c.2 in
    let fault = own_lost d (one_more n) (take end bytes) own b.3 j.1 in record {
      first = take end bytes;
      within = b.1;
      is = ap (portions d n) lines ∙ (portions_two_long d n (take end bytes) c.0 c.1 e c.3 ∙ lost_text d n (bytes ++ later) (take end bytes) (c.0 ∷ c.1) _ lines fault);
      line = inl refl;
    }

pub front_open : (d : Option (List ℕ)) (n : ℕ) (bytes : List ℕ) (ended : Bool) (end : ℕ) (own : Option LineKind) (fault : Option InputFault) → IsFirst bytes ended (first.Whole end) → Judges d (line_text (take end bytes)) (judged.Pair own) → IsFirst (drop end bytes) ended first.Absent
    → fault ≡ first_fault (option_map (λ (k : LineKind). fault_at (one_more n) k) own) (Some (fault_at (one_more n) kind.SourceMissing)) → IsFront d n bytes ended (front.Portion end end (one_more n) fault)
front_open d n bytes ended end own fault f j g is = λ later over.
    let b = f later over in
    let c = g later over in
    let e = extent_short (take end bytes) b.3 ∙ j.0 in
    let none : lines_of (drop end bytes ++ later) ≡ [] = ap (λ (x : List ℕ). lines_of (x ++ later)) c.0 ∙ ap lines_of c.1 in
    let lines : lines_of (bytes ++ later) ≡ take end bytes ∷ [] = b.2 ∙ ap (λ (ls : List (List ℕ)). take end bytes ∷ ls) none in
    let named : fault ≡ first_fault (option_map (fault_at (one_more n)) (line_fault d (line_text (take end bytes)))) (Some (fault_at (one_more n) kind.SourceMissing)) =
    is ∙ ap (λ (o : Option LineKind). first_fault (option_map (λ (k : LineKind). fault_at (one_more n) k) o) (Some (fault_at (one_more n) kind.SourceMissing))) j.1 in (
      b.1,
      ap (portions d n) lines ∙ (portions_open d n (take end bytes) e
          ∙ (ap (λ (o : Option InputFault). record { line = one_more n; first = take end bytes; bytes = take end bytes; fault = o; told = true } ∷ []) (sym named)
          ∙ ap (λ (ls : List (List ℕ)). record { line = one_more n; first = take end bytes; bytes = take end bytes; fault = fault; told = true } ∷ portions d (one_more n) ls) (sym none))),
      omega arith,
    )

pub front_pair : (d : Option (List ℕ)) (n : ℕ) (bytes : List ℕ) (ended : Bool) (end more : ℕ) (own other : Option LineKind) (fault : Option InputFault) → end ≤ length bytes → IsFirst bytes ended (first.Whole end) → Judges d (line_text (take end bytes)) (judged.Pair own) → IsFirst (drop end bytes) ended (first.Whole more)
    → other ≡ source_line_fault (line_text (take more (drop end bytes)))
    → fault ≡ first_fault (option_map (λ (k : LineKind). fault_at (one_more n) k) own) (option_map (λ (k : LineKind). fault_at (one_more (one_more n)) k) other) → IsFront d n bytes ended (front.Portion end (end + more) (one_more (one_more n)) fault)
front_pair d n bytes ended end more own other fault high f j g o is = λ later over.
    let b = f later over in
    let c = g later over in
    let e = extent_short (take end bytes) b.3 ∙ j.0 in
    let source = take more (drop end bytes) in
    let lines : lines_of (bytes ++ later) ≡ take end bytes ∷ source ∷ lines_of (drop more (drop end bytes) ++ later) = b.2 ∙ ap (λ (ls : List (List ℕ)). take end bytes ∷ ls) c.2 in
    let named : fault ≡ (pair d n (take end bytes) source).fault =
    is ∙ (ap (λ (x : Option LineKind). first_fault (option_map (λ (k : LineKind). fault_at (one_more n) k) x) (option_map (λ (k : LineKind). fault_at (one_more (one_more n)) k) other)) j.1
    ∙ ap (λ (x : Option LineKind). first_fault (option_map (fault_at (one_more n)) (line_fault d (line_text (take end bytes)))) (option_map (λ (k : LineKind). fault_at (one_more (one_more n)) k) x)) o) in
    let within = drop_length end bytes high in (
      omega (arith, c.1, within),
      ap (portions d n) lines ∙ (portions_two d n (take end bytes) source (lines_of (drop more (drop end bytes) ++ later)) e c.3
          ∙ (ap (λ (x : List ℕ). record { line = one_more n; first = take end bytes; bytes = x; fault = (pair d n (take end bytes) source).fault; told = true } ∷ portions d (one_more (one_more n)) (lines_of (drop more (drop end bytes) ++ later))) (take_plus end more bytes)
          ∙ (ap (λ (x : Option InputFault). record { line = one_more n; first = take end bytes; bytes = take (end + more) bytes; fault = x; told = true } ∷ portions d (one_more (one_more n)) (lines_of (drop more (drop end bytes) ++ later))) (sym named)
          ∙ ap (λ (x : List ℕ). record { line = one_more n; first = take end bytes; bytes = take (end + more) bytes; fault = fault; told = true } ∷ portions d (one_more (one_more n)) (lines_of (x ++ later))) (drop_plus end more bytes)))),
      omega arith,
    )

-- ---- within the bytes

pub first_within : (bytes : List ℕ) (ended : Bool) (end : ℕ) → IsFirst bytes ended (first.Whole end) → end ≤ length bytes
first_within bytes ended end f = (f [] (λ h. refl)).1

pub taken_length : (n : ℕ) (xs : List ℕ) → n ≤ length xs → n ≡ length (take n xs)
taken_length n xs h = grind (arith, common_steps)

pub second_within : (bytes : List ℕ) (ended : Bool) (end source : ℕ) → end ≤ length bytes → IsFirst (drop end bytes) ended (first.Whole source) → end + source ≤ length bytes
second_within bytes ended end source h f =
    let w = first_within (drop end bytes) ended source f in
    let d = drop_length end bytes h in omega (arith, w, d)

take_all : (n : ℕ) (xs : List ℕ) → n ≡ length xs → take n xs ≡ xs
take_all n xs e = grind (arith, common_steps)

pub rest_slice : (n : ℕ) (xs : List ℕ) → n ≤ length xs → take (length xs - n) (drop n xs) ≡ drop n xs
rest_slice n xs h =
    let d = drop_length n xs h in
    let size : length xs - n ≡ length (drop n xs) = omega (arith, d) in take_all (length xs - n) (drop n xs) size

-- the bytes after a place, as a slice has them
pub at_rest : (bytes : List ℕ) (ended : Bool) (end : ℕ) (r : FirstLine) → end ≤ length bytes → IsFirst (take (length bytes - end) (drop end bytes)) ended r → IsFirst (drop end bytes) ended r
at_rest bytes ended end r h f =
    let d = drop_length end bytes h in
    let n : length bytes - end ≡ length (drop end bytes) = omega (arith, d) in
    subst (λ (b : List ℕ). IsFirst b ended r) (take_all (length bytes - end) (drop end bytes) n) f
