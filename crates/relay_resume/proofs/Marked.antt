-- The mark after operations of an input, and what is read from it on.
use Rattle.std.proofs.Common.{◌≡◌, ℕ, suc, ◌+◌, ◌-◌, ◌<◌, ◌≤◌, ◌^◌, List, [], ◌∷◌, ◌++◌, length, drop, Option, None, Some, refl, ap, sym, ◌∙◌, subst, arith, append_assoc, append-nil, length-append, length-drop}
use Rattle.std.proofs.lemmas.List.{drop-drop}
use Rattle.relay_ndjson.specs.Operations.{Operation, UsesBytes, line_count}
use Rattle.relay_ndjson.specs.Reading.{Reading, fresh}
use Rattle.relay_words.specs.Taken.{TakesAll}
use Rattle.relay_action.specs.declared.action.Action.{Action}
use Rattle.relay_action.specs.declared.action.Action.TheVariants.{Index, Delete}
use Rattle.relay_resume.specs.declared.mark.Mark.{Mark}
use Rattle.relay_resume.specs.declared.mark.Place.{Place}
use Rattle.relay_resume.specs.Contents.{Begins, End, Holds, after_lines, lines_on}
use Rattle.relay_resume.specs.Places.{place_after, place_behind}
use Rattle.relay_resume.specs.GoingOn.{ArePlaces, ComesAfter, HistoriesComeAfter, HoldFromMarks, HoldWithMarks, LiesIn, MarksChain, MarksComeAfter, ReadersKnowPlaces, text_from}
use Rattle.relay_resume.specs.Lines.{lines_length}
use Rattle.relay_resume.specs.Trails.{AreSettled, after, after_one}
use Rattle.relay_resume.proofs.Holding.{begins_together, hold_the_others, hold_together, lines_are_first, one_count}
use Rattle.relay_resume.proofs.Followed.{read_first}
use Rattle.relay_ndjson.proofs.Fronts.{some_same}
use Rattle.relay_resume.proofs.Skipping.{Skips, begins_skips, operation_shows}

line_some : (a : Action) → 1 ≤ line_count a
line_some (Index source) = omega arith
line_some Delete = omega arith

-- each operation has a line
pub as_many : (default : Option (List ℕ)) (text : List ℕ) (ops : List Operation) (count : ℕ) (rest : List ℕ) → Begins default text ops count rest → length ops ≤ count
as_many default text [] count rest b = omega arith
as_many default text (op ∷ ops) count rest b =
    let more = as_many default b.1 ops b.2 rest b.4 in
    let some = line_some op.1 in
    let e = b.5 in
    omega (arith, more, some, e)

-- the mark after the first operations
record IsAt (default : Option (List ℕ)) (start : Mark) (text : List ℕ) (first : List Operation) (before : ℕ) (rest : List ℕ) (m : Mark) : Type 0 where
  begins : Begins default text first before rest
  offset : m.offset ≡ start.offset + lines_length before text
  line : m.line ≡ start.line + before
  count : m.count ≡ start.count + length first

-- the numbers in it are those of a mark that lies in the input
record Fits (start : Mark) (text : List ℕ) : Type 0 where
  size : start.offset + length text < 2 ^ 64
  line : start.line ≤ start.offset
  count : start.count ≤ start.line

lines_size : (count : ℕ) (old new : List ℕ) → Skips count old new → (count ≤ lines_length count old) × (lines_length count old ≤ length old)
lines_size count old new s =
    let a : lines_length (count + 0) old ≡ lines_length count old = ap (λ k. lines_length k old) (let e : count + 0 ≡ count = omega arith in e) in
    let b = s.lines 0 in
    let size = ap length s.parts ∙ length-append s.bytes new in
    let low = s.some in
    (omega (arith, a, b, low), omega (arith, a, b, size))

-- one more operation
one_on : (default : Option (List ℕ)) (start : Mark) (text : List ℕ) (first : List Operation) (before : ℕ) (rest : List ℕ) (m : Mark) (op : Operation) (n : ℕ) (mid : List ℕ) (p : Place)
    → Fits start text → IsAt default start text first before rest m → Begins default rest (op ∷ []) (n + line_count op.1) mid
    → p ≡ place_after start (before + n + line_count op.1) text → IsAt default start text (first ++ op ∷ []) (before + n + line_count op.1) mid (after_one m p)
one_on default start text first before rest m op n mid p f a b e =
    let joined = begins_together default text rest mid first (op ∷ []) before (n + line_count op.1) a.begins b in
    let here : before + (n + line_count op.1) ≡ before + n + line_count op.1 = omega arith in
    let begins = subst (λ (k : ℕ). Begins default text (first ++ op ∷ []) k mid) here joined in
    let lines = before + n + line_count op.1 in
    let size = lines_size lines text mid (begins_skips default text (first ++ op ∷ []) lines mid begins) in
    let many = as_many default text (first ++ op ∷ []) lines mid begins in
    let more = length-append first (op ∷ []) in
    let low = f.size in let line = f.line in let count = f.count in
    let so_far = a.count in
    let s0 = size.0 in let s1 = size.1 in
    record {
      begins = begins;
      offset = ap (λ (q : Place). q.offset) e ∙ (omega (arith, low, s1));
      line = ap (λ (q : Place). q.line) e ∙ (omega (arith, low, line, s0, s1));
      count = omega (arith, so_far, more, many, low, line, count, s0, s1);
    }

places_at : (default : Option (List ℕ)) (start : Mark) (text : List ℕ) (first : List Operation) (before : ℕ) (rest : List ℕ) (m : Mark) (ops : List Operation) (places : List Place)
    → Fits start text → IsAt default start text first before rest m → ArePlaces default start text before rest ops places
    → (lines : ℕ) × (end : List ℕ) × IsAt default start text (first ++ ops) lines end (after m places)
places_at default start text first before rest m [] places f a p =
    (before, rest, subst (λ (os : List Operation). IsAt default start text os before rest (after m places)) (sym (append-nil first)) (subst (λ (ps : List Place). IsAt default start text first before rest (after m ps)) (sym p) a))
places_at default start text first before rest m (op ∷ ops) [] f a p = absurd p
places_at default start text first before rest m (op ∷ ops) (end ∷ places) f a p =
    let one : Begins default rest (op ∷ []) (p.0 + line_count op.1) p.1 = (p.0, p.1, 0, p.2, (refl, refl), omega arith) in
    let next = one_on default start text first before rest m op p.0 p.1 end f a one p.3 in
    let rec = places_at default start text (first ++ op ∷ []) (before + p.0 + line_count op.1) p.1 (after_one m end) ops places f next p.4 in
    (rec.0, rec.1, subst (λ (os : List Operation). IsAt default start text os rec.0 rec.1 (after (after_one m end) places)) (append_assoc first (op ∷ []) ops) rec.2)

fits_of : (start : Mark) (input : List ℕ) → LiesIn start input → Fits start (text_from start input)
fits_of start input l =
    let size : length (text_from start input) ≡ length input - start.offset = length-drop start.offset input in
    let low = l.size in let off = l.offset in
    record { size = omega (arith, size, low, off); line = l.line; count = l.count }

at_mark : (default : Option (List ℕ)) (input : List ℕ) (start : Mark) (done : List Operation) (m : Mark) (lines : ℕ) (rest : List ℕ) → LiesIn start input → IsAt default start (text_from start input) done lines rest m → ComesAfter default input start done m
at_mark default input start done m lines rest l a =
    let text = text_from start input in
    let f = fits_of start input l in
    let size = lines_size lines text rest (begins_skips default text done lines rest a.begins) in
    let many = as_many default text done lines rest a.begins in
    let there : rest ≡ text_from m input =
    lines_are_first default text rest done lines a.begins ∙ (drop-drop (lines_length lines text) start.offset input ∙ ap (λ k. drop k input) (sym a.offset)) in
    let long : length text ≡ length input - start.offset = length-drop start.offset input in
    let off = a.offset in let line = a.line in let count = a.count in
    let o = l.offset in let n = l.line in let c = l.count in
    let s0 = size.0 in let s1 = size.1 in
    record {
      lines = lines;
      begins = subst (λ (r : List ℕ). Begins default text done lines r) there a.begins;
      line = a.line;
      count = a.count;
      lies = record {
        size = l.size;
        offset = omega (arith, off, o, long, s1);
        line = omega (arith, off, line, n, s0);
        count = omega (arith, line, count, c, many);
      };
    }

start_at : (default : Option (List ℕ)) (start : Mark) (text : List ℕ) → IsAt default start text [] 0 text start
start_at default start text = record { begins = (refl, refl); offset = omega arith; line = omega arith; count = omega arith }

pub marks_come_after : MarksComeAfter
marks_come_after default input start done places l p =
    let text = text_from start input in
    let a = places_at default start text [] 0 text start done places (fits_of start input l) (start_at default start text) p in
    at_mark default input start done (after start places) a.0 a.1 l a.2

-- ---- of a history

record PlacesOf (default : Option (List ℕ)) (start : Mark) (text : List ℕ) (before : ℕ) (rest : List ℕ) (ops : List Operation) (done : List Place) : Type 0 where
  first : List Operation
  others : List Operation
  parts : ops ≡ first ++ others
  many : length first ≡ length done
  places : ArePlaces default start text before rest first done

places_split : (default : Option (List ℕ)) (start : Mark) (text : List ℕ) (before : ℕ) (rest : List ℕ) (ops : List Operation) (done others : List Place) → ArePlaces default start text before rest ops (done ++ others) → PlacesOf default start text before rest ops done
places_split default start text before rest ops [] others p = record { first = []; others = ops; parts = refl; many = refl; places = refl }
places_split default start text before rest [] (d ∷ done) others p = absurd (let e : suc (length (done ++ others)) ≡ 0 = ap length p in omega (arith, e))
places_split default start text before rest (op ∷ ops) (d ∷ done) others p =
    let s = places_split default start text (before + p.0 + line_count op.1) p.1 ops done others p.4 in
    record {
      first = op ∷ s.first;
      others = s.others;
      parts = ap (λ (os : List Operation). op ∷ os) s.parts;
      many = ap suc s.many;
      places = (p.0, p.1, p.2, p.3, s.places);
    }

pub histories_come_after : HistoriesComeAfter
histories_come_after default input h ops m l p i =
    let text = text_from h.start input in
    let s = places_split default h.start text 0 text ops i.done i.rest (subst (λ (ps : List Place). ArePlaces default h.start text 0 text ops ps) i.puts p) in
    let c = marks_come_after default input h.start s.first i.done l s.places in
    record {
      done = s.first;
      later = s.others;
      parts = s.parts;
      settled = subst (λ (n : ℕ). AreSettled n h.settled) (sym s.many) i.settled;
      comes = subst (λ (q : Mark). ComesAfter default input h.start s.first q) (sym i.mark) c;
    }

-- ---- what follows

lines_twice : (before count whole : ℕ) (end : End) → whole ≡ before + count → lines_on before (lines_on count end) ≡ lines_on whole end
lines_twice before count whole None e = refl
lines_twice before count whole (Some fault) e = ap (λ (n : ℕ). Some (n, fault.1)) (omega (arith, e))

pub hold_from_marks : HoldFromMarks
hold_from_marks default input start m done later end c h =
    let text = text_from start input in
    let g = hold_the_others default text done later end h in
    let one = one_count default text (text_from m input) (after_lines g.count text) done c.lines g.count c.begins g.begins in
    record {
      there = g.there;
      holds = subst (λ (t : List ℕ). Holds default t later g.there) (sym one.1) g.holds;
      ends = ap (lines_on start.line) g.ends ∙ lines_twice start.line g.count m.line g.there (let e = one.0 in let f = c.line in omega (arith, e, f));
    }

pub hold_with_marks : HoldWithMarks
hold_with_marks default input start m done later there c h =
    let text = text_from start input in
    let same = lines_are_first default text (text_from m input) done c.lines c.begins in
    record {
      end = lines_on c.lines there;
      holds = hold_together default text done later c.lines there (subst (λ (r : List ℕ). Begins default text done c.lines r) same c.begins) (subst (λ (t : List ℕ). Holds default t later there) same h);
      ends = lines_twice start.line c.lines m.line there c.line;
    }

pub marks_chain : MarksChain
marks_chain default input start m last done later a b =
    let many = length-append done later in
    let l0 = a.line in let l1 = b.line in let c0 = a.count in let c1 = b.count in
    record {
      lines = a.lines + b.lines;
      begins = begins_together default (text_from start input) (text_from m input) (text_from last input) done later a.lines b.lines a.begins b.begins;
      line = omega (arith, l0, l1);
      count = omega (arith, c0, c1, many);
      lies = b.lies;
    }

-- ---- the places that a reader knows

-- how many bytes the first lines of a text have, if this follows them
pub lines_used : (count : ℕ) (text rest : List ℕ) → Skips count text rest → lines_length count text + length rest ≡ length text
lines_used count text rest s =
    let a : lines_length (count + 0) text ≡ lines_length count text = ap (λ k. lines_length k text) (let e : count + 0 ≡ count = omega arith in e) in
    let b = s.lines 0 in
    let size = ap length s.parts ∙ length-append s.bytes rest in
    omega (arith, a, b, size)

-- the bytes that were used, and what is left of the text, are all of it
pub used_more : (before after : ℕ) (text rest mid : List ℕ) → UsesBytes before after (Some rest) (Some mid) → before + length rest ≡ length text → length text < 2 ^ 64 → after + length mid ≡ length text
used_more before after text rest mid u e low =
    let size : length rest ≡ length u.0 + length mid = ap length (some_same rest (u.0 ++ mid) u.1) ∙ length-append u.0 mid in
    let is = u.2 in
    omega (arith, size, is, e, low)

used_all : (text rest : List ℕ) (old new : Reading) (ops : List Operation) → old.ahead ≡ Some rest → old.used + length rest ≡ length text → length text < 2 ^ 64 → TakesAll old new ops
    → (left : List ℕ) × (new.ahead ≡ Some left) × (new.used + length left ≡ length text)
used_all text rest old new [] a e low t = (rest, ap (λ (r : Reading). r.ahead) t ∙ a, (let s : new.used ≡ old.used = ap (λ (r : Reading). r.used) t in omega (arith, s, e)))
used_all text rest old new (op ∷ ops) a e low t =
    let s = operation_shows old.default old.ahead t.1.ahead t.0 op (rest, a) t.2.lines in
    let u = subst (λ (o : Option (List ℕ)). UsesBytes old.used t.1.used (Some rest) o) s.1 (subst (λ (o : Option (List ℕ)). UsesBytes old.used t.1.used o t.1.ahead) a t.2.used) in
    used_all text s.0 t.1 new ops s.1 (used_more old.used t.1.used text rest s.0 u e low) low t.3

pub readers_know_places : ReadersKnowPlaces
readers_know_places default start text failed new ops low t =
    let r = read_first default text failed new ops low t in
    let s = begins_skips default text ops new.count r.rest r.begins in
    let u = used_all text text (fresh (Some text) failed default) new ops refl (omega arith) low t in
    let same : length u.0 ≡ length r.rest = ap length (some_same u.0 r.rest (sym u.1 ∙ r.ahead)) in
    let lines = lines_used new.count text r.rest s in
    let used = u.2 in
    ap (place_behind start new.count) (omega (arith, same, lines, used))
