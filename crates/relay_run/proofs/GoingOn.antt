-- What a run read before a mark, and what a run is fed that goes on there.
use Rattle.std.proofs.Common.{◌≡◌, ℕ, suc, ◌+◌, ◌-◌, ◌<◌, ◌≤◌, ◌^◌, List, [], ◌∷◌, ◌++◌, length, drop, map, Option, None, Some, Result, Ok, Err, refl, ap, ap₂, sym, ◌∙◌, subst, arith, inl, inr, append_assoc, append-nil, length-drop}
use Rattle.std.proofs.lemmas.List.{append_cancel_left}
use Rattle.relay_action.specs.declared.action.Action.{Action}
use Rattle.relay_action.specs.declared.action.Action.TheVariants.{Index, Delete}
use Rattle.relay_action.specs.declared.operation.OpName.{OpName}
use Rattle.relay_ndjson.specs.declared.kind.InputFault.{InputFault}
use Rattle.relay_ndjson.specs.Operations.{Operation, TakesOperation, UsesBytes, line_count, saturating_count}
use Rattle.relay_ndjson.specs.Reading.{Ends, Fails, Reading, Takes, fresh}
use Rattle.relay_words.specs.Taken.{TakesAll}
use Rattle.relay_producer.specs.States.{ProducerState}
use Rattle.relay_resume.specs.declared.mark.Mark.{Mark}
use Rattle.relay_resume.specs.declared.mark.Place.{Place}
use Rattle.relay_resume.specs.Contents.{End, Holds, after_lines, lines_on}
use Rattle.relay_resume.specs.GoingOn.{ArePlaces, ComesAfter, LiesIn, text_from}
use Rattle.relay_resume.specs.Lines.{lines_length}
use Rattle.relay_resume.specs.Places.{place_after, place_behind}
use Rattle.relay_resume.proofs.Followed.{fault_some, read_from_the_front, read_to_the_end, read_to_the_fault}
use Rattle.relay_resume.proofs.Holding.{begins_after, begins_together, first_ones, hold_once}
use Rattle.relay_resume.proofs.Marked.{as_many, hold_with_marks, lines_used, marks_come_after, used_more}
use Rattle.relay_resume.proofs.Skipping.{Skips, begins_skips, operation_shows, operation_skips, skips_bound, skips_none, skips_on}
use Rattle.relay_common.specs.Putting.{after_puts, named_ops}
use Rattle.relay_run.specs.declared.feed.FeedFault.{FeedFault}
use Rattle.relay_run.specs.declared.feed.FeedFault.TheVariants as fault
use Rattle.relay_run.specs.Feeding.{Stops, end_of, ends_of, last_line, refused_end}
use Rattle.relay_run.specs.GoingOn.{PlacesDivide, RunsGoOn, RunsTogether, SafeMarksDivide, name_of_op, read_ops, refused_op}
use Rattle.relay_run.specs.Numbering.{name_on, settled_before}
use Rattle.relay_run.specs.Readers.{answer_of}
use Rattle.relay_run.specs.Settling.{Tellings}
use Rattle.relay_run.proofs.Feeding.{takes_end}

-- ---- the operations that were read, and where they end

-- these were taken, and this is where they end
record AreTaken (start : Mark) (old : Reading) (ops : List Operation) (places : List Place) : Type 0 where
  last : Reading
  taken : TakesAll old last ops
  are : ends_of start old last ops taken ≡ places

none_refused : (start : Mark) (old rest : Reading) (ops : List Operation) (t : TakesAll old rest ops) → AreTaken start old (ops ++ []) (ends_of start old rest ops t ++ [])
none_refused start old rest ops t =
    let P : List Operation → Type 0 = λ x. (u : TakesAll old rest x) × (ends_of start old rest x u ≡ ends_of start old rest ops t) in
    let at : P ops = (t, refl) in
    let u = subst P (sym (append-nil ops)) at in
    record { last = rest; taken = u.0; are = u.1 ∙ sym (append-nil (ends_of start old rest ops t)) }

one_refused : (start : Mark) (old rest new : Reading) (ops : List Operation) (t : TakesAll old rest ops) (fed put : ProducerState) (result : Result Unit FeedFault) (stops : Stops rest new fed put result)
    → AreTaken start old (ops ++ refused_op rest new fed put result stops) (ends_of start old rest ops t ++ refused_end start rest new fed put result stops)
one_refused start old rest new ops t fed put (Ok u) stops = none_refused start old rest ops t
one_refused start old rest new ops t fed put (Err (fault.Input e)) stops = none_refused start old rest ops t
one_refused start old rest new ops t fed put (Err fault.NumbersSpent) stops = let m = takes_end start old rest new ops stops.0 stops.1 t stops.2 in record { last = new; taken = m.0; are = m.1 }
one_refused start old rest new ops t fed put (Err fault.LaneGone) stops = let m = takes_end start old rest new ops stops.0 stops.1 t stops.2 in record { last = new; taken = m.0; are = m.1 }
one_refused start old rest new ops t fed put (Err fault.Stopped) stops = none_refused start old rest ops t

-- ---- the places that were told

abbrev first_or : Place → List Place → Place
first_or p [] = p
first_or p (x ∷ xs) = x

last_is : (a : Action) (line before : ℕ) → line ≡ saturating_count (before + 1) → before + line_count a < 2 ^ 64 → last_line line a ≡ before + line_count a
last_is (Index source) line before e low = omega (arith, e, low)
last_is Delete line before e low = e ∙ (omega (arith, low))

-- the first operations are those of the places
record ArePlaced (index : Option (List ℕ)) (start : Mark) (text : List ℕ) (before : ℕ) (rest : List ℕ) (ops : List Operation) (places : List Place) : Type 0 where
  done : List Operation
  later : List Operation
  parts : ops ≡ done ++ later
  many : length done ≡ length places
  placed : ArePlaces index start text before rest done places

-- one operation more, before these
one_placed : (index : Option (List ℕ)) (start : Mark) (text : List ℕ) (before : ℕ) (rest : List ℕ) (op : Operation) (ops : List Operation) (p : Place) (ps : List Place) (n : ℕ) (mid : List ℕ)
    → TakesOperation index (Some rest) (Some mid) n op → p ≡ place_after start (before + n + line_count op.1) text
    → ArePlaced index start text (before + n + line_count op.1) mid ops ps → ArePlaced index start text before rest (op ∷ ops) (p ∷ ps)
one_placed index start text before rest op ops p ps n mid lines place rec = record {
  done = op ∷ rec.done;
  later = rec.later;
  parts = ap (λ (os : List Operation). op ∷ os) rec.parts;
  many = ap suc rec.many;
  placed = (n, mid, lines, place, rec.placed);
}

-- what a reader has used of a text: so many lines, and the bytes before what is left
record IsAt (index : Option (List ℕ)) (text : List ℕ) (before : ℕ) (rest : List ℕ) (r : Reading) : Type 0 where
  ahead : r.ahead ≡ Some rest
  default : r.default ≡ index
  count : r.count ≡ before
  used : r.used + length rest ≡ length text
  skips : Skips before text rest

-- one operation more was taken, and where it ends
one_on : (index : Option (List ℕ)) (start : Mark) (text : List ℕ) (before : ℕ) (rest : List ℕ) (old new : Reading) (n : ℕ) (op : Operation) → IsAt index text before rest old → Takes old new n op → length text < 2 ^ 64
    → (mid : List ℕ) × TakesOperation index (Some rest) (Some mid) n op × IsAt index text (before + n + line_count op.1) mid new × (end_of start new op ≡ place_after start (before + n + line_count op.1) text)
one_on index start text before rest old new n op a t low =
    let s = operation_shows old.default old.ahead new.ahead n op (rest, a.ahead) t.lines in
    let lines = subst (λ (o : Option (List ℕ)). TakesOperation index (Some rest) o n op) s.1
    (subst (λ (o : Option (List ℕ)). TakesOperation index o new.ahead n op) a.ahead (subst (λ (o : Option (List ℕ)). TakesOperation o old.ahead new.ahead n op) a.default t.lines)) in
    let uses = subst (λ (o : Option (List ℕ)). UsesBytes old.used new.used (Some rest) o) s.1 (subst (λ (o : Option (List ℕ)). UsesBytes old.used new.used o new.ahead) a.ahead t.used) in
    let at = before + n + line_count op.1 in
    let same : before + (n + line_count op.1) ≡ at = omega arith in
    let skips = subst (λ (k : ℕ). Skips k text s.0) same (skips_on before (n + line_count op.1) text rest s.0 a.skips (operation_skips index rest s.0 n op lines)) in
    let bound = skips_bound at text s.0 skips in
    let used = used_more old.used new.used text rest s.0 uses a.used low in
    let lines_are = lines_used at text s.0 skips in
    let line_is = t.line in
    let counted = t.count in
    let c = a.count in
    let last : last_line new.line op.1 ≡ at = last_is op.1 new.line (before + n) (omega (arith, line_is, c)) (omega (arith, bound, low)) in (
      s.0,
      lines,
      record { ahead = s.1; default = t.default ∙ a.default; count = omega (arith, counted, c, bound, low); used = used; skips = skips },
      ap₂ (place_behind start) last (let e : new.used ≡ lines_length at text = omega (arith, used, lines_are) in e),
    )

are_placed : (index : Option (List ℕ)) (start : Mark) (text : List ℕ) (before : ℕ) (rest : List ℕ) (old new : Reading) (ops : List Operation) (t : TakesAll old new ops) (places later : List Place)
    → IsAt index text before rest old → length text < 2 ^ 64 → ends_of start old new ops t ≡ places ++ later → ArePlaced index start text before rest ops places
are_placed index start text before rest old new ops t [] later a low e = record { done = []; later = ops; parts = refl; many = refl; placed = refl }
are_placed index start text before rest old new [] t (p ∷ ps) later a low e = absurd (let n : 0 ≡ suc (length (ps ++ later)) = ap length e in omega (arith, n))
are_placed index start text before rest old new (op ∷ ops) t (p ∷ ps) later a low e =
    let one = one_on index start text before rest old t.1 t.0 op a t.2 low in
    let place : p ≡ place_after start (before + t.0 + line_count op.1) text = sym (ap (first_or p) e) ∙ one.3 in
    one_placed index start text before rest op ops p ps t.0 one.0 one.1 place
    (are_placed index start text (before + t.0 + line_count op.1) one.0 t.1 new ops t.3 ps later one.2 low (ap (drop 1) e))

text_low : (m : Mark) (input : List ℕ) → LiesIn m input → m.offset + length (text_from m input) ≡ length input
text_low m input l =
    let size : length (text_from m input) ≡ length input - m.offset = length-drop m.offset input in
    let off = l.offset in
    omega (arith, size, off)

pub places_divide : PlacesDivide
places_divide index input m failed new before put told now result places l none feeds first is =
    let start = now.start in
    let text = text_from start input in
    let old = fresh (Some text) failed index in
    let f = feeds.0 in
    let t = one_refused told.start old f.rest new f.ops f.taken (after_puts before f.ops) put result f.stops in
    let read = read_ops old new before put result f in
    let size = text_low start input l in
    let low = l.size in
    let within : length text < 2 ^ 64 = omega (arith, size, low) in
    let ends : ends_of told.start old t.last read t.taken ≡ places ++ first.0 =
    sym (ap (λ (v : Tellings). v.places) feeds.1
    ∙ (ap (λ (ps : List Place). ps ++ (ends_of told.start old f.rest f.ops f.taken ++ refused_end told.start f.rest new (after_puts before f.ops) put result f.stops)) none ∙ sym t.are)) ∙ first.1 in
    let begins : told.start ≡ start = sym (ap (λ (v : Tellings). v.start) feeds.1) in
    let front = read_from_the_front index text failed t.last read within t.taken in
    let a = are_placed index start text 0 text old t.last read t.taken places first.0
    (record { ahead = refl; default = refl; count = refl; used = omega arith; skips = skips_none text }) within
    (subst (λ (s : Mark). ends_of s old t.last read t.taken ≡ places ++ first.0) begins ends) in
    record {
      done = a.done;
      later = a.later;
      parts = a.parts;
      many = a.many;
      comes = subst (λ (q : Mark). ComesAfter index input start a.done q) (sym is) (marks_come_after index input start a.done places l a.placed);
      lines = t.last.count;
      front = front.0;
    }

pub safe_marks_divide : SafeMarksDivide
safe_marks_divide index input failed new before put told result inputs tells given safe l none feeds =
    let d = places_divide index input given.1 failed new before put told safe.input result safe.done l none feeds safe.first safe.mark in
    let many = d.many in
    record {
      done = d.done;
      later = d.later;
      parts = d.parts;
      settled = λ n h. safe.settled n (omega (arith, many, h));
      comes = d.comes;
      lines = d.lines;
      front = d.front;
    }

-- ---- the run that goes on

none_on : (count line : ℕ) (end : End) → lines_on count end ≡ lines_on line None → end ≡ None
none_on count line None e = refl
none_on count line (Some f) e = absurd (let n : Some (count + f.0, f.1) ≡ None = e in some_none (count + f.0, f.1) n)
  where
    some_none : {A : Type 0} (x : A) → Some x ≡ None → ⊥
    some_none x e = cc

abbrev name_at : ℕ → ℕ → ℕ → OpName
name_at epoch producer n = record { epoch = epoch; producer = producer; number = n }

names_on : (before : List ℕ) (epoch producer count n k : ℕ) (ops : List Operation) → settled_before before producer ≡ count → k ≡ count + n → k + length ops ≤ 2 ^ 64
    → map (λ op. name_on before (name_of_op op)) (named_ops epoch producer n ops) ≡ map name_of_op (named_ops epoch producer k ops)
names_on before epoch producer count n k [] s e low = refl
names_on before epoch producer count n k (op ∷ ops) s e low =
    let number : saturating_count (n + settled_before before producer) ≡ k = omega (arith, s, e, low) in
    ap₂ (λ (x : OpName) (xs : List OpName). x ∷ xs) (ap (name_at epoch producer) number)
    (names_on before epoch producer count (n + 1) (k + 1) ops s (omega (arith, e)) (omega (arith, low)))

-- why nothing more was put, by the fault
ended : (rest new : Reading) (fed put : ProducerState) (stopped : Option FeedFault) → stopped ≡ None → Stops rest new fed put (answer_of stopped) → Ends rest new
ended rest new fed put stopped e s = let t = subst (λ (f : Option FeedFault). Stops rest new fed put (answer_of f)) e s in t.0

failed_so : (rest new : Reading) (fed put : ProducerState) (stopped : Option FeedFault) (e : InputFault) → stopped ≡ Some (fault.Input e) → Stops rest new fed put (answer_of stopped) → Fails rest new e
failed_so rest new fed put stopped e is s = let t = subst (λ (f : Option FeedFault). Stops rest new fed put (answer_of f)) is s in t.0

pub runs_go_on : RunsGoOn
runs_go_on index input start m done failed new before put stopped c fed =
    let text = text_from start input in
    let there = text_from m input in
    let size = text_low m input c.lies in
    let whole = c.lies.size in
    let low : length there < 2 ^ 64 = omega (arith, size, whole) in
    let front = read_from_the_front index there failed fed.rest fed.ops low fed.taken in
    let end = after_lines fed.rest.count there in
    let together = begins_together index text there end done fed.ops c.lines fed.rest.count c.begins front.0 in
    let all : stopped ≡ None → Holds index text (done ++ fed.ops) None = λ e.
    (let h = read_to_the_end index there failed fed.rest new fed.ops low fed.taken (ended fed.rest new (after_puts before fed.ops) put stopped e fed.stops) in
    let b = hold_with_marks index input start m done fed.ops None c h in
    subst (Holds index text (done ++ fed.ops)) (none_on start.line m.line b.end b.ends) b.holds) in
    let bytes = skips_bound fed.rest.count there end (begins_skips index there fed.ops fed.rest.count end front.0) in
    let many = as_many index there fed.ops fed.rest.count end front.0 in
    let line = c.lies.line in
    let count = c.lies.count in
    record {
      lines = c.lines + fed.rest.count;
      begins = begins_after index text end (done ++ fed.ops) (c.lines + fed.rest.count) together;
      first = λ later last h.
          let f = first_ones index text end (done ++ fed.ops) (done ++ later) (c.lines + fed.rest.count) last together h in
          (f.0, append_cancel_left done later (fed.ops ++ f.0) (f.1 ∙ append_assoc done fed.ops f.0));
      all = all;
      others = λ e later last h. let one = hold_once index text (done ++ fed.ops) (done ++ later) None last (all e) h in sym (append_cancel_left done fed.ops later one.0);
      broken = λ e is. elim (read_to_the_fault index there failed fed.rest new fed.ops e low fed.taken (failed_so fed.rest new (after_puts before fed.ops) put stopped e is fed.stops)) [
        | inl k ↦ inl k
        | inr (inl k) ↦ inr (inl k)
        | inr (inr h) ↦ (
            let at = fault_some index h.rest h.ends.0 e.kind h.ends.1 in
            let lines = skips_bound h.count there h.rest (begins_skips index there fed.ops h.count h.rest h.begins) in
            let at_line = h.ends.2 in
            inr (inr (hold_with_marks index input start m done fed.ops (Some (e.line, e.kind)) c h, ap (λ (n : ℕ). record e { line = n }) (omega (arith, at, lines, at_line, size, whole, line)))))
      ];
      named = λ befores epoch producer s. names_on befores epoch producer m.count 1 (m.count + 1) fed.ops s refl (omega (arith, many, bytes, size, whole, line, count));
    }

pub runs_together : RunsTogether
runs_together index input failed new before put told result inputs tells given safe failures last begun closed stopped l none feeds fed =
    let start = safe.input.start in
    let text = text_from start input in
    let d = safe_marks_divide index input failed new before put told result inputs tells given safe l none feeds in
    let g = runs_go_on index input start given.1 d.done failures last begun closed stopped d.comes fed in
    let read = read_ops (fresh (Some text) failed index) new before put result feeds.0 in (
      d,
      g,
      λ e.
          let f = first_ones index text (after_lines d.lines text) read (d.done ++ fed.ops) d.lines None d.front (g.all e) in
          (f.0, append_cancel_left d.done fed.ops (d.later ++ f.0) (f.1 ∙ (ap (λ (l : List Operation). l ++ f.0) d.parts ∙ append_assoc d.done d.later f.0))),
    )
