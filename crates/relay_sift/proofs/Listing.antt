-- What is written of the faults of an input.
use Rattle.std.proofs.Common.{◌≡◌, ◌≢◌, ℕ, ◌+◌, ◌<◌, ◌≤◌, ◌==◌, min, List, [], ◌∷◌, ◌++◌, length, drop, take, Bool, true, false, IsTrue, true≢false, nat_lt, Option, None, Some, option_map, subst, refl, ap, sym, ◌∙◌, arith, inl, inr, append_assoc, append-nil}
use Rattle.std.proofs.lemmas.Grind.{common_steps}
use Rattle.std.specs.Io.KnownBytes.{append_known, prepend_known, IsAtEnd}
use Rattle.relay_action.specs.Streams.{most, one_more}
use Rattle.relay_ndjson.specs.Operations.{blank_limit}
use Rattle.relay_ndjson.specs.declared.kind.InputFault.{InputFault}
use Rattle.relay_ndjson.specs.declared.kind.LineKind.{LineKind}
use Rattle.relay_ndjson.specs.declared.kind.LineKind.TheVariants as kind
use Rattle.relay_sift.specs.declared.asking.Subject.{Subject}
use Rattle.relay_sift.specs.declared.asking.Subject.TheVariants as subject
use Rattle.relay_sift.specs.declared.front.Front.{Front}
use Rattle.relay_sift.specs.declared.front.Front.TheVariants as front
use Rattle.relay_sift.specs.About.{IsSaid, subject_line}
use Rattle.relay_sift.specs.Asking.{IsSubject}
use Rattle.relay_sift.specs.Fronts.{IsFront}
use Rattle.relay_sift.specs.Portions.{fault_at, portions}
use Rattle.relay_sift.specs.Texts.{line_text, lines_of}
use Rattle.relay_sift.specs.Listing.{AreListed, Checks, Finding, IsFindingText, Lists, StepsTo, Survey, Writes, ahead, ahead_with, fault_line, findings, findings_in, findings_of, is_empty, none_ahead, survey_of, with_faults}
use Rattle.relay_sift.proofs.Sifting.{append_nothing, at_end}

-- ---- what is written

pub listed_append : (fs gs : List Finding) (s t : List ℕ) → AreListed fs s → AreListed gs t → AreListed (fs ++ gs) (s ++ t)
listed_append [] gs s t a b = subst (AreListed gs) (sym (ap (λ (x : List ℕ). x ++ t) a)) b
listed_append (f ∷ fs) gs s t a b =
    let text : s ++ t ≡ fault_line f.fault ++ (a.0 ++ (a.1 ++ t)) =
    ap (λ (x : List ℕ). x ++ t) a.4 ∙ (append_assoc (fault_line f.fault) (a.0 ++ a.1) t ∙ ap (λ (x : List ℕ). fault_line f.fault ++ x) (append_assoc a.0 a.1 t)) in
    (a.0, a.1 ++ t, a.2, listed_append fs gs a.1 t a.3 b, text)

pub writes_nothing : (w : Option (List ℕ)) → Writes [] w w
writes_nothing w = ([], refl, sym (append_nothing w))

pub writes_one : (e : InputFault) (action text : List ℕ) (w x : Option (List ℕ)) → IsFindingText e action text → x ≡ append_known w text → Writes (findings_of action (Some e)) w x
writes_one e action text w x f is =
    (text, (f.0, [], f.1, refl, f.2 ∙ ap (λ (t : List ℕ). fault_line e ++ t) (sym (append-nil f.0))), is)

-- nothing is said beneath a line that is too long, whatever it is
said_long : (e : InputFault) (a b text : List ℕ) → e.kind ≡ kind.LineLong → IsSaid e.kind a text → IsSaid e.kind b text
said_long e a b text long said = by e.kind a b text said.0 long said.1 said.2 where
  by : (k : LineKind) (a b text : List ℕ) (s : Subject) → k ≡ kind.LineLong → IsSubject k a s → text ≡ subject_line s → IsSaid k b text
  by k a b text subject.None long s is =
      let m : k ≢ kind.UnsupportedAction = (λ e. let c : kind.LineLong ≡ kind.UnsupportedAction = sym long ∙ e in absurd (cc)) in
      let n : k ≢ kind.UnsupportedField = (λ e. let c : kind.LineLong ≡ kind.UnsupportedField = sym long ∙ e in absurd (cc)) in
      (subject.None, (λ e. absurd (m e), λ e. absurd (n e)), is)
  by k a b text (subject.Action name) long s is = let c : kind.LineLong ≡ kind.UnsupportedAction = sym long ∙ s.0 in absurd (cc)
  by k a b text (subject.Member name) long s is = let c : kind.LineLong ≡ kind.UnsupportedField = sym long ∙ s.0 in absurd (cc)

pub writes_long : (e : InputFault) (a b : List ℕ) (w x : Option (List ℕ)) → e.kind ≡ kind.LineLong → Writes (findings_of a (Some e)) w x → Writes (findings_of b (Some e)) w x
writes_long e a b w x long (said, l, is) = (said, (l.0, l.1, said_long e a b l.0 long l.2, l.3, l.4), is)

-- ---- steps

known_both : (w : Option (List ℕ)) (s t : List ℕ) → append_known (append_known w s) t ≡ append_known w (s ++ t)
known_both None s t = refl
known_both (Some xs) s t = ap Some (append_assoc xs s t)

found_both : (f g : List Finding) (c : Option (List Finding)) → option_map (λ fs. f ++ fs) (option_map (λ fs. g ++ fs) c) ≡ option_map (λ fs. (f ++ g) ++ fs) c
found_both f g None = refl
found_both f g (Some fs) = ap Some (sym (append_assoc f g fs))

found_none : (c : Option (List Finding)) → c ≡ option_map (λ fs. [] ++ fs) c
found_none None = refl
found_none (Some fs) = refl

pub checks_more : (a b c : Option (List Finding)) (w x y : Option (List ℕ)) (n m k : ℕ) → Checks a b w x n m → Checks b c x y m k → Checks a c w y n k
checks_more a b c w x y n m k p q = record {
  found = p.found ++ q.found;
  said = p.said ++ q.said;
  listed = listed_append p.found q.found p.said q.said p.listed q.listed;
  taken = p.taken ∙ (ap (option_map (λ fs. p.found ++ fs)) q.taken ∙ found_both p.found q.found c);
  written = q.written ∙ (ap (λ (o : Option (List ℕ)). append_known o q.said) p.written ∙ known_both w p.said q.said);
  number = λ i is.
      let l : length (p.found ++ q.found) ≡ length p.found + length q.found = grind (arith, common_steps) in
      let e = q.number (i + length p.found) (p.number i is) in
      let s : i + length p.found + length q.found ≡ i + length (p.found ++ q.found) = omega (arith, l) in e ∙ ap (λ (j : ℕ). min j most) s;
}

-- nothing was written
quiet : (a b : Option (List Finding)) (w : Option (List ℕ)) (n : ℕ) → a ≡ b → Checks a b w w n n
quiet a b w n e = record {
  found = [];
  said = [];
  listed = refl;
  taken = e ∙ found_none b;
  written = sym (append_nothing w);
  number = λ k is. is ∙ ap (λ (j : ℕ). min j most) (let z : k ≡ k + 0 = omega arith in z);
}

pub stays : (left w : Option (List ℕ)) (s : Survey) → Checks (ahead left s) (ahead left s) w w s.faults s.faults
stays left w s = quiet (ahead left s) (ahead left s) w s.faults refl

-- these were written
written_found : (a b : Option (List Finding)) (action : List ℕ) (fault : Option InputFault) (w x : Option (List ℕ)) (s t : Survey) → Writes (findings_of action fault) w x → t ≡ with_faults (length (findings_of action fault)) s
    → a ≡ option_map (λ fs. findings_of action fault ++ fs) b → Checks a b w x s.faults t.faults
written_found a b action None w x s t h e is = record {
  found = [];
  said = h.0;
  listed = h.1;
  taken = is;
  written = h.2;
  number = λ k n. ap (λ (y : Survey). y.faults) e ∙ (n ∙ ap (λ (j : ℕ). min j most) (let z : k ≡ k + 0 = omega arith in z));
}
written_found a b action (Some fault) w x s t h e is = record {
  found = findings_of action (Some fault);
  said = h.0;
  listed = h.1;
  taken = is;
  written = h.2;
  number = λ k n. let f = ap (λ (y : Survey). y.faults) e in omega (arith, f, n);
}

-- ---- what is ahead

mapped : (f g : List ℕ → List Finding) (fs : List Finding) (left : Option (List ℕ)) → ((l : List ℕ) → left ≡ Some l → f l ≡ fs ++ g l) → option_map f left ≡ option_map (λ hs. fs ++ hs) (option_map g left)
mapped f g fs None h = refl
mapped f g fs (Some l) h = ap Some (h l refl)

none_left : (f : List ℕ → List Finding) (fs : List Finding) (left : Option (List ℕ)) → ((l : List ℕ) → left ≡ Some l → f l ≡ fs) → option_map f left ≡ option_map (λ hs. fs ++ hs) (none_ahead left)
none_left f fs None h = refl
none_left f fs (Some l) h = ap Some (h l refl ∙ sym (append-nil fs))

pub first_within : (d : Option (List ℕ)) (n : ℕ) (bytes : List ℕ) (ended : Bool) (first end count : ℕ) (fault : Option InputFault) → IsFront d n bytes ended (front.Portion first end count fault) → first ≤ length bytes
first_within d n bytes ended first end count fault f = let g = f [] (λ h. refl) in omega (arith, g.0, g.2)

pub end_within : (d : Option (List ℕ)) (n : ℕ) (bytes : List ℕ) (ended : Bool) (first end count : ℕ) (fault : Option InputFault) → IsFront d n bytes ended (front.Portion first end count fault) → end ≤ length bytes
end_within d n bytes ended first end count fault f = (f [] (λ h. refl)).0

pub rest_within : (d : Option (List ℕ)) (n : ℕ) (bytes : List ℕ) (ended : Bool) (first : ℕ) (fault : InputFault) → IsFront d n bytes ended (front.Rest first fault) → first ≤ length bytes
rest_within d n bytes ended first fault f = (f [] (λ h. refl)).within

-- a portion that is not blank
pub takes_portion : (left : Option (List ℕ)) (w x : Option (List ℕ)) (s t : Survey) (first end count : ℕ) (fault : Option InputFault) (held : List ℕ) → (IsTrue s.ended → IsAtEnd left) → IsFront s.default s.count s.held s.ended (front.Portion first end count fault)
    → is_empty (line_text (take first s.held)) ≡ false → Writes (findings_of (line_text (take first s.held)) fault) w x → t ≡ with_faults (length (findings_of (line_text (take first s.held)) fault)) s
    → held ≡ drop end s.held → StepsTo true left left w x s (record t { held = held; count = count; blank = 0 })
takes_portion left w x s t first end count fault held over f filled h e d =
    let new : Survey = record t { held = held; count = count; blank = 0 } in
    let default : t.default ≡ s.default = ap (λ (y : Survey). y.default) e in
    let is : ahead left s ≡ option_map (λ fs. findings_of (line_text (take first s.held)) fault ++ fs) (ahead left new) =
    mapped (ahead_with s) (ahead_with new) (findings_of (line_text (take first s.held)) fault) left (λ l at.
    let p = (f l (at_end s.ended left l over at)).1 in
    let one = ap (findings s.blank) p in
    let later = ap (λ (b : List ℕ). findings 0 (portions t.default count (lines_of (b ++ l)))) d in
    let other = ap (λ (o : Option (List ℕ)). findings 0 (portions o count (lines_of (drop end s.held ++ l)))) default in
    one ∙ (rw filled (ap (λ (fs : List Finding). findings_of (line_text (take first s.held)) fault ++ fs) (sym (later ∙ other))))) in
    (written_found (ahead left s) (ahead left new) (line_text (take first s.held)) fault w x s t h e is, λ ended. over (subst IsTrue (ap (λ (y : Survey). y.ended) e) ended))

-- a blank line that is not one too many
pub takes_blank : (left w : Option (List ℕ)) (s : Survey) (first end count : ℕ) (fault : Option InputFault) (blank : ℕ) (held : List ℕ) → (IsTrue s.ended → IsAtEnd left) → IsFront s.default s.count s.held s.ended (front.Portion first end count fault)
    → is_empty (line_text (take first s.held)) ≡ true → s.blank < blank_limit → blank ≡ s.blank + 1 → held ≡ drop end s.held → StepsTo true left left w w s (record s { held = held; count = count; blank = blank })
takes_blank left w s first end count fault blank held over f empty low b d =
    let new : Survey = record s { held = held; count = count; blank = blank } in
    let few : nat_lt s.blank blank_limit ≡ true = grind (arith, low) in
    let is : ahead left s ≡ option_map (λ fs. [] ++ fs) (ahead left new) =
    mapped (ahead_with s) (ahead_with new) [] left (λ l at.
    let p = (f l (at_end s.ended left l over at)).1 in
    let one = ap (findings s.blank) p in
    let later = ap (λ (x : List ℕ). findings blank (portions s.default count (lines_of (x ++ l)))) d in
    let other = ap (λ (n : ℕ). findings n (portions s.default count (lines_of (drop end s.held ++ l)))) b in
    one ∙ (rw (empty, few) (sym (later ∙ other)))) in
    (quiet (ahead left s) (ahead left new) w s.faults (is ∙ sym (found_none (ahead left new))), over)

pub moves_on : (left w x : Option (List ℕ)) (s t u : Survey) (first end count : ℕ) (fault : Option InputFault) → (IsTrue s.ended → IsAtEnd left) → IsFront s.default s.count s.held s.ended (front.Portion first end count fault)
    → is_empty (line_text (take first s.held)) ≡ false → Writes (findings_of (line_text (take first s.held)) fault) w x → t ≡ with_faults (length (findings_of (line_text (take first s.held)) fault)) s
    → u ≡ record t { held = drop end t.held; count = count; blank = 0 } → StepsTo true left left w x s u
moves_on left w x s t u first end count fault over f filled h e is =
    subst (λ (y : Survey). StepsTo true left left w x s y) (sym is) (takes_portion left w x s t first end count fault (drop end t.held) over f filled h e (ap (λ (y : Survey). drop end y.held) e))

pub moves_blank : (left w : Option (List ℕ)) (s u : Survey) (first end count : ℕ) (fault : Option InputFault) (blank : ℕ) → (IsTrue s.ended → IsAtEnd left) → IsFront s.default s.count s.held s.ended (front.Portion first end count fault)
    → line_text (take first s.held) ≡ [] → blank ≡ s.blank → blank < blank_limit → u ≡ record s { held = drop end s.held; count = count; blank = blank + 1 } → StepsTo true left left w w s u
moves_blank left w s u first end count fault blank over f empty b low is =
    let few : s.blank < blank_limit = omega (arith, b, low) in
    subst (λ (y : Survey). StepsTo true left left w w s y) (sym is) (takes_blank left w s first end count fault (blank + 1) (drop end s.held) over f (ap is_empty empty) few (ap (λ (n : ℕ). n + 1) b) refl)

pub blank_by : (xs ys : List ℕ) (b : Bool) → xs ≡ ys → b ≡ (length xs == 0) → b ≡ true → ys ≡ []
blank_by [] ys b e is t = sym e
blank_by (x ∷ xs) ys b e is t = let f : (length (x ∷ xs) == 0) ≡ true = sym is ∙ t in absurd (let n : length (x ∷ xs) ≡ 0 = grind (arith, f) in omega (arith, n))

pub filled_by : (xs ys : List ℕ) (b : Bool) → xs ≡ ys → b ≡ (length xs == 0) → b ≡ false → is_empty ys ≡ false
filled_by [] ys b e is f = absurd (true≢false (sym is ∙ f))
filled_by (x ∷ xs) ys b e is f = sym (ap is_empty e)

-- a blank line too many
pub ends_blank : (left w x : Option (List ℕ)) (s t : Survey) (first end count : ℕ) (fault : Option InputFault) → (IsTrue s.ended → IsAtEnd left) → IsFront s.default s.count s.held s.ended (front.Portion first end count fault)
    → is_empty (line_text (take first s.held)) ≡ true → blank_limit ≤ s.blank → Writes (findings_of [] (Some (fault_at (one_more s.count) kind.LineLong))) w x → t ≡ with_faults 1 s → StepsTo false left left w x s t
ends_blank left w x s t first end count fault over f empty high h e =
    let many : nat_lt s.blank blank_limit ≡ false = grind (arith, high) in
    let is = none_left (ahead_with s) (findings_of [] (Some (fault_at (one_more s.count) kind.LineLong))) left (λ l at.
    let p = (f l (at_end s.ended left l over at)).1 in ap (findings s.blank) p ∙ (rw (empty, many) refl)) in
    written_found (ahead left s) (none_ahead left) [] (Some (fault_at (one_more s.count) kind.LineLong)) w x s t h e is

-- what cannot be told apart
pub ends_rest : (left w x : Option (List ℕ)) (s t : Survey) (first : ℕ) (fault : InputFault) → (IsTrue s.ended → IsAtEnd left) → IsFront s.default s.count s.held s.ended (front.Rest first fault)
    → Writes (findings_of (line_text (take first s.held)) (Some fault)) w x → t ≡ with_faults 1 s → StepsTo false left left w x s t
ends_rest None w x s t first fault over f h e = written_found None None (line_text (take first s.held)) (Some fault) w x s t h e refl
ends_rest (Some l) w x s t first fault over f h e =
    let r = f l (at_end s.ended (Some l) l over refl) in
    let is : Some (ahead_with s l) ≡ Some (findings_of (line_text r.first) (Some fault) ++ []) = ap Some (ap (findings s.blank) r.is) in
    elim r.line [
      | inl same ↦
          (let g = subst (λ (y : List ℕ). Writes (findings_of (line_text y) (Some fault)) w x) (sym same) h in
          written_found (Some (ahead_with s l)) (Some []) (line_text r.first) (Some fault) w x s t g e is)
      | inr long ↦ written_found (Some (ahead_with s l)) (Some []) (line_text r.first) (Some fault) w x s t (writes_long fault (line_text (take first s.held)) (line_text r.first) w x long h) e is
    ]

-- nothing is left
pub ends_absent : (left w : Option (List ℕ)) (s : Survey) → (IsTrue s.ended → IsAtEnd left) → IsFront s.default s.count s.held s.ended front.Absent → StepsTo false left left w w s s
ends_absent left w s over f =
    let is = none_left (ahead_with s) [] left (λ l at.
    let g = f l (at_end s.ended left l over at) in
    let held = g.0 in
    let none = g.1 in rw (held, none) refl) in
    quiet (ahead left s) (none_ahead left) w s.faults (is ∙ sym (found_none (none_ahead left)))

-- more was read
shifted : (f g : List ℕ → List Finding) (t : List ℕ) (o p : Option (List ℕ)) → o ≡ prepend_known t p → ((l : List ℕ) → f (t ++ l) ≡ g l) → option_map f o ≡ option_map g p
shifted f g t o None e h = ap (option_map f) e
shifted f g t o (Some l) e h = ap (option_map f) e ∙ ap Some (h l)

pub reads_on : (left later w : Option (List ℕ)) (s : Survey) (read held : List ℕ) (ended : Bool) → held ≡ s.held ++ read → left ≡ prepend_known read later → (IsTrue ended → IsAtEnd later) → StepsTo true left later w w s (record s { held = held; ended = ended })
reads_on left later w s read held ended h e over =
    let new : Survey = record s { held = held; ended = ended } in
    let is = shifted (ahead_with s) (ahead_with new) read left later e (λ l.
    let joined : s.held ++ (read ++ l) ≡ held ++ l = sym (ap (λ (x : List ℕ). x ++ l) h ∙ append_assoc s.held read l) in
    ap (λ (x : List ℕ). findings s.blank (portions s.default s.count (lines_of x))) joined) in
    (quiet (ahead left s) (ahead later new) w s.faults is, over)

pub reads_from : (left later w : Option (List ℕ)) (s v : Survey) (read held : List ℕ) (ended : Bool) → v ≡ s → held ≡ v.held ++ read → left ≡ prepend_known read later → (IsTrue ended → IsAtEnd later) → StepsTo true left later w w s (record v { held = held; ended = ended })
reads_from left later w s v read held ended is h e over =
    subst (λ (y : Survey). StepsTo true left later w w y (record v { held = held; ended = ended })) is (reads_on left later w v read held ended h e over)

-- what was found of what an input holds
pub looks_as : (s v : Survey) (default : Option (List ℕ)) (count : ℕ) (held : List ℕ) (ended : Bool) (found : Front) → v ≡ s → default ≡ v.default → count ≡ v.count → held ≡ v.held → ended ≡ v.ended → IsFront default count held ended found → IsFront s.default s.count s.held s.ended found
looks_as s v default count held ended found is d n h e f =
    let a = subst (λ (x : Option (List ℕ)). IsFront x count held ended found) d f in
    let b = subst (λ (x : ℕ). IsFront v.default x held ended found) n a in
    let c = subst (λ (x : List ℕ). IsFront v.default v.count x ended found) h b in
    let g = subst (λ (x : Bool). IsFront v.default v.count v.held x found) e c in
    subst (λ (y : Survey). IsFront y.default y.count y.held y.ended found) is g

-- ---- the whole input

pub last_step : (b : Bool) (left later w x : Option (List ℕ)) (s t : Survey) → b ≡ false → StepsTo b left later w x s t → StepsTo false left later w x s t
last_step false left later w x s t h p = p
last_step true left later w x s t h p = absurd (true≢false h)

pub next_step : (b : Bool) (left later w x : Option (List ℕ)) (s t : Survey) → b ≡ true → StepsTo b left later w x s t → StepsTo true left later w x s t
next_step true left later w x s t h p = p
next_step false left later w x s t h p = absurd (true≢false (sym h))

pub lists_all : (default left w x : Option (List ℕ)) (later : Option (List ℕ)) (n : ℕ) → Checks (ahead left (survey_of default)) (none_ahead later) w x 0 n → (text : List ℕ) → left ≡ Some text → Lists (findings_in default text) w x n
lists_all default left w x None n c text at = let e : Some (findings_in default text) ≡ None = ap (λ (o : Option (List ℕ)). ahead o (survey_of default)) (sym at) ∙ c.taken in absurd (cc)
lists_all default left w x (Some l) n c text at =
    let e : Some (findings_in default text) ≡ Some (c.found ++ []) = ap (λ (o : Option (List ℕ)). ahead o (survey_of default)) (sym at) ∙ c.taken in
    let same : findings_in default text ≡ c.found = (let f : findings_in default text ≡ c.found ++ [] = cc in f ∙ append-nil c.found) in record {
      said = c.said;
      listed = subst (λ (fs : List Finding). AreListed fs c.said) (sym same) c.listed;
      written = c.written;
      number =
          (let z : 0 + length c.found ≡ length c.found = omega arith in
          c.number 0 refl ∙ (ap (λ (j : ℕ). min j most) z ∙ ap (λ (fs : List Finding). min (length fs) most) (sym same)));
    }

pub lists_when : (s : Survey) (left later w x : Option (List ℕ)) (n : ℕ) → s ≡ survey_of s.default → Checks (ahead left s) (none_ahead later) w x s.faults n → (text : List ℕ) → left ≡ Some text → Lists (findings_in s.default text) w x n
lists_when s left later w x n e c =
    lists_all s.default left w x later n (subst (λ (y : Survey). Checks (ahead left y) (none_ahead later) w x y.faults n) e c)
