-- What the steps of a sifted reader leave.
use Rattle.std.proofs.Common.{◌≡◌, ◌==◌, ℕ, ◌<◌, ◌≤◌, List, [], ◌∷◌, ◌++◌, length, min, take, drop, Bool, true, false, true≢false, Option, None, Some, option_map, subst, refl, ap, sym, ◌∙◌, arith, append_assoc, append-nil, IsTrue, flat_map, if◌then◌else◌}
use Rattle.std.proofs.Math.Seq.{drop-length}
use Rattle.std.proofs.lemmas.Grind.{common_steps}
use Rattle.std.proofs.lemmas.List.{take-append-drop}
use Rattle.std.specs.Io.KnownBytes.{append_known, prepend_known, IsAtEnd}
use Rattle.relay_action.specs.Streams.{one_more}
use Rattle.relay_ndjson.proofs.Pieces.{prepend_nothing, prepend_known-append}
use Rattle.relay_ndjson.specs.declared.kind.InputFault.{InputFault}
use Rattle.relay_sift.specs.declared.front.Front.TheVariants as front
use Rattle.relay_sift.specs.Texts.{lines_of}
use Rattle.relay_sift.specs.Portions.{Portion, portions, passed, left_out, left_out_by, sifted, sifted_out}
use Rattle.relay_sift.specs.Fronts.{FrontsAt, IsFront, IsWithin}
use Rattle.relay_sift.specs.declared.front.Front.{Front}
use Rattle.relay_sift.specs.Sifting.{Sifting, coming, coming_with, owed, owed_with, IsOver, Pays, Advances, Holds, after_portion, after_out, after_writing}

pub append_nothing : (g : Option (List ℕ)) → append_known g [] ≡ g
append_nothing None = refl
append_nothing (Some xs) = ap Some (append-nil xs)

append_both : (g : Option (List ℕ)) (a b : List ℕ) → append_known g (a ++ b) ≡ append_known (append_known g a) b
append_both None a b = refl
append_both (Some xs) a b = ap Some (sym (append_assoc xs a b))

-- ---- optional texts

same_at : (f g : List ℕ → List ℕ) (o : Option (List ℕ)) → ((l : List ℕ) → o ≡ Some l → f l ≡ g l) → option_map f o ≡ option_map g o
same_at f g None h = refl
same_at f g (Some l) h = ap Some (h l refl)

prepended_at : (f g : List ℕ → List ℕ) (t : List ℕ) (o : Option (List ℕ)) → ((l : List ℕ) → o ≡ Some l → f l ≡ t ++ g l) → option_map f o ≡ prepend_known t (option_map g o)
prepended_at f g t None h = refl
prepended_at f g t (Some l) h = ap Some (h l refl)

shifted : (f g : List ℕ → List ℕ) (t : List ℕ) (o p : Option (List ℕ)) → o ≡ prepend_known t p → ((l : List ℕ) → f (t ++ l) ≡ g l) → option_map f o ≡ option_map g p
shifted f g t o None e h = ap (option_map f) e
shifted f g t o (Some l) e h = ap (option_map f) e ∙ ap Some (h l)

-- ---- steps one after another

-- nothing was written
quiet : (old new : Sifting) → coming new ≡ coming old → owed old ≡ owed new → new.given ≡ old.given → new.failed ≡ old.failed → Advances old new
quiet old new c o g f = record {
  same = c;
  pays = record { text = []; paid = o ∙ sym (prepend_nothing (owed new)); written = g ∙ sym (append_nothing old.given) };
  failed = f;
}

pub stays : (s : Sifting) → Advances s s
stays s = quiet s s refl refl refl refl

pays_more : (old mid new : Sifting) → Pays old mid → Pays mid new → Pays old new
pays_more old mid new p q = record {
  text = p.text ++ q.text;
  paid = p.paid ∙ (ap (prepend_known p.text) q.paid ∙ sym (prepend_known-append p.text q.text (owed new)));
  written = q.written ∙ (ap (λ g. append_known g q.text) p.written ∙ sym (append_both old.given p.text q.text));
}

pub advances_more : (old mid new : Sifting) → Advances old mid → Advances mid new → Advances old new
advances_more old mid new a b = record { same = b.same ∙ a.same; pays = pays_more old mid new a.pays b.pays; failed = b.failed ∙ a.failed }

-- ---- reading

pub read_advances : (s : Sifting) (held read : List ℕ) (left : Option (List ℕ)) (ended : Bool) → held ≡ s.held ++ read → s.left ≡ prepend_known read left → Advances s (record s { left = left; held = held; ended = ended })
read_advances s held read left ended h e =
    let new : Sifting = record s { left = left; held = held; ended = ended } in
    let joined = λ (l : List ℕ). sym (ap (λ (x : List ℕ). x ++ l) h ∙ append_assoc s.held read l) in
    quiet s new
    (sym (shifted (coming_with s) (coming_with new) read s.left left e (λ l. ap (λ (x : List ℕ). s.out ++ (if s.passing then x else sifted s.default s.count x)) (joined l))))
    (shifted (owed_with s) (owed_with new) read s.left left e (λ l. ap (λ (x : List ℕ). if s.passing then [] else sifted_out s.producer s.default s.count x) (joined l)))
    refl refl

-- ---- passing on

pub passes_held : (s : Sifting) (out held : List ℕ) (n : ℕ) → s.passing ≡ true → out ≡ s.out ++ s.held → held ≡ drop n s.held → n ≡ length s.held → Advances s (record s { out = out; held = held })
passes_held s out held n p o h is =
    let new : Sifting = record s { out = out; held = held } in
    let none : held ≡ [] = h ∙ (ap (λ k. drop k s.held) is ∙ drop-length s.held) in
    quiet s new
    (same_at (coming_with new) (coming_with s) s.left (λ l at. rw (p, none, o) (append_assoc s.out s.held l)))
    (same_at (owed_with s) (owed_with new) s.left (λ l at. rw p refl))
    refl refl

-- ---- portions

pub at_end : (ended : Bool) (left : Option (List ℕ)) (l : List ℕ) → (IsTrue ended → IsAtEnd left) → left ≡ Some l → IsTrue ended → l ≡ []
at_end ended left l over at is = subst IsAtEnd at (over is)

-- what is passed on of a text is that of its first portion, and then of the rest
coming_taken : (d : Option (List ℕ)) (n after : ℕ) (text rest : List ℕ) (p : Portion) → portions d n (lines_of text) ≡ p ∷ portions d after (lines_of rest) → sifted d n text ≡ passed p ++ sifted d after rest
coming_taken d n after text rest p e = ap (flat_map passed) e

owed_taken : (producer : ℕ) (d : Option (List ℕ)) (n after : ℕ) (text rest : List ℕ) (p : Portion) → portions d n (lines_of text) ≡ p ∷ portions d after (lines_of rest) → sifted_out producer d n text ≡ left_out producer p ++ sifted_out producer d after rest
owed_taken producer d n after text rest p e = ap (flat_map (left_out producer)) e

pub takes_portion : (s : Sifting) (first end count : ℕ) (fault : Option InputFault) → s.passing ≡ false → FrontsAt s.left s.default s.count s.held (front.Portion first end count fault) → Advances s (record (after_portion (take end s.held) fault s) { held = drop end s.held; count = count })
takes_portion s first end count fault p f =
    let portion : Portion = record { line = one_more s.count; first = take first s.held; bytes = take end s.held; fault = fault; told = true } in
    let new : Sifting = record (after_portion (take end s.held) fault s) { held = drop end s.held; count = count } in record {
      same = same_at (coming_with new) (coming_with s) s.left (λ l at.
          let t = coming_taken s.default s.count count (s.held ++ l) (drop end s.held ++ l) portion (f l at).1 in
          rw p (append_assoc s.out (passed portion) (sifted s.default count (drop end s.held ++ l)) ∙ sym (ap (λ (x : List ℕ). s.out ++ x) t)));
      pays = record {
        text = left_out_by s.producer (take end s.held) fault;
        paid = prepended_at (owed_with s) (owed_with new) (left_out_by s.producer (take end s.held) fault) s.left (λ l at.
            let t = owed_taken s.producer s.default s.count count (s.held ++ l) (drop end s.held ++ l) portion (f l at).1 in rw p t);
        written = refl;
      };
      failed = refl;
    }

pub takes_held : (s mid : Sifting) (first end count : ℕ) (fault : Option InputFault) (held : List ℕ) → s.passing ≡ false → FrontsAt s.left s.default s.count s.held (front.Portion first end count fault)
    → mid ≡ after_portion (take end s.held) fault s → held ≡ drop end mid.held → Advances s (record mid { held = held; count = count })
takes_held s mid first end count fault held p f e h =
    let same : record mid { held = held; count = count } ≡ record (after_portion (take end s.held) fault s) { held = drop end s.held; count = count } =
    ap (λ (x : List ℕ). record mid { held = x; count = count }) h ∙ ap (λ (m : Sifting). record m { held = drop end m.held; count = count }) e in
    subst (λ (x : Sifting). Advances s x) (sym same) (takes_portion s first end count fault p f)

pub holds_writing : (s new : Sifting) → new ≡ after_writing s new.given → Holds s new
holds_writing s new e = (ap coming e, ap (λ (x : Sifting). x.failed) e)

-- from here on everything is passed on
pub passes_rest : (s : Sifting) (first : ℕ) (fault : InputFault) → s.passing ≡ false → FrontsAt s.left s.default s.count s.held (front.Rest first fault) → Advances s (record s { passing = true })
passes_rest s first fault p f =
    let new : Sifting = record s { passing = true } in
    quiet s new
    (same_at (coming_with new) (coming_with s) s.left (λ l at.
    let t : sifted s.default s.count (s.held ++ l) ≡ (s.held ++ l) ++ [] = ap (flat_map passed) (f l at).is in
    rw p (ap (λ (x : List ℕ). s.out ++ x) (sym (t ∙ append-nil (s.held ++ l))))))
    (same_at (owed_with s) (owed_with new) s.left (λ l at.
    let t : sifted_out s.producer s.default s.count (s.held ++ l) ≡ [] = ap (flat_map (left_out s.producer)) (f l at).is in rw p t))
    refl refl

ends_at : (f : List ℕ → List ℕ) (left : Option (List ℕ)) → ((l : List ℕ) → left ≡ Some l → f l ≡ []) → IsAtEnd (option_map f left)
ends_at f None h = tt
ends_at f (Some l) h = h l refl

-- nothing is left
pub ends_absent : (s : Sifting) → s.passing ≡ false → s.out ≡ [] → FrontsAt s.left s.default s.count s.held front.Absent → IsOver s
ends_absent s p o f = (
  ends_at (coming_with s) s.left (λ l at.
      let g = f l at in
      let held = g.0 in
      let none = g.1 in rw (p, o, held, none) refl),
  ends_at (owed_with s) s.left (λ l at.
      let g = f l at in
      let held = g.0 in
      let none = g.1 in rw (p, held, none) refl),
)

pub ends_passing : (s : Sifting) → s.passing ≡ true → s.out ≡ [] → s.held ≡ [] → IsAtEnd s.left → IsOver s
ends_passing s p o held over = (
  ends_at (coming_with s) s.left (λ l at. let none = subst IsAtEnd at over in rw (p, o, held) none),
  ends_at (owed_with s) s.left (λ l at. rw p refl),
)

-- ---- giving

pub gives : (s : Sifting) (n : ℕ) → coming s ≡ prepend_known (take n s.out) (coming (after_out n s))
gives s n =
    prepended_at (coming_with s) (coming_with (after_out n s)) (take n s.out) s.left (λ l at.
    let rest = if s.passing then s.held ++ l else sifted s.default s.count (s.held ++ l) in
    ap (λ (x : List ℕ). x ++ rest) (sym (take-append-drop n s.out)) ∙ append_assoc (take n s.out) (drop n s.out) rest)

-- ---- looking

pub fronts_at : (default left : Option (List ℕ)) (count : ℕ) (held : List ℕ) (ended : Bool) (found : Front) → (IsTrue ended → IsAtEnd left) → IsFront default count held ended found → FrontsAt left default count held found
fronts_at default left count held ended found over f = λ l at. f l (at_end ended left l over at)

pub within : (default : Option (List ℕ)) (count : ℕ) (held : List ℕ) (ended : Bool) (found : Front) → IsFront default count held ended found → IsWithin held found
within default count held ended (front.Portion first n after fault) f = let g = f [] (λ h. refl) in (g.0, g.2)
within default count held ended (front.Rest first fault) f = (f [] (λ h. refl)).within
within default count held ended front.Absent f = tt
within default count held ended front.Partial f = tt

-- ---- faults

pub holds_advanced : (old new : Sifting) → Advances old new → Holds old new
holds_advanced old new a = (a.same, a.failed)

pub holds_more : (old mid new : Sifting) → Advances old mid → Holds mid new → Holds old new
holds_more old mid new a h = (h.0 ∙ a.same, h.1 ∙ a.failed)

-- ---- reading

taken_front : (n : ℕ) (out before : List ℕ) → n ≤ length out → take n (take n out ++ drop n before) ≡ take n out
taken_front n out before h = grind (arith, common_steps)

pub read_gives : (old mid new : Sifting) (n : ℕ) (before after : List ℕ) → coming mid ≡ coming old → n ≡ min (length before) (length mid.out) → after ≡ take n mid.out ++ drop n before → new ≡ after_out n mid → coming old ≡ prepend_known (take n after) (coming new)
read_gives old mid new n before after c is e a =
    let low : n ≤ length mid.out = omega (arith, is) in
    let front : take n after ≡ take n mid.out = ap (take n) e ∙ taken_front n mid.out before low in
    sym c ∙ (gives mid n ∙ (ap (λ (t : List ℕ). prepend_known t (coming (after_out n mid))) (sym front) ∙ ap (λ (s : Sifting). prepend_known (take n after) (coming s)) (sym a)))

no_bytes : (xs : List ℕ) → length xs ≡ 0 → xs ≡ []
no_bytes [] h = refl
no_bytes (x ∷ xs) h = absurd (omega (arith, h))

-- after a read that gave nothing
pub paid_off : (mid new : Sifting) (n : ℕ) (before after : List ℕ) → (mid.out ≡ [] → IsOver mid) → n ≡ min (length before) (length mid.out) → after ≡ take n mid.out ++ drop n before → new ≡ after_out n mid → n ≡ 0 → 0 < length after → IsAtEnd (owed new)
paid_off mid new n before after over is e a zero low =
    let same : after ≡ before = rw zero at e in
    let size = ap length same in
    let none = no_bytes mid.out (omega (arith, is, zero, low, size)) in
    subst (λ (s : Sifting). IsAtEnd (owed s)) (sym a) (over none).1

pub pays_after : (old mid new : Sifting) (n : ℕ) → Pays old mid → new ≡ after_out n mid → Pays old new
pays_after old mid new n p e = record {
  text = p.text;
  paid = p.paid ∙ ap (λ (s : Sifting). prepend_known p.text (owed s)) (sym e);
  written = ap (λ (s : Sifting). s.given) e ∙ p.written;
}

-- ---- looking at a reader

pub looks : (s : Sifting) (default : Option (List ℕ)) (held : List ℕ) (count : ℕ) (ended : Bool) (found : Front) → default ≡ s.default → held ≡ s.held → count ≡ s.count → ended ≡ s.ended → (IsTrue s.ended → IsAtEnd s.left) → IsFront default count held ended found
    → FrontsAt s.left s.default s.count s.held found × IsWithin s.held found
looks s default held count ended found d h n e over f =
    let a = subst (λ (x : Option (List ℕ)). IsFront x count held ended found) d f in
    let b = subst (λ (x : List ℕ). IsFront s.default count x ended found) h a in
    let c = subst (λ (x : ℕ). IsFront s.default x s.held ended found) n b in
    let g = subst (λ (x : Bool). IsFront s.default s.count s.held x found) e c in
    (fronts_at s.default s.left s.count s.held s.ended found over g, within s.default s.count s.held s.ended found g)

-- ---- bytes

pub empty_iff : (xs : List ℕ) (b : Bool) → b ≡ (length xs == 0) → (IsTrue b → xs ≡ []) × (xs ≡ [] → IsTrue b)
empty_iff [] b e = (λ h. refl, λ h. e)
empty_iff (x ∷ xs) b e = (λ h. let f : b ≡ false = grind (arith, e) in let k : false ≡ true = rw f at h in absurd (true≢false (sym k)), λ h. absurd (let n : length (x ∷ xs) ≡ 0 = ap length h in omega (arith, n)))

pub more_of_three : (new later first text a b d : List ℕ) → new ≡ later ++ d → later ≡ first ++ b → first ≡ text ++ a → new ≡ text ++ (a ++ (b ++ d))
more_of_three new later first text a b d n m k =
    n ∙ (ap (λ (t : List ℕ). t ++ d) (m ∙ ap (λ (t : List ℕ). t ++ b) k) ∙ (append_assoc (text ++ a) b d ∙ append_assoc text a (b ++ d)))
