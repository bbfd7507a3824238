-- Operations that are put, settled and passed.
use Rattle.std.proofs.Common.{◌≡◌, ℕ, zero, suc, ◌+◌, ◌<◌, ◌≤◌, Bool, true, false, IsTrue, List, [], ◌∷◌, ◌++◌, length, length-append, append_assoc, refl, sym, ap, ◌∙◌, subst, arith, ◌⊎◌, ⊎_elim, inl, inr}
use Rattle.std.specs.Prelude.{slice_set}
use Rattle.std.proofs.lemmas.Bool.{false≢true}
use Rattle.relay_results.specs.Words.{Mem}
use Rattle.relay_results.proofs.Lists.{Mem-left, Mem-last, Mem-push_cases}
use Rattle.relay_resume.specs.declared.mark.Mark.{Mark}
use Rattle.relay_resume.specs.declared.mark.Place.{Place}
use Rattle.relay_resume.specs.Trails.{History, AreSettled, Follows, StartsOpen, Trailing, after, after_one, and_put, and_settled, noted_at}
use Rattle.relay_resume.specs.Steps.{SameNoted, note_at}

-- ---- flags

pub length-note : (place : ℕ) (bs : List Bool) → length (note_at place bs) ≡ length bs
length-note place [] = refl
length-note zero (b ∷ bs) = refl
length-note (suc place) (b ∷ bs) = ap suc (length-note place bs)

-- one more flag of a number that is not settled
pub same_more : (bs : List Bool) (place : ℕ) → noted_at place (bs ++ false ∷ []) ≡ noted_at place bs
same_more [] zero = refl
same_more [] (suc place) = refl
same_more (b ∷ bs) zero = refl
same_more (b ∷ bs) (suc place) = same_more bs place

-- a flag is set in its place
pub noted_set : (place : ℕ) (bs : List Bool) → place < length bs → slice_set bs place true ≡ note_at place bs
noted_set place [] h = absurd (omega (arith, h))
noted_set zero (b ∷ bs) h = refl
noted_set (suc place) (b ∷ bs) h = ap (λ rest. b ∷ rest) (noted_set place bs (omega (arith, h)))

pub noted_there : (place : ℕ) (bs : List Bool) → place < length bs → noted_at place (note_at place bs) ≡ true
noted_there place [] h = absurd (omega (arith, h))
noted_there zero (b ∷ bs) h = refl
noted_there (suc place) (b ∷ bs) h = noted_there place bs (omega (arith, h))

-- a number that is noted is the one that was, or was noted before
pub noted_cases : (other place : ℕ) (bs : List Bool) → IsTrue (noted_at other (note_at place bs)) → (other ≡ place) ⊎ IsTrue (noted_at other bs)
noted_cases other place [] t = inr t
noted_cases zero zero (b ∷ bs) t = inl refl
noted_cases (suc other) zero (b ∷ bs) t = inr t
noted_cases zero (suc place) (b ∷ bs) t = inr t
noted_cases (suc other) (suc place) (b ∷ bs) t = ⊎_elim (λ e. inl (ap suc e)) (λ s. inr s) (noted_cases other place bs t)

pub still_noted : (other place : ℕ) (bs : List Bool) → IsTrue (noted_at other bs) → IsTrue (noted_at other (note_at place bs))
still_noted other place [] t = t
still_noted zero zero (b ∷ bs) t = refl
still_noted (suc other) zero (b ∷ bs) t = t
still_noted zero (suc place) (b ∷ bs) t = t
still_noted (suc other) (suc place) (b ∷ bs) t = still_noted other place bs t

-- ---- the mark passes settled operations

after_append : (ps qs : List Place) (m : Mark) → after m (ps ++ qs) ≡ after (after m ps) qs
after_append [] qs m = refl
after_append (p ∷ ps) qs m = after_append ps qs (after_one m p)

less_or : (k c : ℕ) → (k < c) ⊎ (c ≤ k)
less_or zero zero = inr (omega arith)
less_or zero (suc c) = inl (omega arith)
less_or (suc k) zero = inr (omega arith)
less_or (suc k) (suc c) = ⊎_elim (λ x. inl (omega (arith, x))) (λ x. inr (omega (arith, x))) (less_or k c)

-- one more is settled than these
settled_more : (c : ℕ) (settled : List ℕ) → AreSettled c settled → Mem (c + 1) settled → AreSettled (c + 1) settled
settled_more c settled s m k l =
    ⊎_elim (λ below. s k below) (λ over. subst (λ j. Mem (j + 1) settled) (let r : c ≡ k = omega (arith, l, over) in r) m) (less_or k c)

-- one more
pub follow_one : (h : History) (m : Mark) (n : ℕ) (ps qs : List Place) (bs cs : List Bool) (end : Place)
    → ps ≡ end ∷ qs → bs ≡ true ∷ cs
    → Follows h (record { mark = m; passed = n; ends = ps; noted = bs })
    → Follows h (record { mark = after_one m end; passed = n + 1; ends = qs; noted = cs })
follow_one h m n ps qs bs cs end e b f =
    let len = length-append f.done (end ∷ []) in
    let c = f.passed in
    let first : Mem (n + 0 + 1) h.settled = f.noted 0 (subst (λ l. IsTrue (noted_at 0 l)) (sym b) refl) in
    let more : AreSettled (length f.done + 1) h.settled = settled_more (length f.done) h.settled f.settled (subst (λ j. Mem j h.settled) (let r : n + 0 + 1 ≡ length f.done + 1 = omega (arith, c) in r) first) in
    record {
      done = f.done ++ end ∷ [];
      puts = f.puts ∙ ap (λ l. f.done ++ l) e ∙ sym (append_assoc f.done (end ∷ []) qs);
      passed = omega (arith, len, c);
      settled = subst (λ j. AreSettled j h.settled) (let r : length f.done + 1 ≡ length (f.done ++ end ∷ []) = omega (arith, len) in r) more;
      noted = λ place t. subst (λ k. Mem k h.settled) (let r : n + suc place + 1 ≡ n + 1 + place + 1 = omega arith in r) (f.noted (suc place) (subst (λ l. IsTrue (noted_at (suc place) l)) (sym b) t));
      all = λ place s. subst (λ l. IsTrue (noted_at (suc place) l)) b (f.all (suc place) (subst (λ k. Mem k h.settled) (let r : n + 1 + place + 1 ≡ n + suc place + 1 = omega arith in r) s));
      mark = ap (λ k. after_one k end) f.mark ∙ sym (after_append f.done (end ∷ []) h.start);
    }

-- ---- what the trail of a history is

pub follow_begun : (start : Mark) → Follows (record { start = start; puts = []; settled = [] }) (record { mark = start; passed = 0; ends = []; noted = [] })
follow_begun start = record {
  done = [];
  puts = refl;
  passed = refl;
  settled = λ n l. absurd (omega (arith, l));
  noted = λ place t. absurd (false≢true t);
  all = λ place s. absurd s;
  mark = refl;
}

pub follow_put : (end : Place) (h : History) (t : Trailing) → Follows h t → Follows (and_put end h) (record t { ends = t.ends ++ end ∷ [] })
follow_put end h t f = record {
  done = f.done;
  puts = ap (λ ps. ps ++ end ∷ []) f.puts ∙ append_assoc f.done t.ends (end ∷ []);
  passed = f.passed;
  settled = f.settled;
  noted = f.noted;
  all = f.all;
  mark = f.mark;
}

-- other flags of the same numbers
pub follow_same : (h : History) (t : Trailing) (bs : List Bool) → SameNoted t.noted bs → Follows h t → Follows h (record t { noted = bs })
follow_same h t bs same f = record {
  done = f.done;
  puts = f.puts;
  passed = f.passed;
  settled = f.settled;
  noted = λ place b. f.noted place (sym (same place) ∙ b);
  all = λ place s. same place ∙ f.all place s;
  mark = f.mark;
}

pub open_same : (ps : List Place) (bs cs : List Bool) → SameNoted bs cs → StartsOpen ps bs → StartsOpen ps cs
open_same [] bs cs same s = tt
open_same (p ∷ ps) bs cs same s = same 0 ∙ s

-- a number before the mark is settled already
pub follow_passed : (n : ℕ) (h : History) (t : Trailing) → n ≤ t.passed → Follows h t → Follows (and_settled n h) t
follow_passed n h t l f = record {
  done = f.done;
  puts = f.puts;
  passed = f.passed;
  settled = λ k b. Mem-left (k + 1) h.settled (n ∷ []) (f.settled k b);
  noted = λ place b. Mem-left (t.passed + place + 1) h.settled (n ∷ []) (f.noted place b);
  all = λ place s. ⊎_elim (λ m. f.all place m) (λ e. absurd (omega (arith, l, e))) (Mem-push_cases (t.passed + place + 1) h.settled n s);
  mark = f.mark;
}

-- a later number is noted
pub follow_noted : (n place : ℕ) (h : History) (t : Trailing) → n ≡ t.passed + place + 1 → place < length t.noted → Follows h t → Follows (and_settled n h) (record t { noted = note_at place t.noted })
follow_noted n place h t e l f = record {
  done = f.done;
  puts = f.puts;
  passed = f.passed;
  settled = λ k b. Mem-left (k + 1) h.settled (n ∷ []) (f.settled k b);
  noted = λ other b. ⊎_elim (λ same. subst (λ k. Mem k (h.settled ++ n ∷ [])) (e ∙ ap (λ k. t.passed + k + 1) (sym same)) (Mem-last h.settled n)) (λ before. Mem-left (t.passed + other + 1) h.settled (n ∷ []) (f.noted other before)) (noted_cases other place t.noted b);
  all = λ other s.
      ⊎_elim (λ m. still_noted other place t.noted (f.all other m)) (λ same. subst (λ k. IsTrue (noted_at k (note_at place t.noted))) (let r : place ≡ other = omega (arith, e, same) in r) (noted_there place t.noted l)) (Mem-push_cases (t.passed + other + 1) h.settled n s);
  mark = f.mark;
}
