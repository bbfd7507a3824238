-- The mark of a trail, and that a history has one.
use Rattle.std.proofs.Common.{◌≡◌, ℕ, suc, ◌+◌, ◌<◌, List, [], ◌∷◌, ◌++◌, length, get_or, drop, refl, sym, ap, ap₂, ◌∙◌, subst, arith}
use Rattle.std.proofs.lemmas.Bool.{false≢true}
use Rattle.relay_results.specs.Words.{Mem}
use Rattle.relay_resume.specs.declared.mark.Mark.{Mark}
use Rattle.relay_resume.specs.declared.mark.Place.{Place}
use Rattle.relay_resume.specs.Trails.{History, Follows, IsMarkOf, IsOf, StartsOpen, StopsAt, Trailing, after}

-- the operation after those of a trail that follows the history is not settled
stops_there : (h : History) (t : Trailing) (ps : List Place) (f : Follows h t) → ps ≡ t.ends → StartsOpen ps t.noted → StopsAt ps (length f.done + 1) h.settled
stops_there h t [] f e s = tt
stops_there h t (p ∷ ps) f e s = λ m. absurd (false≢true (sym s ∙ f.all 0 (subst (λ k. Mem k h.settled) (let r : length f.done + 1 ≡ t.passed + 0 + 1 = (let c = f.passed in omega (arith, c)) in r) m)))

pub mark_of : (h : History) (t : Trailing) → IsOf h t → IsMarkOf h t.mark
mark_of h t s = record {
  done = s.follows.done;
  rest = t.ends;
  puts = s.follows.puts;
  settled = s.follows.settled;
  stops = stops_there h t t.ends s.follows refl s.stops;
  mark = s.follows.mark;
}

-- runs of settled operations of the same list that stop are the same, counted from a number on
one_run : (n : ℕ) (settled : List ℕ) (ps qs rest other : List Place)
    → ((k : ℕ) → k < length ps → Mem (n + k + 1) settled) → ((k : ℕ) → k < length qs → Mem (n + k + 1) settled)
    → StopsAt rest (n + length ps + 1) settled → StopsAt other (n + length qs + 1) settled
    → ps ++ rest ≡ qs ++ other → ps ≡ qs
one_run n settled [] [] rest other s t o u e = refl
one_run n settled [] (q ∷ qs) rest other s t o u e = absurd (subst (λ l. StopsAt l (n + 0 + 1) settled) e o (t 0 (omega arith)))
one_run n settled (p ∷ ps) [] rest other s t o u e = absurd (subst (λ l. StopsAt l (n + 0 + 1) settled) (sym e) u (s 0 (omega arith)))
one_run n settled (p ∷ ps) (q ∷ qs) rest other s t o u e =
    ap₂ (λ (r : Place) (rs : List Place). r ∷ rs) (ap (λ l. get_or l 0 p) e)
    (one_run (n + 1) settled ps qs rest other
    (λ k l. subst (λ j. Mem j settled) (let r : n + (k + 1) + 1 ≡ n + 1 + k + 1 = omega arith in r) (s (k + 1) (omega (arith, l))))
    (λ k l. subst (λ j. Mem j settled) (let r : n + (k + 1) + 1 ≡ n + 1 + k + 1 = omega arith in r) (t (k + 1) (omega (arith, l))))
    (subst (λ j. StopsAt rest j settled) (let r : n + suc (length ps) + 1 ≡ n + 1 + length ps + 1 = omega arith in r) o)
    (subst (λ j. StopsAt other j settled) (let r : n + suc (length qs) + 1 ≡ n + 1 + length qs + 1 = omega arith in r) u)
    (ap (drop 1) e))

counted : (settled : List ℕ) (k : ℕ) → Mem (k + 1) settled → Mem (0 + k + 1) settled
counted settled k m = subst (λ j. Mem j settled) (let r : k + 1 ≡ 0 + k + 1 = omega arith in r) m

stops_counted : (rest : List Place) (k : ℕ) (settled : List ℕ) → StopsAt rest (k + 1) settled → StopsAt rest (0 + k + 1) settled
stops_counted rest k settled s = subst (λ j. StopsAt rest j settled) (let r : k + 1 ≡ 0 + k + 1 = omega arith in r) s

pub one_mark : (h : History) (m n : Mark) → IsMarkOf h m → IsMarkOf h n → m ≡ n
one_mark h m n a b = a.mark ∙ ap (after h.start) (one_run 0 h.settled a.done b.done a.rest b.rest (λ k l. counted h.settled k (a.settled k l)) (λ k l. counted h.settled k (b.settled k l)) (stops_counted a.rest (length a.done) h.settled a.stops) (stops_counted b.rest (length b.done) h.settled b.stops) (sym a.puts ∙ b.puts)) ∙ sym b.mark
