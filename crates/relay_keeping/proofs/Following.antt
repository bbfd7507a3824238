-- The trails of several inputs, one of which is changed.
use Rattle.std.proofs.Common.{◌≡◌, ◌≢◌, ℕ, zero, suc, ◌+◌, ◌<◌, ◌≤◌, eqb, eq-eqb, ne_eqb, List, [], ◌∷◌, ◌++◌, length, set, get_or, take, Some, None, Bool, true, false, refl, sym, ap, ◌∙◌, subst, ⊎_elim, append_assoc, append-nil, arith}
use Rattle.std.specs.Prelude.{if◌then◌else◌, slice_get}
use Rattle.std.proofs.Math.Seq.{map-set_same}
use Rattle.std.proofs.lemmas.List.{map-append, take_more}
use Rattle.relay_action.specs.declared.operation.OpName.{OpName}
use Rattle.relay_results.proofs.Lists.{at-cases, at-within, equal_or_not, some_same}
use Rattle.relay_resume.specs.declared.mark.Mark.{Mark}
use Rattle.relay_resume.specs.declared.mark.Place.{Place}
use Rattle.relay_resume.specs.Trails.{History, IsMarkOf, IsOf, Trailing, begun}
use Rattle.relay_receipts.specs.declared.notice.Notice.{Notice}
use Rattle.relay_receipts.specs.Notices.{said_by}
use Rattle.relay_receipts.proofs.Said.{said_by-own, said_by-other}
use Rattle.relay_keeping.specs.declared.told.Told.{Told}
use Rattle.relay_keeping.specs.declared.trails.Followed.{Followed}
use Rattle.relay_keeping.specs.Histories.{history_of, names_in, numbers_of, places_in, said_in}
use Rattle.relay_keeping.specs.Keepers.{IsMarkAfter}
use Rattle.relay_keeping.specs.Steps.{AreTrails, FollowAll, and_puts, starts_of, with_puts}
use Rattle.relay_keeping.proofs.Messages.{names_in-append, numbers_of-append, places_in-append}

-- ---- one of several

set_there : (fs : List Followed) (k : ℕ) (y f : Followed) → slice_get (set fs k y) k ≡ Some f → f ≡ y
set_there [] k y f e = absurd (cc)
set_there (x ∷ fs) zero y f e = some_same f y (sym e)
set_there (x ∷ fs) (suc k) y f e = set_there fs k y f e

set_other : (fs : List Followed) (k p : ℕ) (y : Followed) → p ≢ k → slice_get (set fs k y) p ≡ slice_get fs p
set_other [] k p y n = refl
set_other (x ∷ fs) zero zero y n = absurd (n refl)
set_other (x ∷ fs) zero (suc p) y n = refl
set_other (x ∷ fs) (suc k) zero y n = refl
set_other (x ∷ fs) (suc k) (suc p) y n = set_other fs k p y (λ e. n (ap suc e))

get_there : (fs : List Followed) (k : ℕ) (x : Followed) → k < length fs → x ≡ get_or fs k x → slice_get fs k ≡ Some x
get_there [] k x h e = absurd (omega (arith, h))
get_there (f ∷ fs) zero x h e = ap Some (sym e)
get_there (f ∷ fs) (suc k) x h e = get_there fs k x (omega (arith, h)) e

-- the inputs are read from the same marks
pub same_starts : (fs : List Followed) (k : ℕ) (x y : Followed) → x ≡ get_or fs k x → y.start ≡ x.start → starts_of (set fs k y) ≡ starts_of fs
same_starts fs k x y is same = map-set_same (λ (f : Followed). f.start) fs k y x (same ∙ ap (λ (f : Followed). f.start) is)

-- the history of one input
abbrev pub history_at : (ℕ → List Place) → List OpName → ℕ → Mark → History
history_at puts names p start = record { start = start; puts = puts p; settled = numbers_of p names }

-- histories that differ at one place at most
pub record DifferAt (k : ℕ) (puts puts' : ℕ → List Place) (names names' : List OpName) : Type 0 where
  pub other_puts : (p : ℕ) → p ≢ k → puts p ≡ puts' p
  pub other_names : (p : ℕ) → p ≢ k → numbers_of p names ≡ numbers_of p names'

other_history : (k p : ℕ) (puts puts' : ℕ → List Place) (names names' : List OpName) (start : Mark) → DifferAt k puts puts' names names' → p ≢ k → history_at puts names p start ≡ history_at puts' names' p start
other_history k p puts puts' names names' start d n i = record { start = start; puts = d.other_puts p n i; settled = d.other_names p n i }

pub trails_set : (k : ℕ) (puts puts' : ℕ → List Place) (names names' : List OpName) (fs : List Followed) (x y : Followed)
    → k < length fs → x ≡ get_or fs k x → y.start ≡ x.start → DifferAt k puts puts' names names'
    → (IsOf (history_at puts names k x.start) x.trail → IsOf (history_at puts' names' k x.start) y.trail)
    → AreTrails puts names fs → AreTrails puts' names' (set fs k y)
trails_set k puts puts' names names' fs x y h is same d step all p f at =
    ⊎_elim (λ (e : p ≡ k).
    let is_y : f ≡ y = set_there fs k y f (subst (λ q. slice_get (set fs k y) q ≡ Some f) e at) in
    let new = step (all k x (get_there fs k x h is)) in
    subst (λ q. IsOf (history_at puts' names' q f.start) f.trail) (sym e)
    (subst (λ (g : Followed). IsOf (history_at puts' names' k g.start) g.trail) (sym is_y) (subst (λ m. IsOf (history_at puts' names' k m) y.trail) (sym same) new)))
    (λ (n : p ≢ k). subst (λ t. IsOf t f.trail) (other_history k p puts puts' names names' f.start d n) (all p f (sym (set_other fs k p y n) ∙ at)))
    (equal_or_not p k)

-- there is no such input
pub trails_none : (k : ℕ) (puts puts' : ℕ → List Place) (names names' : List OpName) (fs : List Followed) → length fs ≤ k → DifferAt k puts puts' names names'
    → AreTrails puts names fs → AreTrails puts' names' fs
trails_none k puts puts' names names' fs h d all p f at =
    let w = at-within fs p f at in
    subst (λ t. IsOf t f.trail) (other_history k p puts puts' names names' f.start d (λ e. absurd (omega (arith, h, w, e)))) (all p f at)

-- ---- operations are put

pub differ_puts : (k : ℕ) (puts : ℕ → List Place) (names : List OpName) (ends : List Place) → DifferAt k puts (with_puts puts k ends) names names
differ_puts k puts names ends = record {
  other_puts = λ p n. sym (subst (λ t. (if t then puts p ++ ends else puts p) ≡ puts p) (sym (ne_eqb p k n)) refl);
  other_names = λ p n. refl;
}

pub puts_there : (k : ℕ) (puts : ℕ → List Place) (ends : List Place) → puts k ++ ends ≡ with_puts puts k ends k
puts_there k puts ends = subst (λ t. puts k ++ ends ≡ (if t then puts k ++ ends else puts k)) (sym (eq-eqb k k refl)) refl

-- ---- an operation is settled

number_one : (p : ℕ) (name : OpName) → name.producer ≡ p → numbers_of p (name ∷ []) ≡ name.number ∷ []
number_one p name e = subst (λ t. (if t then name.number ∷ [] else []) ≡ name.number ∷ []) (sym (eq-eqb name.producer p e)) refl

number_none : (p : ℕ) (name : OpName) → name.producer ≢ p → numbers_of p (name ∷ []) ≡ []
number_none p name n = subst (λ t. (if t then name.number ∷ [] else []) ≡ []) (sym (ne_eqb name.producer p n)) refl

pub differ_names : (puts : ℕ → List Place) (names : List OpName) (name : OpName) → DifferAt name.producer puts puts names (names ++ name ∷ [])
differ_names puts names name = record {
  other_puts = λ p n. refl;
  other_names = λ p n. sym (numbers_of-append p names (name ∷ []) ∙ ap (λ l. numbers_of p names ++ l) (number_none p name (λ e. n (sym e))) ∙ append-nil (numbers_of p names));
}

pub names_there : (names : List OpName) (name : OpName) → numbers_of name.producer names ++ name.number ∷ [] ≡ numbers_of name.producer (names ++ name ∷ [])
names_there names name = sym (numbers_of-append name.producer names (name ∷ []) ∙ ap (λ l. numbers_of name.producer names ++ l) (number_one name.producer name refl))

-- ---- new trails

-- one more input
pub trails_push : (fs gs : List Followed) (x : Followed) → gs ≡ fs ++ x ∷ [] → IsOf (begun x.start) x.trail → FollowAll [] fs → FollowAll [] gs
trails_push fs gs x e new all p f at =
    ⊎_elim (λ l. all p f l) (λ r. subst (λ (g : Followed). IsOf (begun g.start) g.trail) (sym r.1) new) (at-cases fs x p f (subst (λ l. slice_get l p ≡ Some f) e at))

pub starts_push : (fs gs : List Followed) (x : Followed) (starts : List Mark) (k : ℕ) (d : Mark) → gs ≡ fs ++ x ∷ [] → k < length starts → get_or starts k d ≡ x.start → starts_of fs ≡ take k starts → starts_of gs ≡ take (k + 1) starts
starts_push fs gs x starts k d e l is so_far =
    ap starts_of e ∙ map-append (λ (f : Followed). f.start) fs (x ∷ []) ∙ ap (λ ms. ms ++ x.start ∷ []) so_far ∙ ap (λ m. take k starts ++ m ∷ []) (sym is) ∙ sym (take_more starts k d l)

-- ---- notices

-- the same histories
pub trails_same : (puts puts' : ℕ → List Place) (names names' : List OpName) (fs : List Followed) → ((p : ℕ) → puts p ≡ puts' p) → names ≡ names' → AreTrails puts names fs → AreTrails puts' names' fs
trails_same puts puts' names names' fs same e all p f at =
    subst (λ t. IsOf t f.trail) (λ i. record { start = f.start; puts = same p i; settled = numbers_of p (e i) }) (all p f at)

names_next : (taken : List (Notice Told)) (n : Notice Told) → names_in (said_in (taken ++ n ∷ [])) ≡ names_in (said_in taken) ++ names_in (n.told ∷ [])
names_next taken n = ap names_in (map-append (λ (m : Notice Told). m.told) taken (n ∷ [])) ∙ names_in-append (said_in taken) (n.told ∷ [])

places_own : (taken : List (Notice Told)) (n : Notice Told) (p : ℕ) → n.lane ≡ p → places_in (said_by p (taken ++ n ∷ [])) ≡ places_in (said_by p taken) ++ places_in (n.told ∷ [])
places_own taken n p e = ap places_in (said_by-own p taken n e) ∙ places_in-append (said_by p taken) (n.told ∷ [])

-- a notice that tells no places
places_none : (taken : List (Notice Told)) (n : Notice Told) → places_in (n.told ∷ []) ≡ [] → (p : ℕ) → places_in (said_by p taken) ≡ places_in (said_by p (taken ++ n ∷ []))
places_none taken n none p =
    sym (⊎_elim (λ (e : n.lane ≡ p). places_own taken n p e ∙ ap (λ l. places_in (said_by p taken) ++ l) none ∙ append-nil (places_in (said_by p taken)))
    (λ (d : n.lane ≢ p). ap places_in (said_by-other p taken n d)) (equal_or_not n.lane p))

places_with : (taken : List (Notice Told)) (n : Notice Told) (ends : List Place) → places_in (n.told ∷ []) ≡ ends → (p : ℕ) → with_puts (λ q. places_in (said_by q taken)) n.lane ends p ≡ places_in (said_by p (taken ++ n ∷ []))
places_with taken n ends is p =
    ⊎_elim (λ (e : p ≡ n.lane). subst (λ t. (if t then places_in (said_by p taken) ++ ends else places_in (said_by p taken)) ≡ places_in (said_by p (taken ++ n ∷ []))) (sym (eq-eqb p n.lane e)) (sym (places_own taken n p (sym e) ∙ ap (λ l. places_in (said_by p taken) ++ l) is)))
    (λ (d : p ≢ n.lane). subst (λ t. (if t then places_in (said_by p taken) ++ ends else places_in (said_by p taken)) ≡ places_in (said_by p (taken ++ n ∷ []))) (sym (ne_eqb p n.lane d)) (sym (ap places_in (said_by-other p taken n (λ e. d (sym e))))))
    (equal_or_not p n.lane)

-- what a message tells was followed
pub told_put : (k : ℕ) (puts : ℕ → List Place) (names : List OpName) (ends : List Place) (fs : List Followed) → AreTrails (with_puts puts k ends) names fs → AreTrails (with_puts puts k (ends ++ [])) (names ++ []) fs
told_put k puts names ends fs all = subst (λ ps. AreTrails (with_puts puts k ps) (names ++ []) fs) (sym (append-nil ends)) (subst (λ ns. AreTrails (with_puts puts k ends) ns fs) (sym (append-nil names)) all)

with_none : (k p : ℕ) (puts : ℕ → List Place) → puts p ≡ with_puts puts k [] p
with_none k p puts = none (eqb p k) where
  none : (t : Bool) → puts p ≡ (if t then puts p ++ [] else puts p)
  none true = sym (append-nil (puts p))
  none false = refl

pub told_settled : (k : ℕ) (puts : ℕ → List Place) (names more : List OpName) (fs : List Followed) → AreTrails puts (names ++ more) fs → AreTrails (with_puts puts k []) (names ++ (more ++ [])) fs
told_settled k puts names more fs all = trails_same _ _ _ _ fs (λ p. with_none k p puts) (ap (λ l. names ++ l) (sym (append-nil more))) all

-- a notice
pub follows_told : (taken : List (Notice Told)) (n : Notice Told) (x : Told) (fs : List Followed) → n.told ≡ Some x
    → AreTrails (with_puts (λ q. places_in (said_by q taken)) n.lane (places_in (Some x ∷ []))) (names_in (said_in taken) ++ names_in (Some x ∷ [])) fs → FollowAll (taken ++ n ∷ []) fs
follows_told taken n x fs is all =
    trails_same _ _ _ _ fs (places_with taken n (places_in (Some x ∷ [])) (ap (λ t. places_in (t ∷ [])) is)) (sym (names_next taken n ∙ ap (λ t. names_in (said_in taken) ++ names_in (t ∷ [])) is)) all

-- a last notice
pub follows_none : (taken : List (Notice Told)) (n : Notice Told) (fs : List Followed) → n.told ≡ None → FollowAll taken fs → FollowAll (taken ++ n ∷ []) fs
follows_none taken n fs is all =
    trails_same _ _ _ _ fs (places_none taken n (ap (λ t. places_in (t ∷ [])) is)) (sym (names_next taken n ∙ ap (λ t. names_in (said_in taken) ++ names_in (t ∷ [])) is ∙ append-nil (names_in (said_in taken)))) all

-- ---- the mark

start_there : (fs : List Followed) (p : ℕ) (f : Followed) → slice_get fs p ≡ Some f → slice_get (starts_of fs) p ≡ Some f.start
start_there [] p f e = absurd (cc)
start_there (x ∷ fs) zero f e = ap (λ (g : Followed). Some g.start) (some_same x f e)
start_there (x ∷ fs) (suc p) f e = start_there fs p f e

pub mark_after : (fs : List Followed) (p : ℕ) (f : Followed) (m : Mark) (taken : List (Notice Told)) → slice_get fs p ≡ Some f → ((h : History) → IsOf h f.trail → IsMarkOf h m) → FollowAll taken fs → IsMarkAfter (starts_of fs) taken p m
mark_after fs p f m taken at mark all = record {
  start = f.start;
  is_start = start_there fs p f at;
  is_mark = mark (history_of f.start p taken) (all p f at);
}

-- an item, as indexing gives it
pub mark_there : (fs : List Followed) (p : ℕ) (f : Followed) (m : Mark) (taken : List (Notice Told)) → p < length fs → f ≡ get_or fs p f → ((h : History) → IsOf h f.trail → IsMarkOf h m) → FollowAll taken fs → IsMarkAfter (starts_of fs) taken p m
mark_there fs p f m taken h is mark all = mark_after fs p f m taken (get_there fs p f h is) mark all

-- ---- several operations are put

pub puts_none : (h : History) (t : Trailing) → IsOf h t → IsOf (and_puts [] h) t
puts_none h t s = subst (λ ps. IsOf (record h { puts = ps }) t) (sym (append-nil h.puts)) s

pub puts_more : (h : History) (ends : List Place) (k : ℕ) (end d : Place) (t : Trailing) → k < length ends → get_or ends k d ≡ end
    → IsOf (record h { puts = (h.puts ++ take k ends) ++ end ∷ [] }) t → IsOf (and_puts (take (k + 1) ends) h) t
puts_more h ends k end d t l is s =
    subst (λ ps. IsOf (record h { puts = ps }) t) (append_assoc h.puts (take k ends) (end ∷ []) ∙ ap (λ qs. h.puts ++ qs) (ap (λ e. take k ends ++ e ∷ []) (sym is) ∙ sym (take_more ends k d l))) s

-- ---- several operations are settled

pub names_none : (puts : ℕ → List Place) (before : List OpName) (fs : List Followed) → AreTrails puts before fs → AreTrails puts (before ++ []) fs
names_none puts before fs all = subst (λ ns. AreTrails puts ns fs) (sym (append-nil before)) all

pub names_more : (puts : ℕ → List Place) (before names : List OpName) (k : ℕ) (name d : OpName) (fs : List Followed) → k < length names → get_or names k d ≡ name
    → AreTrails puts ((before ++ take k names) ++ name ∷ []) fs → AreTrails puts (before ++ take (k + 1) names) fs
names_more puts before names k name d fs l is all =
    subst (λ ns. AreTrails puts ns fs) (append_assoc before (take k names) (name ∷ []) ∙ ap (λ ms. before ++ ms) (ap (λ e. take k names ++ e ∷ []) (sym is) ∙ sym (take_more names k d l))) all

pub names_all : (puts : ℕ → List Place) (before names : List OpName) (k : ℕ) (fs : List Followed) → length names ≤ k → AreTrails puts (before ++ take k names) fs → AreTrails puts (before ++ names) fs
names_all puts before names k fs l all = subst (λ ns. AreTrails puts (before ++ ns) fs) (take_all names k l) all where
  take_all : (xs : List OpName) (n : ℕ) → length xs ≤ n → take n xs ≡ xs
  take_all [] zero h = refl
  take_all [] (suc n) h = refl
  take_all (x ∷ xs) zero h = absurd (omega (arith, h))
  take_all (x ∷ xs) (suc n) h = ap (λ l. x ∷ l) (take_all xs n (omega (arith, h)))
