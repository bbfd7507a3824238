-- The first tick at which one of the operations is due.
use Rattle.std.proofs.Common.{◌≡◌, ℕ, ◌-◌, ◌<◌, ◌≤◌, List, [], ◌∷◌, ◌++◌, length, Option, Some, None, true, refl, sym, ap, ◌∙◌, subst, ⊎_elim, inl, inr, arith}
use Rattle.std.specs.Prelude.{◌⊎◌, slice_index_or, min, filter, cond, option_map, nat_lt}
use Rattle.std.specs.List.{AllByRecursion}
use Rattle.std.specs.List.Sorted.{IsPermutation}
use Rattle.std.specs.BinaryHeap.{IsUpperBound}
use Rattle.std.proofs.lemmas.Bool.{cases_Bool, ltb-true, ltb-false, lt-leb, le-leb, leb-true, leb-false}
use Rattle.std.proofs.lemmas.Map.Keys.{ge_from_not_lt}
use Rattle.std.proofs.lemmas.List.Sorted.{IsPermutation-map}
use Rattle.relay_delay.specs.declared.entry.Entry.{Entry}
use Rattle.relay_delay.specs.declared.later.ByDue.{ByDue}
use Rattle.relay_delay.specs.Waiting.{Delays, insert, is_due, sooner, first_due, due_entries, due_in}
use Rattle.relay_delay.specs.Heaps.{Heap, sort, insert_all, by_due, later_items, NoneDue, IsDelayed}
use Rattle.relay_delay.proofs.Sorting.{Mem, by_place, mem_moved}
use Rattle.relay_delay.proofs.Delaying.{due_here, none_here}

either : (a b : ℕ) → (a ≤ b) ⊎ (b ≤ a)
either a b = ⊎_elim (λ t. inl (let lt = ltb-true a b t in omega (arith, lt))) (λ f. inr (ltb-false a b f)) (cases_Bool (nat_lt a b))

sooner_swaps : (a b : ℕ) (o : Option ℕ) → sooner a (sooner b o) ≡ sooner b (sooner a o)
sooner_swaps a b None = let e : min a b ≡ min b a = omega arith in ap Some e
sooner_swaps a b (Some n) = let e : min a (min b n) ≡ min b (min a n) = omega arith in ap Some e

pub first_due_insert : (x : Entry) (es : List Entry) → first_due (insert x es) ≡ sooner x.due (first_due es)
first_due_insert x [] = refl
first_due_insert x (e ∷ es) = by_place (λ xs. first_due xs ≡ sooner x.due (first_due (e ∷ es))) x e es (λ lt. refl)
    (λ le. ap (sooner e.due) (first_due_insert x es) ∙ sooner_swaps e.due x.due (first_due es))

pub first_due_sorted : (es : List Entry) → first_due (sort es) ≡ first_due es
first_due_sorted [] = refl
first_due_sorted (e ∷ es) = first_due_insert e (sort es) ∙ ap (sooner e.due) (first_due_sorted es)

pub first_due_alone : (xs : List Entry) → first_due (insert_all xs []) ≡ first_due xs
first_due_alone [] = refl
first_due_alone (x ∷ xs) = first_due_insert x (insert_all xs []) ∙ ap (sooner x.due) (first_due_alone xs)

pub first_due_inserted : (xs es : List Entry) (m n : ℕ) → first_due es ≡ Some m → m ≤ n → (k : ℕ) × (first_due (insert_all xs es) ≡ Some k) × (k ≤ n)
first_due_inserted [] es m n e le = (m, e, le)
first_due_inserted (x ∷ xs) es m n e le = let ih = first_due_inserted xs es m n e le in
    (min x.due ih.0, first_due_insert x (insert_all xs es) ∙ ap (sooner x.due) ih.1, let l = ih.2 in omega (arith, l))

abbrev AtLeast : ℕ → Option ℕ → Type 0
AtLeast d None = Unit {0}
AtLeast d (Some k) = d ≤ k

-- the one that is due no later than any other
pub first_due_least : (t : Entry) (es : List Entry) → Mem t es → AllByRecursion (λ (e : Entry). t.due ≤ e.due) es → first_due es ≡ Some t.due
first_due_least t [] m a = elim m [ ]
first_due_least t (e ∷ es) m a = ⊎_elim {C = first_due (e ∷ es) ≡ Some t.due}
    (λ q. here (first_due es) (ap (λ (x : Entry). x.due) q) (bound es a.1))
    (λ n. ap (sooner e.due) (first_due_least t es n a.1) ∙ (let le = a.0 in let is : min e.due t.due ≡ t.due = omega (arith, le) in ap Some is))
    m
  where
    bound : (xs : List Entry) → AllByRecursion (λ (x : Entry). t.due ≤ x.due) xs → AtLeast t.due (first_due xs)
    bound [] b = tt
    bound (x ∷ xs) b = more x.due (first_due xs) b.0 (bound xs b.1)
      where
        more : (d : ℕ) (o : Option ℕ) → t.due ≤ d → AtLeast t.due o → AtLeast t.due (sooner d o)
        more d None le c = le
        more d (Some k) le c = omega (arith, le, c)

    here : (o : Option ℕ) → t.due ≡ e.due → AtLeast t.due o → sooner e.due o ≡ Some t.due
    here None is b = ap Some (sym is)
    here (Some k) is b = let j : min e.due k ≡ t.due = omega (arith, is, b) in ap Some j

least_items : (t : ByDue) (xs : List ByDue) → IsUpperBound by_due t xs → AllByRecursion (λ (e : Entry). t.0.due ≤ e.due) (later_items xs)
least_items t [] u = tt
least_items t (x ∷ xs) u = (ge_from_not_lt x.0.due t.0.due u.0, least_items t xs u.1)

pub later_first_due : (t : ByDue) (xs : List ByDue) → Mem t.0 (later_items xs) → IsUpperBound by_due t xs → first_due (sort (later_items xs)) ≡ Some t.0.due
later_first_due t xs m u = first_due_sorted (later_items xs) ∙ first_due_least t.0 (later_items xs) m (least_items t xs u)

pub later_pop_due : (t : ByDue) (xs ys : List ByDue) → IsPermutation xs (t ∷ ys) → IsUpperBound by_due t xs → first_due (sort (later_items xs)) ≡ Some t.0.due
later_pop_due t xs ys p u = later_first_due t xs (mem_moved (later_items xs) (t.0 ∷ later_items ys) (IsPermutation-map (λ (b : ByDue). b.0) xs (t ∷ ys) p) t.0 (inl refl)) u

-- ---- before the first due tick none is due

none_due_before : (clock d : ℕ) (o : Option ℕ) (m : ℕ) → sooner d o ≡ Some m → clock < m → clock < d
none_due_before clock d None m e lt = let is : d ≡ m = cc in omega (arith, is, lt)
none_due_before clock d (Some k) m e lt = let is : min d k ≡ m = cc in omega (arith, is, lt)

rest_due : (clock d : ℕ) (o : Option ℕ) (m : ℕ) → sooner d o ≡ Some m → clock < m → (o ≡ None) ⊎ ((k : ℕ) × (o ≡ Some k) × (clock < k))
rest_due clock d None m e lt = inl refl
rest_due clock d (Some k) m e lt = let is : min d k ≡ m = cc in inr (k, refl, omega (arith, is, lt))

pub none_without : (clock : ℕ) (es : List Entry) → first_due es ≡ None → NoneDue clock es
none_without clock [] e = tt
none_without clock (x ∷ es) e = absurd (some_none x.due (first_due es) e)
  where
    some_none : (d : ℕ) (o : Option ℕ) → sooner d o ≡ None → ⊥
    some_none d None e = cc
    some_none d (Some k) e = cc

pub none_before : (clock m : ℕ) (es : List Entry) → first_due es ≡ Some m → clock < m → NoneDue clock es
none_before clock m [] e lt = tt
none_before clock m (x ∷ es) e lt = (
  lt-leb x.due clock (none_due_before clock x.due (first_due es) m e lt),
  ⊎_elim {C = NoneDue clock es} (λ n. none_without clock es n) (λ s. none_before clock s.0 es s.1 s.2) (rest_due clock x.due (first_due es) m e lt),
)

pub due_at_first : (clock : ℕ) (e : Entry) (m : ℕ) → Some m ≡ Some e.due → m ≤ clock → is_due clock e ≡ true
due_at_first clock e m q le = let is : m ≡ e.due = cc in le-leb e.due clock (omega (arith, is, le))

pub top_is : (t : ByDue) (xs : List ByDue) → 0 < length xs → t ≡ slice_index_or xs 0 t → Mem t.0 (later_items xs)
top_is t [] lt e = absurd (omega (arith, lt))
top_is t (x ∷ xs) lt e = inl (ap (λ (b : ByDue). b.0) e)

-- ---- when the first is due

some_due : (clock : ℕ) (es : List Entry) → 0 < length (filter (is_due clock) es) → (m : ℕ) × (first_due es ≡ Some m) × (m ≤ clock)
some_due clock [] lt = absurd (omega (arith, lt))
some_due clock (x ∷ xs) lt = ⊎_elim {C = (m : ℕ) × (first_due (x ∷ xs) ≡ Some m) × (m ≤ clock)}
    (λ t. now (first_due xs) (leb-true x.due clock t))
    (λ f. let ih = some_due clock xs (subst (λ b. 0 < length (cond b (x ∷ filter (is_due clock) xs) (filter (is_due clock) xs))) f lt) in
    let le = ih.2 in (min x.due ih.0, ap (sooner x.due) ih.1, omega (arith, le)))
    (cases_Bool (is_due clock x))
  where
    now : (o : Option ℕ) → x.due ≤ clock → (m : ℕ) × (sooner x.due o ≡ Some m) × (m ≤ clock)
    now None le = (x.due, refl, le)
    now (Some k) le = (min x.due k, refl, omega (arith, le))

pub due_now : (d : Delays) → 0 < length (due_entries d) → Some 0 ≡ due_in d
due_now d lt =
    let s = some_due d.clock d.entries lt in
    let le = s.2 in let zero : 0 ≡ s.0 - d.clock = omega (arith, le) in
    ap Some zero ∙ sym (ap (option_map (λ due. due - d.clock)) s.1)

pub after_clock : (clock m : ℕ) (es : List Entry) → NoneDue clock es → Some m ≡ first_due es → clock < m
after_clock clock m [] n e = absurd (cc)
after_clock clock m (x ∷ xs) n e = by (first_due xs) (leb-false x.due clock n.0) (λ k q. after_clock clock k xs n.1 q) e
  where
    by : (o : Option ℕ) → clock < x.due → ((k : ℕ) → Some k ≡ o → clock < k) → Some m ≡ sooner x.due o → clock < m
    by None lt f q = let is : m ≡ x.due = cc in omega (arith, is, lt)
    by (Some k) lt f q = let is : m ≡ min x.due k = cc in let l = f k refl in omega (arith, is, lt, l)

-- none is due yet
pub due_later : (clock room : ℕ) (fs : List Entry) (r l : Heap) (o : Option ℕ) (d : Delays) → IsDelayed clock room fs r l → ◌≡◌ {A = Delays} (record { clock = clock; room = room; entries = insert_all l.entries (fs ++ r.entries) }) d
    → length (due_entries d) ≤ 0 → o ≡ first_due l.entries → option_map (λ due. due - clock) o ≡ due_in d
due_later clock room fs r l o d delayed shown few is =
    let n = ap (λ (s : Delays). length (due_entries s)) shown in
    let m = ap length (due_here clock room fs r l delayed) in
    let none = none_here (fs ++ r.entries) (length (due_entries d)) (sym n ∙ m) (omega (arith, few)) in
    ap (option_map (λ due. due - clock)) (is ∙ sym (ap (λ es. first_due (insert_all l.entries es)) none ∙ first_due_alone l.entries))
    ∙ ap due_in shown
