-- What each call of a delay queue makes of those in front, those that are ready and those that are later.
use Rattle.std.proofs.Common.{◌≡◌, ℕ, zero, suc, ◌+◌, ◌-◌, ◌<◌, ◌≤◌, List, [], ◌∷◌, ◌++◌, length, length-append, append_assoc, drop, Option, Some, None, true, false, refl, sym, ap, ◌∙◌, subst, ⊎_elim, arith}
use Rattle.std.specs.Prelude.{filter, slice_get, MatchOption, slice_index_or}
use Rattle.std.specs.List.{AllByRecursion}
use Rattle.std.proofs.lemmas.Bool.{cases_Bool, lt-leb, le-leb, leb-true}
use Rattle.relay_delay.specs.declared.entry.Entry.{Entry}
use Rattle.relay_delay.specs.Waiting.{Delays, AllAbove, Rises, has_version, insert, without, is_due}
use Rattle.relay_delay.specs.Heaps.{Heap, insert_all, AllDue, NoneDue, AllUpTo, StartsUpTo, IsMoving, IsDelayed}
use Rattle.relay_delay.proofs.Sorting.{by_place, above_more, insert_past, insert_front, length_insert, length_inserted, rises_insert, insert_rises, fresh_head, fresh_cons, fresh_above, insert_fresh, inserted_fresh, inserted_base, inserted_more, without_insert}

-- ---- what holds of each

all_insert : (P : Entry → Type 0) (x : Entry) (es : List Entry) → P x → AllByRecursion P es → AllByRecursion P (insert x es)
all_insert P x [] p a = (p, tt)
all_insert P x (e ∷ es) p a = by_place (AllByRecursion P) x e es (λ lt. (p, a)) (λ le. (a.0, all_insert P x es p a.1))

all_later : (clock next : ℕ) (es : List Entry) → clock ≤ next → AllDue clock es → AllDue next es
all_later clock next [] le a = tt
all_later clock next (e ∷ es) le a = (let l = leb-true e.due clock a.0 in le-leb e.due next (omega (arith, l, le)), all_later clock next es le a.1)

-- ---- which are due

filter_insert : (clock : ℕ) (x : Entry) (es : List Entry) → is_due clock x ≡ false → filter (is_due clock) (insert x es) ≡ filter (is_due clock) es
filter_insert clock x [] n = rw n refl
filter_insert clock x (e ∷ es) n = by_place (λ xs. filter (is_due clock) xs ≡ filter (is_due clock) (e ∷ es)) x e es
    (λ lt. rw n refl)
    (λ le. ⊎_elim {C = filter (is_due clock) (e ∷ insert x es) ≡ filter (is_due clock) (e ∷ es)}
    (λ t. rw t (ap (λ xs. e ∷ xs) (filter_insert clock x es n)))
    (λ f. rw f (filter_insert clock x es n))
    (cases_Bool (is_due clock e)))

filter_all : (clock : ℕ) (es : List Entry) → AllDue clock es → filter (is_due clock) es ≡ es
filter_all clock [] a = refl
filter_all clock (e ∷ es) a = rw (a.0) (ap (λ xs. e ∷ xs) (filter_all clock es a.1))

pub due_is : (clock : ℕ) (xs es : List Entry) → NoneDue clock xs → AllDue clock es → filter (is_due clock) (insert_all xs es) ≡ es
due_is clock [] es n a = filter_all clock es a
due_is clock (x ∷ xs) es n a = filter_insert clock x (insert_all xs es) n.0 ∙ due_is clock xs es n.1 a

-- ---- increasing versions

pub inserted_rises : (xs es : List Entry) → Rises (insert_all xs es) → Rises es
inserted_rises [] es r = r
inserted_rises (x ∷ xs) es r = inserted_rises xs es (insert_rises x (insert_all xs es) r).1

-- one of the list that the others are put into is not among those
base_fresh : (x : Entry) (xs es : List Entry) → Rises (insert_all xs (insert x es)) → has_version x.version xs ≡ false
base_fresh x [] es r = refl
base_fresh x (y ∷ ys) es r =
    let s = insert_rises y (insert_all ys (insert x es)) r in
    let n = fresh_head y.version x es (insert_fresh y.version x es (inserted_fresh y.version ys (insert x es) s.0).1) in
    fresh_cons x.version y ys (λ q. n (sym q)) (base_fresh x ys es s.1)

-- one of those that are put into the list is not among the others, nor in the list
pub more_fresh : (x : Entry) (xs es : List Entry) → Rises (insert_all (insert x xs) es) → (has_version x.version xs ≡ false) × (has_version x.version es ≡ false)
more_fresh x [] es r = (refl, (insert_rises x es r).0)
more_fresh x (y ∷ ys) es r = by_place (λ zs. Rises (insert_all zs es) → (has_version x.version (y ∷ ys) ≡ false) × (has_version x.version es ≡ false)) x y ys
    (λ lt s. inserted_fresh x.version (y ∷ ys) es (insert_rises x (insert_all (y ∷ ys) es) s).0)
    (λ le s.
    let t = insert_rises y (insert_all (insert x ys) es) s in
    let n = fresh_head y.version x ys (insert_fresh y.version x ys (inserted_fresh y.version (insert x ys) es t.0).0) in
    let ih = more_fresh x ys es t.1 in
    (fresh_cons x.version y ys (λ q. n (sym q)) ih.0, ih.1))
    r

-- ---- those in front

rises_append : (xs ys : List Entry) → Rises (xs ++ ys) → Rises ys
rises_append [] ys r = r
rises_append (x ∷ xs) ys r = rises_append xs ys r.1

-- the last in front, back among those that are ready
pub back_fresh : (xs ys : List Entry) (x : Entry) → Rises ((xs ++ x ∷ []) ++ ys) → has_version x.version ys ≡ false
back_fresh xs ys x r = fresh_above x.version ys (rises_append xs (x ∷ ys) (subst Rises (append_assoc xs (x ∷ []) ys) r)).0

pub back_kept : (xs ys : List Entry) (x : Entry) → Rises ((xs ++ x ∷ []) ++ ys) → xs ++ insert x ys ≡ (xs ++ x ∷ []) ++ ys
back_kept xs ys x r = ap (λ zs. xs ++ zs) (insert_front x ys (rises_append xs (x ∷ ys) (subst Rises (append_assoc xs (x ∷ []) ys) r)).0) ∙ sym (append_assoc xs (x ∷ []) ys)

-- one more that is above all in front goes among those that are ready
pub insert_behind : (x : Entry) (xs ys : List Entry) → AllUpTo x.version xs → xs ++ insert x ys ≡ insert x (xs ++ ys)
insert_behind x [] ys a = refl
insert_behind x (e ∷ es) ys a = ap (λ zs. e ∷ zs) (insert_behind x es ys a.1) ∙ sym (insert_past x e (es ++ ys) a.0)

pub last_up_to : (v : ℕ) (es : List Entry) (x : Entry) → Rises es → 0 < length es → x ≡ slice_index_or es (length es - 1) x → x.version ≤ v → AllUpTo v es
last_up_to v es x r lt e le = by es r lt (subst (λ y. y.version ≤ v) e le)
  where
    at_last : (a b : Entry) (bs : List Entry) → slice_index_or (a ∷ b ∷ bs) (length (a ∷ b ∷ bs) - 1) x ≡ slice_index_or (b ∷ bs) (length (b ∷ bs) - 1) x
    at_last a b bs = let z : length (a ∷ b ∷ bs) - 1 ≡ suc (length (b ∷ bs) - 1) = omega arith in ap (λ n. slice_index_or (a ∷ b ∷ bs) n x) z

    by : (ys : List Entry) → Rises ys → 0 < length ys → (slice_index_or ys (length ys - 1) x).version ≤ v → AllUpTo v ys
    by [] s l u = tt
    by (y ∷ []) s l u = (u, tt)
    by (y ∷ z ∷ zs) s l u =
        let rest = by (z ∷ zs) s.1 (omega arith) (subst (λ w. w.version ≤ v) (at_last y z zs) u) in
        let above = s.0.0 in let le' = rest.0 in
        (omega (arith, above, le'), rest)

pub first_above : (v : ℕ) (es : List Entry) (x : Entry) → Rises es → x ≡ slice_index_or es 0 x → v < x.version → AllAbove v es
first_above v [] x r e lt = tt
first_above v (y ∷ ys) x r e lt = let above = subst (λ (z : Entry). v < z.version) e lt in (above, above_more v y.version ys (omega (arith, above)) r.0)

pub first_up_to : (v : ℕ) (es : List Entry) (x : Entry) → 0 < length es → x ≡ slice_index_or es 0 x → x.version ≤ v → StartsUpTo v es
first_up_to v [] x some e le = absurd (omega (arith, some))
first_up_to v (y ∷ ys) x some e le = subst (λ (z : Entry). z.version ≤ v) e le

-- ---- how many

pub counted : (fs rs ls : List Entry) → length (insert_all ls (fs ++ rs)) ≡ length fs + length rs + length ls
counted fs rs ls = let a = length_inserted ls (fs ++ rs) in let b = length-append fs rs in omega (arith, a, b)

-- ---- the calls

-- what the fields are after a call, and the list that they show
pub record Becomes (clock room : ℕ) (fs : List Entry) (r l : Heap) (es : List Entry) : Type 0 where
  pub delayed : IsDelayed clock room fs r l
  pub entries : insert_all l.entries (fs ++ r.entries) ≡ es

pub insert_later : (clock room : ℕ) (fs : List Entry) (r l k : Heap) (x : Entry) → IsDelayed clock room fs r l → clock < x.due → has_version x.version (insert_all l.entries (fs ++ r.entries)) ≡ false
    → length (insert_all l.entries (fs ++ r.entries)) < room → l.room ≤ k.room → k.entries ≡ insert x l.entries → Becomes clock room fs r k (insert x (insert_all l.entries (fs ++ r.entries)))
insert_later clock room fs r l k x d late fresh few grows is =
    let e = ap (λ es. insert_all es (fs ++ r.entries)) is ∙ inserted_more x l.entries (fs ++ r.entries) (inserted_fresh x.version l.entries (fs ++ r.entries) fresh).0 in
    let c = counted fs r.entries l.entries in
    let n = ap length is ∙ length_insert x l.entries in
    let later = d.later_room in
    record {
      delayed = record {
        rises = subst Rises (sym e) (rises_insert x (insert_all l.entries (fs ++ r.entries)) fresh d.rises);
        due = d.due;
        not_due = subst (NoneDue clock) (sym is) (all_insert (λ y. is_due clock y ≡ false) x l.entries (lt-leb x.due clock late) d.not_due);
        ready_room = d.ready_room;
        later_room = omega (arith, later, grows);
        count = omega (arith, c, n, few);
        fits = d.fits;
      };
      entries = e;
    }

pub insert_due : (clock room : ℕ) (fs gs : List Entry) (r q l : Heap) (x : Entry) → IsDelayed clock room fs r l → x.due ≤ clock → has_version x.version (insert_all l.entries (fs ++ r.entries)) ≡ false
    → length (insert_all l.entries (fs ++ r.entries)) < room → r.room ≤ q.room → gs ++ q.entries ≡ insert x (fs ++ r.entries) → Becomes clock room gs q l (insert x (insert_all l.entries (fs ++ r.entries)))
insert_due clock room fs gs r q l x d now fresh few grows is =
    let e = ap (insert_all l.entries) is ∙ inserted_base x l.entries (fs ++ r.entries) (inserted_fresh x.version l.entries (fs ++ r.entries) fresh).0 in
    let c = counted fs r.entries l.entries in
    let n = sym (length-append gs q.entries) ∙ ap length is ∙ length_insert x (fs ++ r.entries) in
    let m = length-append fs r.entries in
    let ready = d.ready_room in
    record {
      delayed = record {
        rises = subst Rises (sym e) (rises_insert x (insert_all l.entries (fs ++ r.entries)) fresh d.rises);
        due = subst (AllDue clock) (sym is) (all_insert (λ y. is_due clock y ≡ true) x (fs ++ r.entries) (le-leb x.due clock now) d.due);
        not_due = d.not_due;
        ready_room = omega (arith, ready, grows);
        later_room = d.later_room;
        count = omega (arith, c, n, m, few);
        fits = d.fits;
      };
      entries = e;
    }

-- what comes to the front or goes back from there changes nothing
pub moved : (clock room : ℕ) (fs gs : List Entry) (r q l : Heap) → IsDelayed clock room fs r l → gs ++ q.entries ≡ fs ++ r.entries → q.room ≡ r.room → Becomes clock room gs q l (insert_all l.entries (fs ++ r.entries))
moved clock room fs gs r q l d is same =
    let n = sym (length-append gs q.entries) ∙ ap length is ∙ length-append fs r.entries in
    let c = d.count in
    record {
      delayed = record {
        rises = subst Rises (sym (ap (insert_all l.entries) is)) d.rises;
        due = subst (AllDue clock) (sym is) d.due;
        not_due = d.not_due;
        ready_room = subst (λ m. room ≤ m) (sym same) d.ready_room;
        later_room = d.later_room;
        count = omega (arith, n, c);
        fits = d.fits;
      };
      entries = ap (insert_all l.entries) is;
    }

-- the first of those that are due is gone
pub taken : (clock room : ℕ) (fs gs : List Entry) (r q l : Heap) (x : Entry) → IsDelayed clock room fs r l → fs ++ r.entries ≡ x ∷ (gs ++ q.entries) → q.room ≡ r.room
    → Becomes clock room gs q l (without x.version (insert_all l.entries (fs ++ r.entries)))
taken clock room fs gs r q l x d is same =
    let up = subst Rises is (inserted_rises l.entries (fs ++ r.entries) d.rises) in
    let first = is ∙ sym (insert_front x (gs ++ q.entries) up.0) in
    let rises = subst (λ es. Rises (insert_all l.entries es)) first d.rises in
    let e = ap (insert_all l.entries) first ∙ inserted_base x l.entries (gs ++ q.entries) (base_fresh x l.entries (gs ++ q.entries) rises) in
    let left = insert_rises x (insert_all l.entries (gs ++ q.entries)) (subst Rises e d.rises) in
    let n = sym (length-append fs r.entries) ∙ ap length is in
    let m = length-append gs q.entries in
    let c = d.count in
    record {
      delayed = record {
        rises = left.1;
        due = (subst (AllDue clock) is d.due).1;
        not_due = d.not_due;
        ready_room = subst (λ k. room ≤ k) (sym same) d.ready_room;
        later_room = d.later_room;
        count = omega (arith, n, m, c);
        fits = d.fits;
      };
      entries = sym (without_insert x (insert_all l.entries (gs ++ q.entries)) left.0) ∙ ap (without x.version) (sym e);
    }

-- ---- the clock advances

pub start_moving : (clock room next : ℕ) (fs : List Entry) (r l : Heap) → clock ≤ next → IsDelayed clock room fs r l → IsMoving next fs r l
start_moving clock room next fs r l le d = record {
  rises = d.rises;
  due = all_later clock next (fs ++ r.entries) le d.due;
  count = let c = d.count in let m = d.ready_room in omega (arith, c, m);
}

-- one falls due
pub one_moves : (clock : ℕ) (fs gs : List Entry) (r q l k : Heap) (x : Entry) → IsMoving clock fs r l → l.entries ≡ insert x k.entries → is_due clock x ≡ true → r.room ≤ q.room → gs ++ q.entries ≡ insert x (fs ++ r.entries)
    → IsMoving clock gs q k × (insert_all k.entries (gs ++ q.entries) ≡ insert_all l.entries (fs ++ r.entries))
one_moves clock fs gs r q l k x m from now grows is =
    let f = more_fresh x k.entries (fs ++ r.entries) (subst (λ es. Rises (insert_all es (fs ++ r.entries))) from m.rises) in
    let e = ap (insert_all k.entries) is ∙ inserted_base x k.entries (fs ++ r.entries) f.0 ∙ sym (inserted_more x k.entries (fs ++ r.entries) f.0) ∙ ap (λ es. insert_all es (fs ++ r.entries)) (sym from) in
    let n = sym (length-append gs q.entries) ∙ ap length is ∙ length_insert x (fs ++ r.entries) in
    let o = length-append fs r.entries in
    let p = ap length from ∙ length_insert x k.entries in
    let c = m.count in (
      record {
        rises = subst Rises (sym e) m.rises;
        due = subst (AllDue clock) (sym is) (all_insert (λ y. is_due clock y ≡ true) x (fs ++ r.entries) now m.due);
        count = omega (arith, n, o, p, c, grows);
      },
      e,
    )

pub all_moved : (clock room next : ℕ) (fs gs : List Entry) (r q l k : Heap) → IsDelayed clock room fs r l → insert_all k.entries (gs ++ q.entries) ≡ insert_all l.entries (fs ++ r.entries)
    → AllDue next (gs ++ q.entries) → NoneDue next k.entries → r.room ≤ q.room → k.room ≡ l.room → IsDelayed next room gs q k
all_moved clock room next fs gs r q l k d e due none grows same =
    let a = counted gs q.entries k.entries in let b = counted fs r.entries l.entries in let n = ap length e in let c = d.count in let m = d.ready_room in
    record {
      rises = subst Rises (sym e) d.rises;
      due = due;
      not_due = none;
      ready_room = omega (arith, m, grows);
      later_room = subst (λ j. room ≤ j) (sym same) d.later_room;
      count = omega (arith, a, b, n, c);
      fits = d.fits;
    }

-- ---- what is read

pub due_here : (clock room : ℕ) (fs : List Entry) (r l : Heap) → IsDelayed clock room fs r l → filter (is_due clock) (insert_all l.entries (fs ++ r.entries)) ≡ fs ++ r.entries
due_here clock room fs r l d = due_is clock l.entries (fs ++ r.entries) d.not_due d.due

pub none_here : {A : Type 0} (xs : List A) (n : ℕ) → n ≡ length xs → n ≡ 0 → xs ≡ []
none_here [] n e z = refl
none_here (x ∷ xs) n e z = absurd (omega (arith, e, z))

pub get_front : (xs ys : List Entry) (i : ℕ) → i < length xs → slice_get (xs ++ ys) i ≡ slice_get xs i
get_front [] ys i lt = absurd (omega (arith, lt))
get_front (x ∷ xs) ys zero lt = refl
get_front (x ∷ xs) ys (suc i) lt = get_front xs ys i (omega (arith, lt))

-- what a heap's pop returns, and what it leaves
pub record Popped (clock room : ℕ) (gs : List Entry) (q l : Heap) (o : Option Entry) (es : List Entry) : Type 0 where
  pub delayed : IsDelayed clock room gs q l
  pub first : o ≡ slice_get (filter (is_due clock) es) 0
  pub left : MatchOption o (insert_all l.entries (gs ++ q.entries) ≡ es) (λ e. insert_all l.entries (gs ++ q.entries) ≡ without e.version es)

pub popped : (clock room : ℕ) (fs gs : List Entry) (r q l : Heap) (o : Option Entry) → IsDelayed clock room fs r l → fs ≡ [] → fs ≡ gs → q.room ≡ r.room → o ≡ slice_get r.entries 0 → q.entries ≡ drop 1 r.entries
    → Popped clock room gs q l o (insert_all l.entries (fs ++ r.entries))
popped clock room fs gs r q l o d empty same room_is first rest = by r.entries refl
  where
    alone : (es : List Entry) → fs ++ es ≡ es
    alone es = ap (λ xs. xs ++ es) empty

    here : gs ≡ []
    here = sym same ∙ empty

    by : (es : List Entry) → r.entries ≡ es → Popped clock room gs q l o (insert_all l.entries (fs ++ r.entries))
    by [] is =
        let none : q.entries ≡ r.entries = rest ∙ ap (drop 1) is ∙ sym is in
        let m = moved clock room fs gs r q l d (ap (λ xs. xs ++ q.entries) (sym same) ∙ ap (λ es. fs ++ es) none) room_is in
        let none_is : o ≡ None = first ∙ ap (λ es. slice_get es 0) is in
        record {
          delayed = m.delayed;
          first = none_is ∙ sym (ap (λ es. slice_get es 0) (due_here clock room fs r l d ∙ alone r.entries ∙ is));
          left = subst (λ p. MatchOption p (insert_all l.entries (gs ++ q.entries) ≡ insert_all l.entries (fs ++ r.entries)) (λ e. insert_all l.entries (gs ++ q.entries) ≡ without e.version (insert_all l.entries (fs ++ r.entries)))) (sym none_is) m.entries;
        }
    by (x ∷ xs) is =
        let next : q.entries ≡ xs = rest ∙ ap (drop 1) is in
        let t = taken clock room fs gs r q l x d (alone r.entries ∙ is ∙ ap (λ es. x ∷ es) (sym next ∙ sym (ap (λ ys. ys ++ q.entries) here))) room_is in
        let some_is : o ≡ Some x = first ∙ ap (λ es. slice_get es 0) is in
        record {
          delayed = t.delayed;
          first = some_is ∙ sym (ap (λ es. slice_get es 0) (due_here clock room fs r l d ∙ alone r.entries ∙ is));
          left = subst (λ p. MatchOption p (insert_all l.entries (gs ++ q.entries) ≡ insert_all l.entries (fs ++ r.entries)) (λ e. insert_all l.entries (gs ++ q.entries) ≡ without e.version (insert_all l.entries (fs ++ r.entries)))) (sym some_is) t.entries;
        }

-- the same, as callers see it
pub shown_left : (o : Option Entry) (clock room : ℕ) (es fs : List Entry) (d : Delays) → ◌≡◌ {A = Delays} (record { clock = clock; room = room; entries = es }) d
    → MatchOption o (fs ≡ es) (λ e. fs ≡ without e.version es)
    → MatchOption o (◌≡◌ {A = Delays} (record { clock = clock; room = room; entries = fs }) d) (λ e. ◌≡◌ {A = Delays} (record { clock = clock; room = room; entries = fs }) (record d { entries = without e.version d.entries }))
shown_left None clock room es fs d e m = ap (λ xs. record { clock = clock; room = room; entries = xs }) m ∙ e
shown_left (Some x) clock room es fs d e m = ap (λ xs. record { clock = clock; room = room; entries = xs }) m ∙ ap (λ (c : Delays). record c { entries = without x.version c.entries }) e

above_front : (v : ℕ) (xs ys : List Entry) → AllAbove v (xs ++ ys) → AllAbove v xs
above_front v [] ys a = tt
above_front v (x ∷ xs) ys a = (a.0, above_front v xs ys a.1)

pub front_rises : (xs ys : List Entry) → Rises (xs ++ ys) → Rises xs
front_rises [] ys r = tt
front_rises (x ∷ xs) ys r = (above_front x.version xs ys r.0, front_rises xs ys r.1)

-- the same of the whole value
pub shown_inserted : (x : Entry) (clock room : ℕ) (es fs : List Entry) (d : Delays) → ◌≡◌ {A = Delays} (record { clock = clock; room = room; entries = es }) d → fs ≡ insert x es
    → ◌≡◌ {A = Delays} (record { clock = clock; room = room; entries = fs }) (record d { entries = insert x d.entries })
shown_inserted x clock room es fs d e m = ap (λ xs. record { clock = clock; room = room; entries = xs }) m ∙ ap (λ (c : Delays). record c { entries = insert x c.entries }) e
