-- Lists in ascending order of version, and what insertion does to lists of distinct versions.
use Rattle.std.proofs.Common.{◌≡◌, ℕ, ◌+◌, ◌<◌, ◌≤◌, List, [], ◌∷◌, length, Bool, false, ◌==◌, refl, sym, ap, ◌∙◌, subst, ⊎_elim, inl, inr, arith}
use Rattle.std.specs.Prelude.{◌⊎◌, nat_lt, filter}
use Rattle.std.specs.List.{IsDistinct, AllByRecursion}
use Rattle.std.specs.List.Sorted.{IsPermutation}
use Rattle.std.proofs.Permutation.{every_shuffled}
use Rattle.std.proofs.lemmas.Bool.{cases_Bool, lt-ltb, ltb-true, ltb-false, le-ltb, eqb-false, eqb-true, eq-eqb, ne_eqb, or_parts, or_from}
use Rattle.std.proofs.lemmas.List.Sorted.{IsPermutation-sym}
use Rattle.std.proofs.lemmas.Map.Keys.{IsDistinct-IsPermutation, IsDistinct-head, IsDistinct-tail, IsDistinct-cons}
use Rattle.relay_delay.specs.declared.entry.Entry.{Entry}
use Rattle.relay_delay.specs.Waiting.{AllAbove, Rises, has_version, insert, without}
use Rattle.relay_delay.specs.Heaps.{sort, insert_all, same_version}

-- it is one of them
abbrev pub Mem : Entry → List Entry → Type 0
Mem x [] = ⊥
Mem x (y ∷ ys) = (x ≡ y) ⊎ Mem x ys

pub strict : (a b : ℕ) → a ≤ b → (a ≡ b → ⊥) → a < b
strict a b le n = ⊎_elim {C = a < b} (λ t. ltb-true a b t) (λ f. let ge = ltb-false a b f in let e : a ≡ b = omega (arith, le, ge) in absurd (n e)) (cases_Bool (nat_lt a b))

-- ---- insertion

pub insert_before : (x e : Entry) (es : List Entry) → x.version < e.version → insert x (e ∷ es) ≡ x ∷ e ∷ es
insert_before x e es lt = rw (lt-ltb x.version e.version lt) refl

pub insert_past : (x e : Entry) (es : List Entry) → e.version ≤ x.version → insert x (e ∷ es) ≡ e ∷ insert x es
insert_past x e es le = rw (le-ltb x.version e.version le) refl

-- what holds at both places holds after an insertion
pub by_place : (P : List Entry → Type 0) (x e : Entry) (es : List Entry) → (x.version < e.version → P (x ∷ e ∷ es)) → (e.version ≤ x.version → P (e ∷ insert x es)) → P (insert x (e ∷ es))
by_place P x e es f g = ⊎_elim {C = P (insert x (e ∷ es))}
    (λ t. let lt = ltb-true x.version e.version t in subst P (sym (insert_before x e es lt)) (f lt))
    (λ n. let le = ltb-false x.version e.version n in subst P (sym (insert_past x e es le)) (g le))
    (cases_Bool (nat_lt x.version e.version))

pub insert_front : (x : Entry) (es : List Entry) → AllAbove x.version es → insert x es ≡ x ∷ es
insert_front x [] a = refl
insert_front x (e ∷ es) a = insert_before x e es a.0

pub length_insert : (x : Entry) (es : List Entry) → length (insert x es) ≡ length es + 1
length_insert x [] = omega arith
length_insert x (e ∷ es) = by_place (λ xs. length xs ≡ length (e ∷ es) + 1) x e es (λ lt. omega arith) (λ le. let ih = length_insert x es in omega (arith, ih))

pub length_sorted : (es : List Entry) → length (sort es) ≡ length es
length_sorted [] = refl
length_sorted (e ∷ es) = let l = length_insert e (sort es) in let ih = length_sorted es in omega (arith, l, ih)

pub mem_insert : (y x : Entry) (es : List Entry) → Mem y (x ∷ es) → Mem y (insert x es)
mem_insert y x [] m = m
mem_insert y x (e ∷ es) m = by_place (Mem y) x e es (λ lt. m)
    (λ le. ⊎_elim (λ q. inr (mem_insert y x es (inl q))) (λ n. ⊎_elim (λ q. inl q) (λ k. inr (mem_insert y x es (inr k))) n) m)

pub insert_mem : (y x : Entry) (es : List Entry) → Mem y (insert x es) → Mem y (x ∷ es)
insert_mem y x [] m = m
insert_mem y x (e ∷ es) m = by_place (λ xs. Mem y xs → Mem y (x ∷ e ∷ es)) x e es (λ lt n. n)
    (λ le n. ⊎_elim (λ q. inr (inl q)) (λ k. ⊎_elim (λ q. inl q) (λ j. inr (inr j)) (insert_mem y x es k)) n) m

pub mem_sorted : (y : Entry) (es : List Entry) → Mem y es → Mem y (sort es)
mem_sorted y [] m = m
mem_sorted y (e ∷ es) m = mem_insert y e (sort es) (⊎_elim (λ q. inl q) (λ n. inr (mem_sorted y es n)) m)

pub sorted_mem : (y : Entry) (es : List Entry) → Mem y (sort es) → Mem y es
sorted_mem y [] m = m
sorted_mem y (e ∷ es) m = ⊎_elim (λ q. inl q) (λ n. inr (sorted_mem y es n)) (insert_mem y e (sort es) m)

-- two that differ may be inserted in either order
pub insert_commutes : (x y : Entry) (es : List Entry) → (x.version ≡ y.version → ⊥) → insert x (insert y es) ≡ insert y (insert x es)
insert_commutes x y [] n = ⊎_elim {C = insert x (y ∷ []) ≡ insert y (x ∷ [])}
    (λ t. let lt = ltb-true x.version y.version t in insert_before x y [] lt ∙ sym (insert_past y x [] (omega (arith, lt))))
    (λ f. let le = ltb-false x.version y.version f in insert_past x y [] le ∙ sym (insert_before y x [] (strict y.version x.version le (λ q. n (sym q)))))
    (cases_Bool (nat_lt x.version y.version))
insert_commutes x y (e ∷ es) n = ⊎_elim {C = insert x (insert y (e ∷ es)) ≡ insert y (insert x (e ∷ es))}
    (λ t. let xe = ltb-true x.version e.version t in ⊎_elim {C = insert x (insert y (e ∷ es)) ≡ insert y (insert x (e ∷ es))}
    (λ u. let ye = ltb-true y.version e.version u in
    ap (insert x) (insert_before y e es ye) ∙ ⊎_elim {C = insert x (y ∷ e ∷ es) ≡ insert y (x ∷ e ∷ es)}
    (λ v. let lt = ltb-true x.version y.version v in insert_before x y (e ∷ es) lt ∙ ap (λ xs. x ∷ xs) (sym (insert_before y e es ye)) ∙ sym (insert_past y x (e ∷ es) (omega (arith, lt))))
    (λ v. let le = ltb-false x.version y.version v in insert_past x y (e ∷ es) le ∙ ap (λ xs. y ∷ xs) (insert_before x e es xe) ∙ sym (insert_before y x (e ∷ es) (strict y.version x.version le (λ q. n (sym q)))))
    (cases_Bool (nat_lt x.version y.version)) ∙ ap (insert y) (sym (insert_before x e es xe)))
    (λ u. let ye = ltb-false y.version e.version u in
    ap (insert x) (insert_past y e es ye) ∙ insert_before x e (insert y es) xe ∙ ap (λ xs. x ∷ xs) (sym (insert_past y e es ye)) ∙ sym (insert_past y x (e ∷ es) (omega (arith, xe, ye))) ∙ ap (insert y) (sym (insert_before x e es xe)))
    (cases_Bool (nat_lt y.version e.version)))
    (λ t. let xe = ltb-false x.version e.version t in ⊎_elim {C = insert x (insert y (e ∷ es)) ≡ insert y (insert x (e ∷ es))}
    (λ u. let ye = ltb-true y.version e.version u in
    ap (insert x) (insert_before y e es ye) ∙ insert_past x y (e ∷ es) (omega (arith, xe, ye)) ∙ ap (λ xs. y ∷ xs) (insert_past x e es xe) ∙ sym (insert_before y e (insert x es) ye) ∙ ap (insert y) (sym (insert_past x e es xe)))
    (λ u. let ye = ltb-false y.version e.version u in
    ap (insert x) (insert_past y e es ye) ∙ insert_past x e (insert y es) xe ∙ ap (λ xs. e ∷ xs) (insert_commutes x y es n) ∙ sym (insert_past y e (insert x es) ye) ∙ ap (insert y) (sym (insert_past x e es xe)))
    (cases_Bool (nat_lt y.version e.version)))
    (cases_Bool (nat_lt x.version e.version))

-- ---- a version that none has

pub fresh_head : (v : ℕ) (e : Entry) (es : List Entry) → has_version v (e ∷ es) ≡ false → e.version ≡ v → ⊥
fresh_head v e es f = eqb-false e.version v (or_parts (e.version == v) (has_version v es) f).0

pub fresh_tail : (v : ℕ) (e : Entry) (es : List Entry) → has_version v (e ∷ es) ≡ false → has_version v es ≡ false
fresh_tail v e es f = (or_parts (e.version == v) (has_version v es) f).1

pub fresh_cons : (v : ℕ) (e : Entry) (es : List Entry) → (e.version ≡ v → ⊥) → has_version v es ≡ false → has_version v (e ∷ es) ≡ false
fresh_cons v e es n f = or_from (e.version == v) (has_version v es) (ne_eqb e.version v n) f

pub fresh_insert : (v : ℕ) (x : Entry) (es : List Entry) → has_version v (x ∷ es) ≡ false → has_version v (insert x es) ≡ false
fresh_insert v x [] f = f
fresh_insert v x (e ∷ es) f = by_place (λ xs. has_version v xs ≡ false) x e es (λ lt. f)
    (λ le. let t = fresh_tail v x (e ∷ es) f in fresh_cons v e (insert x es) (fresh_head v e es t) (fresh_insert v x es (fresh_cons v x es (fresh_head v x (e ∷ es) f) (fresh_tail v e es t))))

pub insert_fresh : (v : ℕ) (x : Entry) (es : List Entry) → has_version v (insert x es) ≡ false → has_version v (x ∷ es) ≡ false
insert_fresh v x [] f = f
insert_fresh v x (e ∷ es) f = by_place (λ xs. has_version v xs ≡ false → has_version v (x ∷ e ∷ es) ≡ false) x e es (λ lt g. g)
    (λ le g. let ih = insert_fresh v x es (fresh_tail v e (insert x es) g) in
    fresh_cons v x (e ∷ es) (fresh_head v x es ih) (fresh_cons v e es (fresh_head v e (insert x es) g) (fresh_tail v x es ih))) f

pub sorted_fresh : (v : ℕ) (es : List Entry) → has_version v (sort es) ≡ false → has_version v es ≡ false
sorted_fresh v [] f = f
sorted_fresh v (e ∷ es) f = let g = insert_fresh v e (sort es) f in fresh_cons v e es (fresh_head v e (sort es) g) (sorted_fresh v es (fresh_tail v e (sort es) g))

pub fresh_sorted : (v : ℕ) (es : List Entry) → has_version v es ≡ false → has_version v (sort es) ≡ false
fresh_sorted v [] f = f
fresh_sorted v (e ∷ es) f = fresh_insert v e (sort es) (fresh_cons v e (sort es) (fresh_head v e es f) (fresh_sorted v es (fresh_tail v e es f)))

pub fresh_above : (v : ℕ) (es : List Entry) → AllAbove v es → has_version v es ≡ false
fresh_above v [] a = refl
fresh_above v (e ∷ es) a = let lt = a.0 in fresh_cons v e es (λ q. omega (arith, lt, q)) (fresh_above v es a.1)

-- it is gone, and nothing else
pub without_fresh : (v : ℕ) (es : List Entry) → has_version v es ≡ false → without v es ≡ es
without_fresh v [] f = refl
without_fresh v (e ∷ es) f = rw (ne_eqb e.version v (fresh_head v e es f)) (ap (λ xs. e ∷ xs) (without_fresh v es (fresh_tail v e es f)))

without_here : (x : Entry) (es : List Entry) → without x.version (x ∷ es) ≡ without x.version es
without_here x es = rw (eq-eqb x.version x.version refl) refl

without_past : (v : ℕ) (e : Entry) (es : List Entry) → (e.version ≡ v → ⊥) → without v (e ∷ es) ≡ e ∷ without v es
without_past v e es n = rw (ne_eqb e.version v n) refl

pub without_insert : (x : Entry) (es : List Entry) → has_version x.version es ≡ false → without x.version (insert x es) ≡ es
without_insert x [] f = without_here x []
without_insert x (e ∷ es) f = by_place (λ xs. without x.version xs ≡ e ∷ es) x e es
    (λ lt. without_here x (e ∷ es) ∙ without_fresh x.version (e ∷ es) f)
    (λ le. without_past x.version e (insert x es) (fresh_head x.version e es f) ∙ ap (λ xs. e ∷ xs) (without_insert x es (fresh_tail x.version e es f)))

-- ---- increasing versions

pub above_more : (v w : ℕ) (es : List Entry) → v ≤ w → AllAbove w es → AllAbove v es
above_more v w [] le a = tt
above_more v w (e ∷ es) le a = (omega (arith, a.0, le), above_more v w es le a.1)

pub above_mem : (v : ℕ) (es : List Entry) (x : Entry) → AllAbove v es → Mem x es → v < x.version
above_mem v [] x a m = elim m [ ]
above_mem v (e ∷ es) x a m = ⊎_elim (λ q. let w = ap (λ (y : Entry). y.version) q in omega (arith, a.0, w)) (λ n. above_mem v es x a.1 n) m

pub above_insert : (v : ℕ) (x : Entry) (es : List Entry) → v < x.version → AllAbove v es → AllAbove v (insert x es)
above_insert v x [] lt a = (lt, tt)
above_insert v x (e ∷ es) lt a = by_place (AllAbove v) x e es (λ u. (lt, a)) (λ le. (a.0, above_insert v x es lt a.1))

insert_above : (v : ℕ) (x : Entry) (es : List Entry) → AllAbove v (insert x es) → (v < x.version) × AllAbove v es
insert_above v x [] a = a
insert_above v x (e ∷ es) a = by_place (λ xs. AllAbove v xs → (v < x.version) × AllAbove v (e ∷ es)) x e es (λ lt b. b) (λ le b. let ih = insert_above v x es b.1 in (ih.0, (b.0, ih.1))) a

pub rises_insert : (x : Entry) (es : List Entry) → has_version x.version es ≡ false → Rises es → Rises (insert x es)
rises_insert x [] f r = (tt, tt)
rises_insert x (e ∷ es) f r = by_place Rises x e es
    (λ lt. ((lt, above_more x.version e.version es (omega (arith, lt)) r.0), r))
    (λ le. (above_insert e.version x es (strict e.version x.version le (fresh_head x.version e es f)) r.0, rises_insert x es (fresh_tail x.version e es f) r.1))

pub insert_rises : (x : Entry) (es : List Entry) → Rises (insert x es) → (has_version x.version es ≡ false) × Rises es
insert_rises x [] r = (refl, tt)
insert_rises x (e ∷ es) r = by_place (λ xs. Rises xs → (has_version x.version (e ∷ es) ≡ false) × Rises (e ∷ es)) x e es
    (λ lt s. (fresh_above x.version (e ∷ es) s.0, s.1))
    (λ le s. let a = insert_above e.version x es s.0 in let ih = insert_rises x es s.1 in let lt = a.0 in
    (fresh_cons x.version e es (λ q. omega (arith, lt, q)) ih.0, (a.1, ih.1))) r

above_filter : (p : Entry → Bool) (v : ℕ) (es : List Entry) → AllAbove v es → AllAbove v (filter p es)
above_filter p v [] a = tt
above_filter p v (e ∷ es) a = ⊎_elim {C = AllAbove v (filter p (e ∷ es))} (λ t. rw t (a.0, above_filter p v es a.1)) (λ t. rw t (above_filter p v es a.1)) (cases_Bool (p e))

pub rises_filter : (p : Entry → Bool) (es : List Entry) → Rises es → Rises (filter p es)
rises_filter p [] r = tt
rises_filter p (e ∷ es) r = ⊎_elim {C = Rises (filter p (e ∷ es))} (λ t. rw t (above_filter p e.version es r.0, rises_filter p es r.1)) (λ t. rw t (rises_filter p es r.1)) (cases_Bool (p e))

-- two lists of the same operations, in ascending order of version, are equal
pub one_list : (xs ys : List Entry) → Rises xs → Rises ys → ((z : Entry) → Mem z xs → Mem z ys) → ((z : Entry) → Mem z ys → Mem z xs) → xs ≡ ys
one_list [] [] r s f g = refl
one_list [] (y ∷ ys) r s f g = absurd (g y (inl refl))
one_list (x ∷ xs) [] r s f g = absurd (f x (inl refl))
one_list (x ∷ xs) (y ∷ ys) r s f g =
    (λ i. head i ∷ one_list xs ys r.1 s.1 (λ z m. rest x xs y ys r.0 (sym head) z m (f z (inr m))) (λ z m. rest y ys x xs s.0 head z m (g z (inr m))) i)
  where
    rest : (a : Entry) (zs : List Entry) (b : Entry) (bs : List Entry) → AllAbove a.version zs → b ≡ a → (z : Entry) → Mem z zs → Mem z (b ∷ bs) → Mem z bs
    rest a zs b bs up is z m n = ⊎_elim {C = Mem z bs}
        (λ q. let lt = above_mem a.version zs z up m in let v = ap (λ (w : Entry). w.version) (q ∙ is) in absurd (omega (arith, lt, v)))
        (λ k. k) n

    head : x ≡ y
    head = ⊎_elim {C = x ≡ y} (λ q. q)
        (λ m. ⊎_elim {C = x ≡ y} (λ q. sym q)
        (λ n. let a = above_mem y.version ys x s.0 m in let b = above_mem x.version xs y r.0 n in absurd (omega (arith, a, b)))
        (g y (inl refl)))
        (f x (inl refl))

-- ---- lists whose versions differ

differ_fresh : (x : Entry) (es : List Entry) → AllByRecursion (λ y. same_version x y ≡ false) es → has_version x.version es ≡ false
differ_fresh x [] a = refl
differ_fresh x (e ∷ es) a = let n = eqb-false x.version e.version a.0 in fresh_cons x.version e es (λ q. n (sym q)) (differ_fresh x es a.1)

fresh_differ : (x : Entry) (es : List Entry) → has_version x.version es ≡ false → AllByRecursion (λ y. same_version x y ≡ false) es
fresh_differ x [] f = tt
fresh_differ x (e ∷ es) f = let n = fresh_head x.version e es f in (ne_eqb x.version e.version (λ q. n (sym q)), fresh_differ x es (fresh_tail x.version e es f))

pub distinct_cons : (x : Entry) (es : List Entry) → has_version x.version es ≡ false → IsDistinct same_version es → IsDistinct same_version (x ∷ es)
distinct_cons x es f d = IsDistinct-cons same_version x es (fresh_differ x es f) d

pub distinct_head : (x : Entry) (es : List Entry) → IsDistinct same_version (x ∷ es) → has_version x.version es ≡ false
distinct_head x es d = differ_fresh x es (IsDistinct-head same_version x es d)

version_flips : (a b : Entry) → same_version a b ≡ same_version b a
version_flips a b = ⊎_elim {C = same_version a b ≡ same_version b a}
    (λ t. t ∙ sym (eq-eqb b.version a.version (sym (eqb-true a.version b.version t))))
    (λ f. let n = eqb-false a.version b.version f in f ∙ sym (ne_eqb b.version a.version (λ q. n (sym q))))
    (cases_Bool (same_version a b))

pub rises_sorted : (es : List Entry) → IsDistinct same_version es → Rises (sort es)
rises_sorted [] d = tt
rises_sorted (e ∷ es) d = rises_insert e (sort es) (fresh_sorted e.version es (distinct_head e es d)) (rises_sorted es (IsDistinct-tail same_version e es d))

-- each is one of them
own : (xs ys : List Entry) → ((z : Entry) → Mem z xs → Mem z ys) → AllByRecursion (λ z. Mem z ys) xs
own [] ys f = tt
own (x ∷ xs) ys f = (f x (inl refl), own xs ys (λ z m. f z (inr m)))

of_all : (xs ys : List Entry) → AllByRecursion (λ z. Mem z ys) xs → (z : Entry) → Mem z xs → Mem z ys
of_all [] ys a z m = elim m [ ]
of_all (x ∷ xs) ys a z m = ⊎_elim {C = Mem z ys} (λ q. subst (λ w. Mem w ys) (sym q) a.0) (λ n. of_all xs ys a.1 z n) m

pub mem_moved : (xs ys : List Entry) → IsPermutation xs ys → (z : Entry) → Mem z ys → Mem z xs
mem_moved xs ys p z m = of_all ys xs (every_shuffled (λ w. Mem w xs) xs ys p (own xs xs (λ w k. k))) z m

pub distinct_moved : (xs ys : List Entry) → IsPermutation xs ys → IsDistinct same_version xs → IsDistinct same_version ys
distinct_moved xs ys p d = IsDistinct-IsPermutation same_version version_flips xs ys p d

-- inserting them in any order gives the same list
pub sorted_moved : (xs ys : List Entry) → IsPermutation xs ys → IsDistinct same_version xs → sort xs ≡ sort ys
sorted_moved xs ys p d = one_list (sort xs) (sort ys) (rises_sorted xs d) (rises_sorted ys (distinct_moved xs ys p d))
    (λ z m. mem_sorted z ys (mem_moved ys xs (IsPermutation-sym xs ys p) z (sorted_mem z xs m)))
    (λ z m. mem_sorted z xs (mem_moved xs ys p z (sorted_mem z ys m)))

-- ---- two lists, one put into the other

pub length_inserted : (xs es : List Entry) → length (insert_all xs es) ≡ length xs + length es
length_inserted [] es = omega arith
length_inserted (x ∷ xs) es = let l = length_insert x (insert_all xs es) in let ih = length_inserted xs es in omega (arith, l, ih)

pub inserted_fresh : (v : ℕ) (xs es : List Entry) → has_version v (insert_all xs es) ≡ false → (has_version v xs ≡ false) × (has_version v es ≡ false)
inserted_fresh v [] es f = (refl, f)
inserted_fresh v (x ∷ xs) es f = let g = insert_fresh v x (insert_all xs es) f in let ih = inserted_fresh v xs es (fresh_tail v x (insert_all xs es) g) in
    (fresh_cons v x xs (fresh_head v x (insert_all xs es) g) ih.0, ih.1)

-- one more in the list that the others are put into
pub inserted_base : (x : Entry) (xs es : List Entry) → has_version x.version xs ≡ false → insert_all xs (insert x es) ≡ insert x (insert_all xs es)
inserted_base x [] es f = refl
inserted_base x (y ∷ ys) es f = ap (insert y) (inserted_base x ys es (fresh_tail x.version y ys f)) ∙ insert_commutes y x (insert_all ys es) (fresh_head x.version y ys f)

-- one more in the list that is put into the other
pub inserted_more : (x : Entry) (xs es : List Entry) → has_version x.version xs ≡ false → insert_all (insert x xs) es ≡ insert x (insert_all xs es)
inserted_more x [] es f = refl
inserted_more x (y ∷ ys) es f = by_place (λ zs. insert_all zs es ≡ insert x (insert_all (y ∷ ys) es)) x y ys (λ lt. refl)
    (λ le. ap (insert y) (inserted_more x ys es (fresh_tail x.version y ys f)) ∙ insert_commutes y x (insert_all ys es) (fresh_head x.version y ys f))
