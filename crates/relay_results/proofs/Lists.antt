-- Lemmas on the words on lists, on tests and on places, for this crate and those above it.
use Rattle.std.proofs.Common.{◌≡◌, ◌≢◌, ◌∙◌, ℕ, zero, suc, ◌+◌, ◌<◌, ◌≤◌, List, [], ◌∷◌, ◌++◌, length, Option, Some, None, Bool, true, false, ◌&&◌, ◌==◌, refl, sym, ap, subst, ⊎_elim, inl, inr, arith}
use Rattle.std.specs.Prelude.{◌⊎◌, map, filter, not, if◌then◌else◌, ◌||◌, slice_get, is_some}
use Rattle.std.specs.List.{list_any}
use Rattle.std.specs.Bool.{MatchBool}
use Rattle.std.proofs.lemmas.Bool.Decides.{Decides-eqb}
use Rattle.relay_results.specs.Words.{Mem, IsSubsequence, AllDistinct, update, count, one_if}

-- ---- tests

pub apart_tests : false ≡ true → ⊥
apart_tests e = subst (λ b. MatchBool b ⊥ (Unit {0})) e tt

pub none_some : {A : Type 0} (x : A) → (let none : Option A = None in none ≡ Some x) → ⊥
none_some x e = apart_tests (ap is_some e)

pub some_same : {A : Type 0} (x y : A) → Some x ≡ Some y → x ≡ y
some_same x y e = cc

pub true_or_false : (b : Bool) → (b ≡ true) ⊎ (b ≡ false)
true_or_false true = inl refl
true_or_false false = inr refl

pub and_left : (a b : Bool) → (a && b) ≡ true → a ≡ true
and_left true b e = refl
and_left false b e = cc

pub and_right : (a b : Bool) → (a && b) ≡ true → b ≡ true
and_right true b e = e
and_right false b e = cc

pub and_both : (a b : Bool) → a ≡ true → b ≡ true → (a && b) ≡ true
and_both a b p q = ap (λ x. x && b) p ∙ q

pub not_true : (a : Bool) → not a ≡ true → a ≡ false
not_true true e = cc
not_true false e = refl

pub equal : (a b : ℕ) → (a == b) ≡ true → a ≡ b
equal a b e = (Decides-eqb a b).0 e

pub equal_test : (a b : ℕ) → a ≡ b → (a == b) ≡ true
equal_test a b e = (Decides-eqb a b).1 e

pub equal_or_not : (a b : ℕ) → (a ≡ b) ⊎ (a ≢ b)
equal_or_not a b = ⊎_elim (λ e. inl (equal a b e)) (λ e. inr (λ q. let t = equal_test a b q in cc)) (true_or_false (a == b))

-- ---- membership

pub Mem-left : {A : Type 0} (x : A) (xs ys : List A) → Mem x xs → Mem x (xs ++ ys)
Mem-left x [] ys h = elim h [ ]
Mem-left x (z ∷ xs) ys h = ⊎_elim (λ e. inl e) (λ m. inr (Mem-left x xs ys m)) h

pub Mem-right : {A : Type 0} (x : A) (xs ys : List A) → Mem x ys → Mem x (xs ++ ys)
Mem-right x [] ys h = h
Mem-right x (z ∷ xs) ys h = inr (Mem-right x xs ys h)

pub Mem-cases : {A : Type 0} (x : A) (xs ys : List A) → Mem x (xs ++ ys) → Mem x xs ⊎ Mem x ys
Mem-cases x [] ys h = inr h
Mem-cases x (z ∷ xs) ys h = ⊎_elim (λ e. inl (inl e)) (λ m. ⊎_elim (λ l. inl (inr l)) (λ r. inr r) (Mem-cases x xs ys m)) h

pub Mem-one : {A : Type 0} (x y : A) → Mem x (y ∷ []) → x ≡ y
Mem-one x y h = ⊎_elim (λ e. e) (λ m. absurd m) h

pub Mem-last : {A : Type 0} (xs : List A) (x : A) → Mem x (xs ++ x ∷ [])
Mem-last xs x = Mem-right x xs (x ∷ []) (inl refl)

pub Mem-push_cases : {A : Type 0} (x : A) (xs : List A) (y : A) → Mem x (xs ++ y ∷ []) → Mem x xs ⊎ (x ≡ y)
Mem-push_cases x xs y h = ⊎_elim (λ l. inl l) (λ r. inr (Mem-one x y r)) (Mem-cases x xs (y ∷ []) h)

pub Mem-map : {A B : Type 0} (f : A → B) (y : B) (xs : List A) → Mem y (map f xs) → (x : A) × Mem x xs × (y ≡ f x)
Mem-map f y [] h = elim h [ ]
Mem-map f y (z ∷ xs) h = ⊎_elim (λ e. (z, inl refl, e)) (λ m. let r = Mem-map f y xs m in (r.0, inr r.1, r.2)) h

pub map-Mem : {A B : Type 0} (f : A → B) (x : A) (xs : List A) → Mem x xs → Mem (f x) (map f xs)
map-Mem f x [] h = elim h [ ]
map-Mem f x (z ∷ xs) h = ⊎_elim (λ e. inl (ap f e)) (λ m. inr (map-Mem f x xs m)) h

Mem-filter_if : {A : Type 0} (p : A → Bool) (x z : A) (b : Bool) (xs ys : List A) → p z ≡ b → (Mem x ys → Mem x xs × (p x ≡ true)) → Mem x (if b then z ∷ ys else ys) → Mem x (z ∷ xs) × (p x ≡ true)
Mem-filter_if p x z true xs ys e rest h = ⊎_elim (λ q. (inl q, ap p q ∙ e)) (λ m. let r = rest m in (inr r.0, r.1)) h
Mem-filter_if p x z false xs ys e rest h = let r = rest h in (inr r.0, r.1)

pub Mem-filter : {A : Type 0} (p : A → Bool) (x : A) (xs : List A) → Mem x (filter p xs) → Mem x xs × (p x ≡ true)
Mem-filter p x [] h = elim h [ ]
Mem-filter p x (z ∷ xs) h = Mem-filter_if p x z (p z) xs (filter p xs) refl (Mem-filter p x xs) h

filter-Mem_if : {A : Type 0} (p : A → Bool) (x z : A) (b : Bool) (ys : List A) → p z ≡ b → p x ≡ true → (x ≡ z) ⊎ Mem x ys → Mem x (if b then z ∷ ys else ys)
filter-Mem_if p x z true ys e t h = h
filter-Mem_if p x z false ys e t h = ⊎_elim (λ q. let r = ap p q in absurd (cc)) (λ m. m) h

pub filter-Mem : {A : Type 0} (p : A → Bool) (x : A) (xs : List A) → Mem x xs → p x ≡ true → Mem x (filter p xs)
filter-Mem p x [] h t = elim h [ ]
filter-Mem p x (z ∷ xs) h t = filter-Mem_if p x z (p z) (filter p xs) refl t (⊎_elim (λ e. inl e) (λ m. inr (filter-Mem p x xs m t)) h)

any_or : {A : Type 0} (p : A → Bool) (z : A) (b : Bool) (xs : List A) → p z ≡ b → (b || list_any p xs) ≡ true → (list_any p xs ≡ true → (x : A) × Mem x xs × (p x ≡ true)) → (x : A) × Mem x (z ∷ xs) × (p x ≡ true)
any_or p z true xs e h rest = (z, inl refl, e)
any_or p z false xs e h rest = let r = rest h in (r.0, inr r.1, r.2)

pub any_true : {A : Type 0} (p : A → Bool) (xs : List A) → list_any p xs ≡ true → (x : A) × Mem x xs × (p x ≡ true)
any_true p [] h = absurd (cc)
any_true p (z ∷ xs) h = any_or p z (p z) xs refl h (any_true p xs)

pub or_left : (a b : Bool) → a ≡ true → (a || b) ≡ true
or_left true b e = refl
or_left false b e = cc

pub or_right : (a b : Bool) → b ≡ true → (a || b) ≡ true
or_right true b e = refl
or_right false b e = e

pub any_from : {A : Type 0} (p : A → Bool) (x : A) (xs : List A) → Mem x xs → p x ≡ true → list_any p xs ≡ true
any_from p x [] h t = elim h [ ]
any_from p x (z ∷ xs) h t = ⊎_elim (λ e. or_left (p z) (list_any p xs) (sym (ap p e) ∙ t)) (λ m. or_right (p z) (list_any p xs) (any_from p x xs m t)) h

pub any_false : {A : Type 0} (p : A → Bool) (x : A) (xs : List A) → list_any p xs ≡ false → Mem x xs → p x ≡ false
any_false p x xs h m = ⊎_elim (λ t. let r = any_from p x xs m t in absurd (cc)) (λ f. f) (true_or_false (p x))

-- ---- places

pub at-left : {A : Type 0} (xs ys : List A) (n : ℕ) (x : A) → slice_get xs n ≡ Some x → slice_get (xs ++ ys) n ≡ Some x
at-left [] ys n x h = absurd (cc)
at-left (z ∷ xs) ys zero x h = h
at-left (z ∷ xs) ys (suc n) x h = at-left xs ys n x h

pub at-cases : {A : Type 0} (xs : List A) (y : A) (n : ℕ) (x : A) → slice_get (xs ++ y ∷ []) n ≡ Some x → (slice_get xs n ≡ Some x) ⊎ ((n ≡ length xs) × (x ≡ y))
at-cases [] y zero x h = inr (refl, cc)
at-cases [] y (suc n) x h = absurd (cc)
at-cases (z ∷ xs) y zero x h = inl h
at-cases (z ∷ xs) y (suc n) x h = ⊎_elim (λ l. inl l) (λ r. inr (ap suc r.0, r.1)) (at-cases xs y n x h)

pub at-last : {A : Type 0} (xs : List A) (y : A) → slice_get (xs ++ y ∷ []) (length xs) ≡ Some y
at-last [] y = refl
at-last (z ∷ xs) y = at-last xs y

pub at-Mem : {A : Type 0} (xs : List A) (n : ℕ) (x : A) → slice_get xs n ≡ Some x → Mem x xs
at-Mem [] n x h = absurd (cc)
at-Mem (z ∷ xs) zero x h = inl (cc)
at-Mem (z ∷ xs) (suc n) x h = inr (at-Mem xs n x h)

pub Mem-at : {A : Type 0} (x : A) (xs : List A) → Mem x xs → (n : ℕ) × (slice_get xs n ≡ Some x)
Mem-at x [] h = elim h [ ]
Mem-at x (z ∷ xs) h = ⊎_elim (λ e. (zero, ap Some (sym e))) (λ m. let r = Mem-at x xs m in (suc r.0, r.1)) h

pub at-within : {A : Type 0} (xs : List A) (n : ℕ) (x : A) → slice_get xs n ≡ Some x → n < length xs
at-within [] n x h = absurd (cc)
at-within (z ∷ xs) zero x h = omega arith
at-within (z ∷ xs) (suc n) x h = let r = at-within xs n x h in omega arith

pub at-update-cases : {A : Type 0} (n : ℕ) (f : A → A) (xs : List A) (m : ℕ) (y : A) → slice_get (update n f xs) m ≡ Some y → ((m ≢ n) × (slice_get xs m ≡ Some y)) ⊎ ((m ≡ n) × ((x : A) × (slice_get xs n ≡ Some x) × (y ≡ f x)))
at-update-cases n f [] m y h = absurd (cc)
at-update-cases zero f (z ∷ xs) zero y h = inr (refl, (z, refl, cc))
at-update-cases zero f (z ∷ xs) (suc m) y h = inl ((λ e. absurd (omega (arith, e))), h)
at-update-cases (suc n) f (z ∷ xs) zero y h = inl ((λ e. absurd (omega (arith, e))), h)
at-update-cases (suc n) f (z ∷ xs) (suc m) y h = ⊎_elim (λ l. inl ((λ e. l.0 (omega (arith, e))), l.1)) (λ r. inr (ap suc r.0, r.1)) (at-update-cases n f xs m y h)

pub at-update_same : {A : Type 0} (n : ℕ) (f : A → A) (xs : List A) (x : A) → slice_get xs n ≡ Some x → slice_get (update n f xs) n ≡ Some (f x)
at-update_same n f [] x h = absurd (cc)
at-update_same zero f (z ∷ xs) x h = cc
at-update_same (suc n) f (z ∷ xs) x h = at-update_same n f xs x h

pub at-update_other : {A : Type 0} (n : ℕ) (f : A → A) (xs : List A) (m : ℕ) → m ≢ n → slice_get (update n f xs) m ≡ slice_get xs m
at-update_other n f [] m ne = refl
at-update_other zero f (z ∷ xs) zero ne = absurd (ne refl)
at-update_other zero f (z ∷ xs) (suc m) ne = refl
at-update_other (suc n) f (z ∷ xs) zero ne = refl
at-update_other (suc n) f (z ∷ xs) (suc m) ne = at-update_other n f xs m (λ e. ne (ap suc e))

-- ---- counts

pub count-append : {A : Type 0} (p : A → Bool) (xs ys : List A) → count p (xs ++ ys) ≡ count p xs + count p ys
count-append p [] ys = omega arith
count-append p (z ∷ xs) ys = let r = count-append p xs ys in omega arith

pub count-push : {A : Type 0} (p : A → Bool) (xs : List A) (y : A) → count p (xs ++ y ∷ []) ≡ count p xs + one_if (p y)
count-push p xs y = let r = count-append p xs (y ∷ []) in omega arith

pub count-update : {A : Type 0} (p : A → Bool) (n : ℕ) (f : A → A) (xs : List A) → ((x : A) → p (f x) ≡ p x) → count p (update n f xs) ≡ count p xs
count-update p n f [] same = refl
count-update p zero f (z ∷ xs) same = let r = ap one_if (same z) in omega arith
count-update p (suc n) f (z ∷ xs) same = let r = count-update p n f xs same in omega arith

-- one element is changed
pub count-update_at : {A : Type 0} (p : A → Bool) (n : ℕ) (f : A → A) (xs : List A) (x : A) → slice_get xs n ≡ Some x → count p (update n f xs) + one_if (p x) ≡ count p xs + one_if (p (f x))
count-update_at p n f [] x e = absurd (cc)
count-update_at p zero f (z ∷ xs) x e = let s : z ≡ x = cc in let a = ap (λ y. one_if (p y)) s in let b = ap (λ y. one_if (p (f y))) s in omega arith
count-update_at p (suc n) f (z ∷ xs) x e = let r = count-update_at p n f xs x e in omega arith

pub count_zero : {A : Type 0} (p : A → Bool) (xs : List A) → ((x : A) → Mem x xs → p x ≡ false) → count p xs ≡ 0
count_zero p [] none = refl
count_zero p (z ∷ xs) none = let r = count_zero p xs (λ x m. none x (inr m)) in let e = ap one_if (none z (inl refl)) in omega arith

pub count_some : {A : Type 0} (p : A → Bool) (x : A) (xs : List A) → Mem x xs → p x ≡ true → 1 ≤ count p xs
count_some p x [] h t = elim h [ ]
count_some p x (z ∷ xs) h t = ⊎_elim
    (λ e. let e' = ap one_if (sym (ap p e) ∙ t) in omega arith)
    (λ m. let r = count_some p x xs m t in omega arith) h

-- two places of one element that is counted at most once are one
pub count_once : {A : Type 0} (p : A → Bool) (xs : List A) (i j : ℕ) (x y : A) → slice_get xs i ≡ Some x → slice_get xs j ≡ Some y → p x ≡ true → p y ≡ true → count p xs ≤ 1 → i ≡ j
count_once p [] i j x y a b s t le = absurd (cc)
count_once p (z ∷ xs) zero zero x y a b s t le = refl
count_once p (z ∷ xs) zero (suc j) x y a b s t le =
    let e : z ≡ x = cc in
    let e' = ap one_if (ap p e ∙ s) in
    let r = count_some p y xs (at-Mem xs j y b) t in absurd (omega arith)
count_once p (z ∷ xs) (suc i) zero x y a b s t le =
    let e : z ≡ y = cc in
    let e' = ap one_if (ap p e ∙ t) in
    let r = count_some p x xs (at-Mem xs i x a) s in absurd (omega arith)
count_once p (z ∷ xs) (suc i) (suc j) x y a b s t le = ap suc (count_once p xs i j x y a b s t (omega arith))

pub distinct_places : {A : Type 0} (xs : List A) (i j : ℕ) (x : A) → AllDistinct xs → slice_get xs i ≡ Some x → slice_get xs j ≡ Some x → i ≡ j
distinct_places [] i j x d a b = absurd (cc)
distinct_places (z ∷ xs) zero zero x d a b = refl
distinct_places (z ∷ xs) zero (suc j) x d a b = let e : z ≡ x = cc in absurd (d.0 (subst (λ y. Mem y xs) (sym e) (at-Mem xs j x b)))
distinct_places (z ∷ xs) (suc i) zero x d a b = let e : z ≡ x = cc in absurd (d.0 (subst (λ y. Mem y xs) (sym e) (at-Mem xs i x a)))
distinct_places (z ∷ xs) (suc i) (suc j) x d a b = ap suc (distinct_places xs i j x d.1 a b)

pub at-map : {A B : Type 0} (f : A → B) (xs : List A) (n : ℕ) (x : A) → slice_get xs n ≡ Some x → slice_get (map f xs) n ≡ Some (f x)
at-map f [] n x h = absurd (cc)
at-map f (z ∷ xs) zero x h = cc
at-map f (z ∷ xs) (suc n) x h = at-map f xs n x h

pub map-at : {A B : Type 0} (f : A → B) (xs : List A) (n : ℕ) (y : B) → slice_get (map f xs) n ≡ Some y → (x : A) × (slice_get xs n ≡ Some x) × (f x ≡ y)
map-at f [] n y h = absurd (cc)
map-at f (z ∷ xs) zero y h = (z, refl, cc)
map-at f (z ∷ xs) (suc n) y h = map-at f xs n y h

pub length-update : {A : Type 0} (n : ℕ) (f : A → A) (xs : List A) → length (update n f xs) ≡ length xs
length-update n f [] = refl
length-update zero f (x ∷ xs) = refl
length-update (suc n) f (x ∷ xs) = ap suc (length-update n f xs)

-- ---- empty lists

pub none_in : {A : Type 0} (xs : List A) (x : A) → xs ≡ [] → Mem x xs → ⊥
none_in xs x e m = subst (λ z. Mem x z) e m

pub none_at : {A : Type 0} (xs : List A) (n : ℕ) (x : A) → xs ≡ [] → slice_get xs n ≡ Some x → ⊥
none_at xs n x e s = let s' : slice_get [] n ≡ Some x = subst (λ z. slice_get z n ≡ Some x) e s in cc

-- ---- subsequences, and lists whose elements are distinct

pub sub_itself : {A : Type 0} (xs : List A) → IsSubsequence xs xs
sub_itself [] = tt
sub_itself (x ∷ xs) = inl (refl, sub_itself xs)

pub sub-left : {A : Type 0} (xs ys zs : List A) → IsSubsequence xs ys → IsSubsequence xs (ys ++ zs)
sub-left [] ys zs h = tt
sub-left (x ∷ xs) [] zs h = elim h [ ]
sub-left (x ∷ xs) (y ∷ ys) zs h = ⊎_elim (λ l. inl (l.0, sub-left xs ys zs l.1)) (λ r. inr (sub-left (x ∷ xs) ys zs r)) h

pub sub_joined : {A : Type 0} (xs ys zs : List A) → IsSubsequence xs ys → IsSubsequence ys zs → IsSubsequence xs zs
sub_joined [] ys zs h k = tt
sub_joined (x ∷ xs) [] zs h k = elim h [ ]
sub_joined (x ∷ xs) (y ∷ ys) [] h k = elim k [ ]
sub_joined (x ∷ xs) (y ∷ ys) (z ∷ zs) h k = ⊎_elim
    (λ l. ⊎_elim
    (λ a. inl (a.0 ∙ l.0, sub_joined xs ys zs a.1 l.1))
    (λ b. inr (sub_joined (x ∷ xs) ys zs b l.1))
    h)
    (λ r. inr (sub_joined (x ∷ xs) (y ∷ ys) zs h r))
    k

sub_drop : {A : Type 0} (p : A → Bool) (b : Bool) (x : A) (xs ys : List A) → IsSubsequence xs ys → IsSubsequence (if b then x ∷ xs else xs) (if b then x ∷ ys else ys)
sub_drop p true x xs ys h = inl (refl, h)
sub_drop p false x xs ys h = h

sub_more : {A : Type 0} (b : Bool) (xs : List A) (y : A) (ys : List A) → IsSubsequence xs ys → IsSubsequence xs (if b then y ∷ ys else ys)
sub_more true [] y ys h = tt
sub_more true (x ∷ xs) y ys h = inr h
sub_more false xs y ys h = h

pub sub-filter : {A : Type 0} (p : A → Bool) (xs ys : List A) → IsSubsequence xs ys → IsSubsequence (filter p xs) (filter p ys)
sub-filter p [] ys h = tt
sub-filter p (x ∷ xs) [] h = elim h [ ]
sub-filter p (x ∷ xs) (y ∷ ys) h = ⊎_elim
    (λ l. subst (λ z. IsSubsequence (filter p (x ∷ xs)) (filter p (z ∷ ys))) l.0 (sub_drop p (p x) x (filter p xs) (filter p ys) (sub-filter p xs ys l.1)))
    (λ r. sub_more (p y) (filter p (x ∷ xs)) y (filter p ys) (sub-filter p (x ∷ xs) ys r))
    h

sub_less : {A : Type 0} (b : Bool) (x : A) (xs ys : List A) → IsSubsequence xs ys → IsSubsequence (if b then x ∷ xs else xs) (x ∷ ys)
sub_less true x xs ys h = inl (refl, h)
sub_less false x xs ys h = sub_more true xs x ys h

pub filter_sub : {A : Type 0} (p : A → Bool) (xs : List A) → IsSubsequence (filter p xs) xs
filter_sub p [] = tt
filter_sub p (x ∷ xs) = sub_less (p x) x (filter p xs) xs (filter_sub p xs)

pub Mem-sub : {A : Type 0} (x : A) (xs ys : List A) → IsSubsequence xs ys → Mem x xs → Mem x ys
Mem-sub x [] ys h m = elim m [ ]
Mem-sub x (z ∷ xs) [] h m = elim h [ ]
Mem-sub x (z ∷ xs) (y ∷ ys) h m = ⊎_elim
    (λ l. ⊎_elim (λ e. inl (e ∙ l.0)) (λ m'. inr (Mem-sub x xs ys l.1 m')) m)
    (λ r. inr (Mem-sub x (z ∷ xs) ys r m))
    h

pub AllDistinct-sub : {A : Type 0} (xs ys : List A) → AllDistinct ys → IsSubsequence xs ys → AllDistinct xs
AllDistinct-sub [] ys d h = tt
AllDistinct-sub (x ∷ xs) [] d h = elim h [ ]
AllDistinct-sub (x ∷ xs) (y ∷ ys) d h = ⊎_elim
    (λ l. ((λ m. d.0 (subst (λ z. Mem z ys) l.0 (Mem-sub x xs ys l.1 m))), AllDistinct-sub xs ys d.1 l.1))
    (λ r. AllDistinct-sub (x ∷ xs) ys d.1 r)
    h

pub sub-map : {A B : Type 0} (f : A → B) (xs ys : List A) → IsSubsequence xs ys → IsSubsequence (map f xs) (map f ys)
sub-map f [] ys h = tt
sub-map f (x ∷ xs) [] h = absurd h
sub-map f (x ∷ xs) (y ∷ ys) h = ⊎_elim (λ l. inl (ap f l.0, sub-map f xs ys l.1)) (λ r. inr (sub-map f (x ∷ xs) ys r)) h
